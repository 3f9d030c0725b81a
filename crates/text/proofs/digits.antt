-- What the proofs of src/digits.rt use.
pub mod Numerals
