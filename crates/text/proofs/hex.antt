-- What the proofs of src/hex.rt use.
pub mod Ascii
