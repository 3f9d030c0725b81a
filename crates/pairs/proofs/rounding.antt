-- What the proofs of src/rounding.rt use.
pub mod Laws
