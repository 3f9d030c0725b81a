-- What the proofs of src/narrowing.rt use.
pub mod Laws
