-- What the proofs of src/whole.rt use.
pub mod Laws
