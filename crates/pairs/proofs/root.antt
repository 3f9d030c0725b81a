-- What the proofs of src/root.rt use.
pub mod Laws
pub mod Values
