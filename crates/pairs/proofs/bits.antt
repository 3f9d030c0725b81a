-- What the proofs of src/bits.rt use.
pub mod Laws
