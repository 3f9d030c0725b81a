-- What the proofs of src/pieces.rt use.
pub mod Cuts
