-- What the proofs of src/session.rt use.
pub mod Fitted
