pub mod SoFar
pub mod Turns
