pub mod Bits
pub mod Whole
pub mod Narrowing
pub mod Root
pub mod DoubleDouble
pub mod Value
pub mod Fused
