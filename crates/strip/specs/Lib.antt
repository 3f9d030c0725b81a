pub mod Cells
pub mod Curve
pub mod Patch
pub mod Refusal
pub mod Strip
