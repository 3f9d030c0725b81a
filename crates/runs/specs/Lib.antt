pub mod Answer
pub mod Example
pub mod Law
pub mod Model
pub mod Run
pub mod State
