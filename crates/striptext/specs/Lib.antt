pub mod Name
pub mod Session
pub mod Step
pub mod Written
