pub mod Readings
pub mod Outputs
pub mod Answers
pub mod Looks
pub mod Served
pub mod Examples
