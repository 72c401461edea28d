pub mod Outcome
pub mod Rows
pub mod Sizes
