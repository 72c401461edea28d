pub mod Sizes
pub mod Outcome
