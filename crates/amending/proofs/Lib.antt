pub mod Steps
pub mod Outcome
