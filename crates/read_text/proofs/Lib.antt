pub mod Known
pub mod Outcome
