pub mod Block
pub mod Cases
pub mod Promises
