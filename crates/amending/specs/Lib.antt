pub mod Amending
pub mod Cases
pub mod Between
pub mod Promises
