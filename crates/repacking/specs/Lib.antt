pub mod Repacking
pub mod Between
pub mod Cases
pub mod Promises
