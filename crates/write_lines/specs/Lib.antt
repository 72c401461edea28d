pub mod Lines
pub mod Text
pub mod Cases
pub mod Columns
pub mod Promises
