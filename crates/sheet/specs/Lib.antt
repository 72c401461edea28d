pub mod Sheets
pub mod Rules
pub mod Cases
pub mod Promises
