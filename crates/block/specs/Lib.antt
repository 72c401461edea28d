pub mod Judging
pub mod Records
pub mod Cases
pub mod Rules
pub mod Promises
