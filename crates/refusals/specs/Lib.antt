pub mod Questions
pub mod Refusals
pub mod Orders
