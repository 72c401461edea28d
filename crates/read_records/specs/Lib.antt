pub mod Content
pub mod Reading
pub mod Cases
pub mod Spelled
