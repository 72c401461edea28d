pub mod Passed
pub mod Exact
pub mod Values
