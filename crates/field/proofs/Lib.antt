pub mod Digits
pub mod Putting
pub mod Written
pub mod Columns
pub mod Exact
