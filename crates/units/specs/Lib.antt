pub mod Units
pub mod Answers
pub mod Decimal
