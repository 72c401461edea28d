pub mod Packing
pub mod Verdicts
pub mod Choosing
pub mod Digits
pub mod Told
