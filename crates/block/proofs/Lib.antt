pub mod Size
pub mod Summed
pub mod Walk
pub mod Exact
pub mod Known
