pub mod Slices
pub mod Known
