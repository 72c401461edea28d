pub mod Named
pub mod Located
pub mod Patched
