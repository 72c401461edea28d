pub mod Packing
pub mod Current
