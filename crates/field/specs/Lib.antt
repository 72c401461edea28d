pub mod Writing
pub mod Putting
pub mod Reading
pub mod Grammar
