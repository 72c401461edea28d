pub mod Steps
pub mod Placed
pub mod Loops
pub mod Walking
pub mod Turns
