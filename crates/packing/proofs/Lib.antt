pub mod Groups
pub mod Fewest
pub mod Filling
