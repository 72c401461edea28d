pub mod Words
pub mod Outcomes
pub mod Writing
pub mod Scans
