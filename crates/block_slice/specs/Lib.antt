pub mod Blocks
pub mod Cases
pub mod Rules
