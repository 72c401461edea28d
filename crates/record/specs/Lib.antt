pub mod Kinds
pub mod Judging
pub mod Cases
pub mod Lines
pub mod Rules
pub mod Values
