pub mod Leading
pub mod Handed
pub mod Columns
pub mod Row
pub mod Zeros
