pub mod Told
pub mod Columns
pub mod Opened
pub mod Known
pub mod Loop
pub mod Ends
pub mod Outcome
