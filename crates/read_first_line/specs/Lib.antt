pub mod FirstLine
pub mod State
