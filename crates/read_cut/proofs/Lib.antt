pub mod PlainBytes
pub mod FirstLine
