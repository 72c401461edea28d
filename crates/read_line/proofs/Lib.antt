pub mod Cards
pub mod ToCome
pub mod Later
