pub mod Places
pub mod Exchange
pub mod Cases
