pub mod Sheets
pub mod Entries
pub mod Stores
