pub mod Rising
pub mod Search
