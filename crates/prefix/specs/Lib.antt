pub mod Table
pub mod LookUp
pub mod Rising
pub mod Promises
