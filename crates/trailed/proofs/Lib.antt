pub mod Trailed
pub mod Calls
