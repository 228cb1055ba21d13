pub mod Trailed
pub mod Law
