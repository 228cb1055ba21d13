pub mod Wanted
pub mod Cards
