pub mod Keys
pub mod Needed
pub mod Cards
