pub mod Seven
mod Walk
pub mod Stands
