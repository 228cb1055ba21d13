pub mod Fields
pub mod Attributes
pub mod Steps
