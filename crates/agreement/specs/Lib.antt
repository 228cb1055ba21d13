pub mod Texts
pub mod Steps
