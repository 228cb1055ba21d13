pub mod Newer
pub mod Keys
pub mod Steps
