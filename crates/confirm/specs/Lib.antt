pub mod Confirm
pub mod Steps
