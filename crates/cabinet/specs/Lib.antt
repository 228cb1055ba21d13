pub mod Cabinet
pub mod Steps
