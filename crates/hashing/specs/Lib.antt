pub mod Turns
pub mod Blocks
pub mod State
