pub mod Folding
pub mod Guards
pub mod Blocks
pub mod Records
pub mod Writing
pub mod Finding
pub mod Unfolding
pub mod Reading
