pub mod Turns
pub mod Bytes
pub mod Blocks
pub mod Zeros
pub mod Written
pub mod Taken
pub mod Added
pub mod Pieces
