pub mod Pieces
pub mod Copying
pub mod Underway
pub mod Hex
pub mod Decoding
