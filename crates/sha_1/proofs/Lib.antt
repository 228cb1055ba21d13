pub mod Rounds
pub mod Taken
pub mod Written
pub mod Added
pub mod Pieces
pub mod Digest
