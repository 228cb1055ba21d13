pub mod Rows
pub mod Codes
pub mod Pieces
pub mod Arrays
pub mod Search
pub mod Names
