pub mod Loops
pub mod Bytes
pub mod Names
pub mod Bridge
pub mod Decoding
pub mod Cabinets
pub mod Calls
