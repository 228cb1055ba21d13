pub mod Pieces
pub mod Sums
pub mod Form
pub mod Writing
pub mod Calls
pub mod Exact
