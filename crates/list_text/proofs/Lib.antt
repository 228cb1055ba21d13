pub mod Decimal
pub mod Lengths
pub mod Writing
pub mod Whole
pub mod Values
