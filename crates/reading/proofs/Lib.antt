pub mod Outcomes
pub mod Form
pub mod Answers
pub mod Types
pub mod Fields
pub mod Loops
pub mod Whole
pub mod Calls
