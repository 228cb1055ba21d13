pub mod Answers
pub mod Counting
pub mod Ends
pub mod Stepping
