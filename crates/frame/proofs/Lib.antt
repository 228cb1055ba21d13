pub mod Title
pub mod Parts
pub mod Check
