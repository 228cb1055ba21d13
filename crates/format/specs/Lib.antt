pub mod Parts
pub mod Kinds
pub mod Attributes
pub mod Requests
pub mod Build
pub mod Read
pub mod Files
pub mod Damage
