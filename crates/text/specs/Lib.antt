pub mod Calendar
pub mod Text
pub mod Base16
pub mod Seconds
pub mod Later
pub mod Steps
pub mod Part
