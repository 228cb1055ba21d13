pub mod Places
pub mod Tvps
pub mod Readings
pub mod Images
pub mod Stores
pub mod Histories
pub mod Numbers
