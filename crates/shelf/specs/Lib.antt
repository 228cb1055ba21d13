pub mod Places
pub mod Cabinet
pub mod History
