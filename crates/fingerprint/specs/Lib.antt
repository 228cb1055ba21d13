pub mod Fingerprint
pub mod Steps
