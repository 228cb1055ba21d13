pub mod Walk
pub mod OneToOne
pub mod Places
