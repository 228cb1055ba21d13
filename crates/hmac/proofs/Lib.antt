pub mod Keys
pub mod Tags
