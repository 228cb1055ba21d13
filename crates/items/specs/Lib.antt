pub mod Items
pub mod Place
