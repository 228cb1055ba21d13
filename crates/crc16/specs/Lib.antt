pub mod Crc
pub mod Damage
