pub mod Given
pub mod Compared
pub mod Keys
pub mod Records
pub mod Calls
