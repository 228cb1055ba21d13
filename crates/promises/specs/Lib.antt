pub mod Worked
pub mod Starred
pub mod Calls
pub mod Check
pub mod TextTypes
pub mod Calendar
pub mod Values
pub mod Fixed
