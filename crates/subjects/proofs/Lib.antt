pub mod Subjects
pub mod Keys
pub mod Requests
