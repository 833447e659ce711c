pub mod Entries
pub mod Jobs
