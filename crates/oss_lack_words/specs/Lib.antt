pub mod Told
pub mod Telling
