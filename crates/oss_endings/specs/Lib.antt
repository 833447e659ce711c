pub mod Ending
pub mod Letting
