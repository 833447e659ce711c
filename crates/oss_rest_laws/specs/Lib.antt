pub mod Idle
pub mod Rested
