pub mod Needs
pub mod Points
pub mod States
