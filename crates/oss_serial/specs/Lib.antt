pub mod Turns
pub mod Stages
pub mod Runs
pub mod Rushings
