pub mod Tasks
pub mod Output
pub mod Marks
pub mod Runs
