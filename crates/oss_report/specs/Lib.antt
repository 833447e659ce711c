pub mod Dumps
pub mod Replays
pub mod Runs
