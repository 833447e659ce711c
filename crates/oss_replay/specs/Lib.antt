pub mod Replays
pub mod Claims
pub mod Making
