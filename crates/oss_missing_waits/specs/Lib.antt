pub mod Holding
pub mod Waits
pub mod Lines
pub mod Kept
pub mod Following
pub mod Beside
