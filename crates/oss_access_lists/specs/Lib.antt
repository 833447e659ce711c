pub mod Wires
pub mod Flags
pub mod Steps
pub mod Tables
pub mod Kept
pub mod Claims
