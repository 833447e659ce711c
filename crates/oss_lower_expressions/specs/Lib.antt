pub mod Indices
pub mod Jumps
pub mod Tables
