pub mod Claims
pub mod Copies
pub mod Remainder
pub mod Retired
pub mod Tables
