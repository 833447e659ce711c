pub mod Members
pub mod Kept
pub mod Parts
