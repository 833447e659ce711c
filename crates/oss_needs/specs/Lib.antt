pub mod Demands
pub mod Meeting
pub mod Needs
pub mod Lacks
pub mod Givens
pub mod Claims
