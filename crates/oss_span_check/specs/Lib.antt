pub mod Points
pub mod Queries
pub mod Waiting
pub mod Records
pub mod Holding
pub mod Following
pub mod Certified
pub mod Recording
