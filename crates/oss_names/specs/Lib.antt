pub mod PartChecks
pub mod Resolved
