pub mod SingleRuns
pub mod Turning
pub mod Stepping
pub mod Choosing
