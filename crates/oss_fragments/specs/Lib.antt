pub mod Here
pub mod Kept
pub mod Stretches
pub mod Changes
pub mod Visits
