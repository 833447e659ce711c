pub mod FreeTasks
pub mod Stages
pub mod Claims
