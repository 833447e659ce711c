pub mod OpenTasks
pub mod Deeds
pub mod Claims
