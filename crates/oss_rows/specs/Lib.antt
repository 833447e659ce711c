pub mod Booked
pub mod OfTasks
