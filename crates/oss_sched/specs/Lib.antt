pub mod Reading
pub mod Schedules
pub mod Traces
