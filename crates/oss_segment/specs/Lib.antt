pub mod Writes
pub mod Made
pub mod Segments
