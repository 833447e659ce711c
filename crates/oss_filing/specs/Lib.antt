pub mod Counted
pub mod Filed
pub mod OfState
pub mod Opening
pub mod Owned
pub mod Planned
pub mod Rows
