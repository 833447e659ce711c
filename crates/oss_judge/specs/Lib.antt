pub mod Changed
pub mod Given
pub mod Joined
pub mod Parts
pub mod Refusal
pub mod Seen
pub mod View
