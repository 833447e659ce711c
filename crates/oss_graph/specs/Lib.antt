pub mod Coming
pub mod Finding
pub mod Following
