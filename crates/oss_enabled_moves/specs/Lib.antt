pub mod Enabled
pub mod Reasons
pub mod Hindering
