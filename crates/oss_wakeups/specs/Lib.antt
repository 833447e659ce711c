pub mod Watching
pub mod Watches
pub mod Asides
