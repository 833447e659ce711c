pub mod Nests
pub mod Asking
pub mod Walks
pub mod Lacks
pub mod Following
pub mod Beside
