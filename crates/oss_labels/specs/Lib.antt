pub mod Claims
pub mod Creations
pub mod Labels
pub mod Lists
