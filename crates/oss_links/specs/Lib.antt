pub mod Claims
pub mod Held
pub mod Numbers
pub mod Readings
pub mod Search
