pub mod Entries
pub mod Claims
pub mod Programs
pub mod Missing
pub mod Numbers
