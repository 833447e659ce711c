pub mod Ledger
pub mod Sound
pub mod Booked
pub mod Known
pub mod Asked
pub mod Growing
pub mod Shelved
pub mod Worded
