pub mod Alone
pub mod Parts
pub mod Waves
pub mod Passes
pub mod Rounds
pub mod Left
pub mod Claims
pub mod AtOnce
