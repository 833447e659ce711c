pub mod Evaluated
pub mod Places
pub mod RangeCells
pub mod Stretches
