pub mod Keeping
pub mod LoopParts
