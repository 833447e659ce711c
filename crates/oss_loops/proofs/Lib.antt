pub mod KeptLemmas
pub mod PartLemmas
pub mod Weights
