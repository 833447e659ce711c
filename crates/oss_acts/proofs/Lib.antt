pub mod NewsLemmas
pub mod TakeLemmas
pub mod TouchLemmas
pub mod WorkLemmas
