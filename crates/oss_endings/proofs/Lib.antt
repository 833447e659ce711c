pub mod LookLemmas
pub mod LetLemmas
pub mod WaitLemmas
pub mod OrderLemmas
