pub mod AskLemmas
pub mod KeptLemmas
pub mod PartLemmas
pub mod RangeLemmas
pub mod WaitLemmas
pub mod WalkLemmas
