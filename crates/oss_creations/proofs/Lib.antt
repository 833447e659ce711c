pub mod AccessLemmas
pub mod DrawLemmas
pub mod KeepLemmas
pub mod LinkLemmas
pub mod LoopLemmas
pub mod MakeLemmas
