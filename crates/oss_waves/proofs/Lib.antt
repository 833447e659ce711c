pub mod ListLemmas
pub mod ReadyLemmas
pub mod NotingLemmas
pub mod WavingLemmas
pub mod PassingLemmas
pub mod RoundLemmas
pub mod RunLemmas
