pub mod OneOrderLemmas
pub mod TurnsLemmas
pub mod ExistLemmas
pub mod CandidateLemmas
pub mod BegunLemmas
