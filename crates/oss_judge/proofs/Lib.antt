pub mod ChangeLemmas
pub mod FaultLemmas
pub mod GivenLemmas
pub mod JoinedLemmas
pub mod RunLemmas
pub mod TestLemmas
pub mod ViewLemmas
