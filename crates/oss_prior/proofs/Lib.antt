pub mod SteppingLemmas
pub mod PassingLemmas
pub mod ChoosingLemmas
pub mod TurnLemmas
pub mod RunLemmas
pub mod ReadyLemmas
