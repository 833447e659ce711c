pub mod CountLemmas
mod RushLemmas
pub mod TurnLemmas
pub mod StageLemmas
