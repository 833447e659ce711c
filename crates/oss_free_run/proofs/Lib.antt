pub mod SeenLemmas
pub mod LeftLemmas
pub mod TurnLemmas
pub mod MachineFaults
