pub mod GroupLemmas
pub mod WaitLemmas
pub mod WayLemmas
pub mod NearestLemmas
pub mod NodeLemmas
