pub mod WithinLemmas
pub mod LendLemmas
