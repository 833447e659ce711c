pub mod TextLemmas
pub mod NodeLemmas
pub mod OneLemmas
pub mod OrderLemmas
