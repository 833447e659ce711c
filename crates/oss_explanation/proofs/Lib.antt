pub mod TextLemmas
pub mod OneLemmas
