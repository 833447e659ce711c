mod GroupLemmas
pub mod ListLemmas
