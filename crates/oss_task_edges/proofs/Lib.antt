mod GroupLemmas
mod ChainLemmas
mod KeptLemmas
mod EnterLemmas
mod JoinLemmas
pub mod AgreeLemmas
