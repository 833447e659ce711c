pub mod WithinLemmas
pub mod SayLemmas
pub mod AskLemmas
pub mod MendLemmas
