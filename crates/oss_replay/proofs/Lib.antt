pub mod ListLemmas
pub mod SameLemmas
pub mod EndLemmas
pub mod AlikeReplays
pub mod MakingLemmas
