pub mod EntryLemmas
pub mod JobLemmas
pub mod SendLemmas
