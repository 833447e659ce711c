mod MakingLemmas
mod TellingLemmas
