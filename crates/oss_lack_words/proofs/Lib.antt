mod TellLemmas
mod WordLemmas
