mod TrialLemmas
