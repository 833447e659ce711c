-- Numbers below a limit, as one more joins them.
use Rattle.std.proofs.Common.{ℕ, ◌<◌, List, [], ◌∷◌, ◌++◌}
use Rattle.oss_crew.specs.Numbers.{EachBelow}

pub one_more_below : (limit number : ℕ) (numbers : List ℕ) → EachBelow limit numbers → number < limit → EachBelow limit (numbers ++ number ∷ [])
one_more_below limit number [] all below = (below, tt)
one_more_below limit number (first ∷ numbers) all below = (all.0, one_more_below limit number numbers all.1 below)
