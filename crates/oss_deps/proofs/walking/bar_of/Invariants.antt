use Rattle.oss_deps.proofs.WalkLemmas.{IsClimbing}
use Rattle.oss_deps.proofs.walking.bar_of.Given as goal

-- what is wanted of the place is all that is left to ask
abbrev pub invariant-levels : goal.invariant-levels
invariant-levels l = IsClimbing l.frames l.marks l.fn.wanted l.at l.want l.place

abbrev pub decreases-levels : goal.decreases-levels
decreases-levels l = l.place
