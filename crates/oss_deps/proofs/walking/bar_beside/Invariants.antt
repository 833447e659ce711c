use Rattle.oss_deps.proofs.WalkLemmas.{IsBack}
use Rattle.oss_deps.proofs.walking.bar_beside.Given as goal

-- what the walk has passed does not stand in the way
abbrev pub invariant-places : goal.invariant-places
invariant-places l = IsBack l.frames l.marks l.want l.at l.behind

abbrev pub decreases-places : goal.decreases-places
decreases-places l = l.behind
