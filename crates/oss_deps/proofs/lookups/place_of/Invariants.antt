use Rattle.std.proofs.Common.{◌-◌}
use Rattle.oss_deps.proofs.LookupLemmas.{IsSought}
use Rattle.oss_deps.proofs.lookups.place_of.Given as goal

abbrev pub invariant-halves : goal.invariant-halves
invariant-halves l = IsSought l.frames l.number l.lo l.hi

abbrev pub decreases-halves : goal.decreases-halves
decreases-halves l = l.hi - l.lo
