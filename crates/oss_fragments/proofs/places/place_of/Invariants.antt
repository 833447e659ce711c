use Rattle.std.proofs.Common.{◌-◌}
use Rattle.oss_fragments.proofs.SearchLemmas.{IsSought}
use Rattle.oss_fragments.proofs.places.place_of.Given as goal

abbrev pub invariant-halves : goal.invariant-halves
invariant-halves l = IsSought l.numbers l.number l.lo l.hi

abbrev pub decreases-halves : goal.decreases-halves
decreases-halves l = l.hi - l.lo
