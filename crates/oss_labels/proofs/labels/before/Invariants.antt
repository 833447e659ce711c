use Rattle.std.proofs.Common.{◌-◌, ◌≤◌}
use Rattle.oss_labels.proofs.SearchLemmas.{IsSought}
use Rattle.oss_labels.proofs.labels.before.Given as goal

abbrev pub invariant-halves : goal.invariant-halves
invariant-halves l = record { sought : IsSought l.list l.entry l.lo l.hi; ordered : l.lo ≤ l.hi }

abbrev pub decreases-halves : goal.decreases-halves
decreases-halves l = l.hi - l.lo
