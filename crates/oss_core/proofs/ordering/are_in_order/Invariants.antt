use Rattle.std.proofs.Common.{◌-◌, ◌≤◌, length}
use Rattle.oss_core.proofs.RiseLemmas.{DoRise}
use Rattle.oss_core.proofs.ordering.are_in_order.Given as goal

abbrev pub invariant-neighbours : goal.invariant-neighbours
invariant-neighbours l = record {
  some : 1 ≤ l.at;
  rise : DoRise l.tree.tasks l.tasks l.at;
}

abbrev pub decreases-neighbours : goal.decreases-neighbours
decreases-neighbours l = length l.tasks - l.at
