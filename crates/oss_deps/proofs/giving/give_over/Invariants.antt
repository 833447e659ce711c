use Rattle.std.proofs.Common.{◌-◌, ◌≤◌}
use Rattle.oss_deps.specs.Columns.{IsDivided}
use Rattle.oss_deps.proofs.GiveLemmas.{IsGivenTo}
use Rattle.oss_deps.proofs.giving.give_over.Given as goal

-- the stretches so far are given up
abbrev pub invariant-stretches : goal.invariant-stretches
invariant-stretches l = record {
  given : IsGivenTo l.task l.range.lo l.cell l.fn.columns.items l.columns.items;
  from : l.range.lo ≤ l.cell;
  upto : l.cell ≤ l.range.hi;
  divided : IsDivided l.fn.columns.items l.cell;
}

abbrev pub decreases-stretches : goal.decreases-stretches
decreases-stretches l = l.range.hi - l.cell
