use Rattle.std.proofs.Common.{◌-◌, ◌≤◌}
use Rattle.oss_deps.specs.Columns.{IsDivided}
use Rattle.oss_deps.specs.Adding.{AreGrownTo}
use Rattle.oss_deps.proofs.opening.add_over.Given as goal

-- the stretches so far have got the access
abbrev pub invariant-stretches : goal.invariant-stretches
invariant-stretches l = record {
  grown : AreGrownTo l.number l.task l.parent l.access.mode l.access.range.lo l.cell l.fn.columns.items l.columns.items;
  from : l.access.range.lo ≤ l.cell;
  upto : l.cell ≤ l.access.range.hi;
  divided : IsDivided l.fn.columns.items l.cell;
}

abbrev pub decreases-stretches : goal.decreases-stretches
decreases-stretches l = l.access.range.hi - l.cell
