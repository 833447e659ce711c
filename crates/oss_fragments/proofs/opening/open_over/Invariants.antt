use Rattle.std.proofs.Common.{◌-◌, ◌≤◌}
use Rattle.oss_fragments.specs.Stretches.{IsDivided}
use Rattle.oss_fragments.specs.Changes.{AreWalked, IsOpenedIn}
use Rattle.oss_fragments.proofs.opening.open_over.Given as goal

-- the fragments so far have changed
abbrev pub invariant-fragments : goal.invariant-fragments
invariant-fragments l = record {
  walked : AreWalked (IsOpenedIn l.number l.parent l.access.mode) l.access.range.lo l.cell l.fn.fragments.items l.fragments.items;
  from : l.access.range.lo ≤ l.cell;
  upto : l.cell ≤ l.access.range.hi;
  divided : IsDivided l.fn.fragments.items l.cell;
}

abbrev pub decreases-fragments : goal.decreases-fragments
decreases-fragments l = l.access.range.hi - l.cell
