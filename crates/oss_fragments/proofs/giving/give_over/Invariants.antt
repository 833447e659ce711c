use Rattle.std.proofs.Common.{◌-◌, ◌≤◌}
use Rattle.oss_fragments.specs.Stretches.{IsDivided}
use Rattle.oss_fragments.specs.Changes.{AreWalked, IsGivenIn}
use Rattle.oss_fragments.proofs.giving.give_over.Given as goal

-- the fragments so far have changed
abbrev pub invariant-fragments : goal.invariant-fragments
invariant-fragments l = record {
  walked : AreWalked (IsGivenIn l.number) l.range.lo l.cell l.fn.fragments.items l.fragments.items;
  from : l.range.lo ≤ l.cell;
  upto : l.cell ≤ l.range.hi;
  divided : IsDivided l.fn.fragments.items l.cell;
}

abbrev pub decreases-fragments : goal.decreases-fragments
decreases-fragments l = l.range.hi - l.cell
