use Rattle.std.proofs.Common.{◌-◌, ◌≤◌}
use Rattle.oss_missing_waits.specs.Kept.{IsAddedFrom}
use Rattle.oss_missing_waits.proofs.using.add_released.Given as goal

-- the cells so far are added
abbrev pub invariant-loop-from : goal.invariant-loop-from
invariant-loop-from l = record {
  low : l.range.lo ≤ l.from;
  high : l.from ≤ l.range.hi;
  added : IsAddedFrom l.range.lo l.from l.released l.fn.used l.used;
}

abbrev pub decreases-loop-from : goal.decreases-loop-from
decreases-loop-from l = l.range.hi - l.from
