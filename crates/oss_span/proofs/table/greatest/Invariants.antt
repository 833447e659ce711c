use Rattle.std.proofs.Common.{◌-◌, ◌≤◌}
use Rattle.oss_span.specs.Tables.{IsGreatest}
use Rattle.oss_span.proofs.table.greatest.Given as goal

-- the longest of the cells so far
abbrev pub invariant-loop-from : goal.invariant-loop-from
invariant-loop-from l = record {
  low : l.range.lo ≤ l.from;
  high : l.from ≤ l.range.hi;
  best : IsGreatest l.way l.table.pieces l.range.lo l.from l.best;
}

abbrev pub decreases-loop-from : goal.decreases-loop-from
decreases-loop-from l = l.range.hi - l.from
