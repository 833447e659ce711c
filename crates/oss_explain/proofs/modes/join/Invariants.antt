use Rattle.std.proofs.Common.{◌≤◌, ◌-◌}
use Rattle.oss_explain.specs.Joining.{JoinsMixed, JoinsModes}
use Rattle.oss_explain.proofs.modes.join.Given as goal

-- the clause was joined to the modes of the cells so far
abbrev pub invariant-loop-from : goal.invariant-loop-from
invariant-loop-from l = record {
  low : l.range.lo ≤ l.from;
  high : l.from ≤ l.range.hi;
  joined : JoinsModes l.mode l.range.lo l.from l.fn.modes.pieces l.modes.pieces;
  mixed : JoinsMixed l.mode l.range.lo l.from l.fn.modes.pieces l.fn.mixed l.mixed;
}

abbrev pub decreases-loop-from : goal.decreases-loop-from
decreases-loop-from l = l.range.hi - l.from
