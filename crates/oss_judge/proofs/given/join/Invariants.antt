use Rattle.std.proofs.Common.{◌≤◌, ◌-◌}
use Rattle.oss_judge.proofs.GivenLemmas.{Joins}
use Rattle.oss_judge.proofs.given.join.Given as goal

-- the clause was joined to the rights to the cells so far
abbrev pub invariant-loop-from : goal.invariant-loop-from
invariant-loop-from l = record {
  low : l.range.lo ≤ l.from;
  high : l.from ≤ l.range.hi;
  joins : Joins l.mode l.strong l.range.lo l.from l.fn.rights.pieces l.rights.pieces;
}

abbrev pub decreases-loop-from : goal.decreases-loop-from
decreases-loop-from l = l.range.hi - l.from
