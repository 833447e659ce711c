use Rattle.std.proofs.Common.{◌-◌, ◌≤◌}
use Rattle.oss_missing_waits.specs.Kept.{AreReleased}
use Rattle.oss_missing_waits.proofs.UsingLemmas.{said_before}
use Rattle.oss_missing_waits.proofs.using.used_by_map.Given as goal

-- those of the cells so far
abbrev pub invariant-loop-from : goal.invariant-loop-from
invariant-loop-from l = record {
  high : l.from ≤ 1048576;
  released : AreReleased (said_before l.clauses.pieces l.from) l.released l.used;
}

abbrev pub decreases-loop-from : goal.decreases-loop-from
decreases-loop-from l = 1048576 - l.from
