use Rattle.std.proofs.Common.{◌≤◌, ◌<◌, ◌-◌}
use Rattle.oss_phases.proofs.growth.grown.Given as goal

-- at least as many as before, and at most as many as may be
abbrev pub invariant-loop-next : goal.invariant-loop-next
invariant-loop-next l = record {
  some : 0 < l.next;
  no_fewer : l.entries ≤ l.next;
  within : l.next ≤ l.most;
  fits : l.needed ≤ l.most;
}

-- what is left to the most
abbrev pub decreases-loop-next : goal.decreases-loop-next
decreases-loop-next l = l.most - l.next
