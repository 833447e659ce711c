use Rattle.std.proofs.Common.{◌≤◌, ◌<◌}
use Rattle.oss_phases.proofs.run.run_phases.Given as goal

-- the run may come to the held state, and the next table has room for it
abbrev pub invariant-loop : goal.invariant-loop
invariant-loop g l = record {
  reached : g.P.Phased.reached l.phased l.held;
  some : 0 < l.entries;
  enough : g.P.Phased.needs l.held ≤ l.entries;
  within : l.entries ≤ l.most;
}
