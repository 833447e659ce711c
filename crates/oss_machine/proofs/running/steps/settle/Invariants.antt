use Rattle.std.proofs.Common.{◌≡◌}
use Rattle.oss_machine.specs.Machines.{room, settled}
use Rattle.oss_machine.specs.Runs.{IsRun, config_in}
use Rattle.oss_machine.proofs.running.steps.settle.Given as goal

-- silent steps have led here, and lead to the same ask
abbrev pub invariant-loop-asked : goal.invariant-loop-asked
invariant-loop-asked l = record {
  run : IsRun l.still l.run;
  same : settled l.code (config_in l.still l.run) ≡ settled l.code (config_in l.still l.fn.run);
}

abbrev pub decreases-loop-asked : goal.decreases-loop-asked
decreases-loop-asked l = room l.code (config_in l.still l.run)
