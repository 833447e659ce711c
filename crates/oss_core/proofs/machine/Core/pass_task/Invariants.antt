use Rattle.std.proofs.Common.{◌<◌, ◌≤◌, ◌-◌, length}
use Rattle.oss_core.specs.Cores.{kept_of}
use Rattle.oss_core.specs.Kept.{IsRunning}
use Rattle.oss_core.specs.Passing.{CellsPassed}
use Rattle.oss_core.proofs.machine.Core.pass_task.Given as goal

-- the cells so far were passed
abbrev pub invariant-runs : goal.invariant-runs
invariant-runs g l = record {
  running : IsRunning l.code (kept_of g.D.Deps.seen l.self);
  there : l.task.0 < length l.self.tasks.items;
  within : l.from ≤ 1048576;
  cells : CellsPassed l.code l.task.0 (kept_of g.D.Deps.seen l.initial.self) l.initial.passed.items l.from (kept_of g.D.Deps.seen l.self) l.passed.items;
}

abbrev pub decreases-runs : goal.decreases-runs
decreases-runs g l = 1048576 - l.from
