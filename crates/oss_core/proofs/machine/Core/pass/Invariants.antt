use Rattle.oss_core.specs.Cores.{kept_of}
use Rattle.oss_core.specs.Kept.{IsRunning}
use Rattle.oss_core.specs.Passing.{HaveGiven, TasksPassed}
use Rattle.oss_core.proofs.machine.Core.pass.Given as goal

-- the tasks so far were passed
abbrev pub invariant-loop-at : goal.invariant-loop-at
invariant-loop-at g l = record {
  running : IsRunning l.code (kept_of g.D.Deps.seen l.self);
  given : HaveGiven l.initial.self.tree.tasks l.self.tree.tasks;
  passed : TasksPassed l.code l.asked (kept_of g.D.Deps.seen l.initial.self) l.at (kept_of g.D.Deps.seen l.self) l.passed.items;
}
