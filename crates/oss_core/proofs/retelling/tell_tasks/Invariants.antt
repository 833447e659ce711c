use Rattle.oss_core.specs.Retelling.{IsTold}
use Rattle.oss_core.proofs.retelling.tell_tasks.Given as goal

-- the children of so many tasks were told
abbrev pub invariant-loop-number : goal.invariant-loop-number
invariant-loop-number g l = IsTold l.tasks l.tree.tasks l.number 0 (g.D.Deps.seen l.deps)
