use Rattle.oss_core.specs.Retelling.{IsTold}
use Rattle.oss_core.proofs.retelling.tell_children.Given as goal

-- so many of the children were told
abbrev pub invariant-loop-child : goal.invariant-loop-child
invariant-loop-child g l = IsTold l.tasks l.tree.tasks l.task.0 l.child-index (g.D.Deps.seen l.deps)
