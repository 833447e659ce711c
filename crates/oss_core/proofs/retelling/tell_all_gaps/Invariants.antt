use Rattle.oss_core.specs.Retelling.{AreGaps, Named}
use Rattle.oss_core.proofs.retelling.tell_all_gaps.Given as goal

-- the cells of so many accesses were told
abbrev pub invariant-loop-access : goal.invariant-loop-access
invariant-loop-access g l = AreGaps l.task.0 (Named l.access-index l.accesses) l.owed.pieces (g.D.Deps.seen l.fn.deps) (g.D.Deps.seen l.deps)
