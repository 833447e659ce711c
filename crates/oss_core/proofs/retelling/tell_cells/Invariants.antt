use Rattle.std.proofs.Common.{◌≤◌}
use Rattle.oss_core.specs.Retelling.{AreGiven}
use Rattle.oss_core.proofs.retelling.tell_cells.Given as goal

-- of the tasks below this number it was told what they have given up
abbrev pub invariant-loop-number : goal.invariant-loop-number
invariant-loop-number g l = (1 ≤ l.number) × AreGiven l.tasks l.number (g.D.Deps.seen l.fn.deps) (g.D.Deps.seen l.deps)
