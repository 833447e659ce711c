use Rattle.std.proofs.Common.{◌-◌, ◌≤◌}
use Rattle.oss_core.specs.Retelling.{AreGaps, Between}
use Rattle.oss_core.proofs.retelling.tell_gaps.Given as goal

-- the cells up to this one were told
abbrev pub invariant-runs : goal.invariant-runs
invariant-runs g l =
    (l.range.lo ≤ l.from) × (l.from ≤ l.range.hi)
    × AreGaps l.task.0 (Between l.range.lo l.from) l.owed.pieces (g.D.Deps.seen l.fn.deps) (g.D.Deps.seen l.deps)

abbrev pub decreases-runs : goal.decreases-runs
decreases-runs g l = l.range.hi - l.from
