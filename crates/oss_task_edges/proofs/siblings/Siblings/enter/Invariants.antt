use Rattle.std.proofs.Common.{◌-◌, ◌≤◌}
use Rattle.oss_task_edges.specs.Kept.{Enters}
use Rattle.oss_task_edges.proofs.siblings.Siblings.enter.Given as goal

-- the child is entered at the cells so far
abbrev pub invariant-loop-from : goal.invariant-loop-from
invariant-loop-from l = (l.access.range.lo ≤ l.from) × (l.from ≤ l.access.range.hi)
    × Enters l.number l.access.mode l.access.strong l.access.range.lo l.from l.fn.self l.self l.fn.parts.items l.parts.items

abbrev pub decreases-loop-from : goal.decreases-loop-from
decreases-loop-from l = l.access.range.hi - l.from
