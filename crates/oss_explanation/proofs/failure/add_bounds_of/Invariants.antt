use Rattle.std.proofs.Common.{◌≡◌, drop}
use Rattle.oss_explanation.specs.Failures.{bounds_of}
use Rattle.oss_explanation.proofs.failure.add_bounds_of.Given as goal

-- the global is one of those that are left
abbrev pub invariant-loop-item : goal.invariant-loop-item
invariant-loop-item l = (bounds_of (drop l.item-index l.program.items) l.left l.miss ≡ bounds_of l.program.items l.number l.miss)
    × (l.text.items ≡ l.initial.text.items)
