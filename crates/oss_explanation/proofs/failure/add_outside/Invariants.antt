use Rattle.std.proofs.Common.{◌≡◌, drop}
use Rattle.oss_explanation.specs.Failures.{named_outside}
use Rattle.oss_explanation.proofs.failure.add_outside.Given as goal

-- the global is one of those that are left
abbrev pub invariant-loop-item : goal.invariant-loop-item
invariant-loop-item l = (named_outside (drop l.item-index l.program.items) l.left l.miss ≡ named_outside l.program.items l.number l.miss)
    × (l.text.items ≡ l.initial.text.items)
