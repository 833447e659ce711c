use Rattle.std.proofs.Common.{◌≡◌, drop}
use Rattle.oss_explanation.specs.Failures.{has_rows}
use Rattle.oss_explanation.proofs.failure.has_rows.Given as goal

-- no global so far has two dimensions
abbrev pub invariant-loop-item : goal.invariant-loop-item
invariant-loop-item l = has_rows (drop l.item-index l.program.items) ≡ has_rows l.program.items
