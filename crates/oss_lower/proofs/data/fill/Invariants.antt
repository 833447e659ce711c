use Rattle.std.proofs.Common.{◌≡◌, ◌++◌}
use Rattle.std.specs.Prelude.{replicate}
use Rattle.oss_lower.proofs.data.fill.Given as goal

-- so many cells were added
abbrev pub invariant-loop-made : goal.invariant-loop-made
invariant-loop-made l = l.cells.items ≡ l.fn.cells.items ++ replicate l.made l.number
