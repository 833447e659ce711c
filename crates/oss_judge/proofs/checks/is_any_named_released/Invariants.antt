use Rattle.std.proofs.Common.{◌≡◌, drop}
use Rattle.std.specs.Prelude.{map}
use Rattle.oss_model.specs.Rights.{any_cell, is_released}
use Rattle.oss_judge.specs.Parts.{reading}
use Rattle.oss_judge.specs.Seen.{right_at}
use Rattle.oss_judge.proofs.checks.is_any_named_released.Given as goal

-- no range so far has such a cell
abbrev pub invariant-loop-range : goal.invariant-loop-range
invariant-loop-range l = any_cell (λ c. is_released (right_at l.own.pieces c)) (map reading (drop l.range-index l.named)) ≡ any_cell (λ c. is_released (right_at l.own.pieces c)) (map reading l.named)
