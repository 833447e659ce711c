use Rattle.std.proofs.Common.{◌-◌, ◌≡◌, ◌≤◌}
use Rattle.oss_ranges.specs.Cells.{value_at}
use Rattle.oss_judge.proofs.ChangeLemmas.{Along}
use Rattle.oss_judge.specs.Seen.{lending_told, lent_at, right_at}
use Rattle.oss_model.specs.Context.{lend_cell}
use Rattle.oss_judge.proofs.changes.lendings.Given as goal

abbrev pub invariant-runs : goal.invariant-runs
invariant-runs l = (l.from ≤ l.cells) × Along (λ c value. lending_told value ≡ lend_cell (right_at l.given.pieces c) (lent_at l.lent.pieces c)) (value_at l.lent.pieces) l.from l.changes.items

abbrev pub decreases-runs : goal.decreases-runs
decreases-runs l = l.cells - l.from
