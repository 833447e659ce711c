use Rattle.std.proofs.Common.{◌-◌, ◌≡◌, ◌≤◌}
use Rattle.oss_ranges.specs.Cells.{value_at}
use Rattle.oss_judge.proofs.ChangeLemmas.{Along}
use Rattle.oss_judge.specs.Seen.{mark_at, mark_told, right_at}
use Rattle.oss_model.specs.Context.{made_mark}
use Rattle.oss_judge.proofs.changes.writings.Given as goal

abbrev pub invariant-runs : goal.invariant-runs
invariant-runs l = (l.from ≤ l.cells) × Along (λ c value. mark_told value ≡ made_mark (right_at l.given.pieces c) (mark_at l.marks.pieces c)) (value_at l.marks.pieces) l.from l.changes.items

abbrev pub decreases-runs : goal.decreases-runs
decreases-runs l = l.cells - l.from
