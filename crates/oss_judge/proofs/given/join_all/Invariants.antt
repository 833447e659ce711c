use Rattle.std.proofs.Common.{◌≡◌, ◌≤◌, ℕ, drop, length}
use Rattle.oss_model.specs.Rights.{any_cell, is_mixed, right_from}
use Rattle.oss_judge.specs.Seen.{right_at}
use Rattle.oss_judge.proofs.given.join_all.Given as goal

-- what the last clauses give
abbrev pub invariant-loop-left : goal.invariant-loop-left
invariant-loop-left l = record {
  within : l.left ≤ length l.clauses;
  given : (c : ℕ) → right_at l.rights.pieces c ≡ right_from l.is_final (drop l.left l.clauses) c;
  mixed : l.is_mixed ≡ any_cell (is_mixed l.is_final (drop l.left l.clauses)) (drop l.left l.clauses);
}

abbrev pub decreases-loop-left : goal.decreases-loop-left
decreases-loop-left l = l.left
