use Rattle.std.proofs.Common.{◌≡◌, drop}
use Rattle.oss_model.specs.Rights.{any_cell, holds_uncovered}
use Rattle.oss_judge.specs.Seen.{right_at}
use Rattle.oss_judge.proofs.checks.is_any_uncovered.Given as goal

-- no clause so far has such a cell
abbrev pub invariant-loop-clause : goal.invariant-loop-clause
invariant-loop-clause l = any_cell (λ c. holds_uncovered (right_at l.own.pieces c) (right_at l.given.pieces c)) (drop l.clause-index l.clauses) ≡ any_cell (λ c. holds_uncovered (right_at l.own.pieces c) (right_at l.given.pieces c)) l.clauses
