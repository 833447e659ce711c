use Rattle.std.proofs.Common.{◌≡◌, ℕ, drop, if◌then◌else◌}
use Rattle.oss_model.specs.Rights.{Written, first_mark, is_fresh}
use Rattle.oss_judge.specs.Seen.{mark_at, right_at}
use Rattle.oss_judge.proofs.given.mark_all.Given as goal

-- a cell is unwritten as the clauses that are left leave it so
abbrev pub invariant-loop-clause : goal.invariant-loop-clause
invariant-loop-clause l = (c : ℕ) → (if is_fresh (drop l.clause-index l.clauses) c then mark_at l.marks.pieces c else Written) ≡ first_mark (right_at l.rights.pieces c) (is_fresh l.clauses c)
