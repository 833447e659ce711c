use Rattle.std.proofs.Common.{◌≡◌, ◌≤◌, ◌<◌, ℕ, drop, if◌then◌else◌}
use Rattle.oss_judge.specs.Changed.{overlaid}
use Rattle.oss_judge.specs.Seen.{right_told}
use Rattle.oss_model.specs.Context.{in_clauses}
use Rattle.oss_model.specs.Rights.{Released}
use Rattle.oss_judge.proofs.changes.endings.Given as goal

-- what is left ends, of what the changes leave, what all clauses end
abbrev pub invariant-loop-clause : goal.invariant-loop-clause
invariant-loop-clause l =
    ((c : ℕ) (value : _) → c < l.cells → (if in_clauses (drop l.clause-index l.clauses) c then Released else right_told (overlaid l.changes.items c value)) ≡ (if in_clauses l.clauses c then Released else right_told value))
    × ((c : ℕ) (value : _) → l.cells ≤ c → overlaid l.changes.items c value ≡ value)
