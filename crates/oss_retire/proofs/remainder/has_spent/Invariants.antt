use Rattle.std.proofs.Common.{◌≡◌, ◌<◌, ℕ, false}
use Rattle.oss_access_lists.specs.Tables.{marks_at}
use Rattle.oss_retire.specs.Remainder.{is_spent}
use Rattle.oss_retire.proofs.remainder.has_spent.Given as goal

-- no access so far is spent
abbrev pub invariant-loop-at : goal.invariant-loop-at
invariant-loop-at l = record {
  none : (v : ℕ) → (v ≡ 0 → ⊥) → v < l.at → is_spent (marks_at l.line.stand v) ≡ false;
}
