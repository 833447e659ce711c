use Rattle.std.proofs.Common.{◌≡◌, ℕ, List, drop}
use Rattle.oss_missing_text.specs.Counting.{has_line}
use Rattle.oss_missing_text.specs.Tables.{kept_at, noted_if}
use Rattle.oss_missing_text.proofs.alike.note_all.Given as goal

-- with the lines that are left all are noted
abbrev pub invariant-loop-line : goal.invariant-loop-line
invariant-loop-line l = (other : List ℕ) → noted_if l.place (kept_at l.alike other) (has_line other (drop l.line-index l.lines)) ≡ noted_if l.place (kept_at l.initial.alike other) (has_line other l.lines)
