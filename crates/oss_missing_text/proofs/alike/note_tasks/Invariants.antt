use Rattle.std.proofs.Common.{ℕ, List, take}
use Rattle.oss_missing_text.specs.Tables.{IsKept, found, kept_at}
use Rattle.oss_missing_text.proofs.alike.note_tasks.Given as goal

-- the table has the lines of the tasks so far
abbrev pub invariant-loop-place : goal.invariant-loop-place
invariant-loop-place l = (line : List ℕ) → IsKept (kept_at l.alike line) (found (take l.place l.told) line) l.place
