use Rattle.std.proofs.Common.{◌≡◌, ℕ, drop, map, None, if◌then◌else◌}
use Rattle.oss_judge.specs.Changed.{overlaid}
use Rattle.oss_judge.specs.Parts.{reading}
use Rattle.oss_judge.specs.Seen.{lending_told}
use Rattle.oss_model.specs.Context.{in_clauses}
use Rattle.oss_model.specs.Rights.{Free}
use Rattle.oss_judge.proofs.changes.takings.Given as goal

-- what is left takes back, of what the changes leave, what all ranges take back
abbrev pub invariant-loop-range : goal.invariant-loop-range
invariant-loop-range l =
    ((c : ℕ) (value : _) → (if in_clauses (map reading (drop l.range-index l.named)) c then Free else lending_told (overlaid l.changes.items c value)) ≡ (if in_clauses (map reading l.named) c then Free else lending_told value))
    × ((c : ℕ) → overlaid l.changes.items c None ≡ None)
