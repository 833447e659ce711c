use Rattle.std.proofs.Common.{◌≡◌, ℕ, drop}
use Rattle.std.specs.Prelude.{◌||◌}
use Rattle.oss_model.specs.Context.{in_clauses}
use Rattle.oss_pieces.specs.CellSets.{has}
use Rattle.oss_explain.proofs.failing.cells_named.Given as goal

-- what the accesses so far name, and those that follow
abbrev pub invariant-loop-access : goal.invariant-loop-access
invariant-loop-access l = (c : ℕ) → (has l.cells c || in_clauses (drop l.access-index l.accesses) c) ≡ in_clauses l.accesses c
