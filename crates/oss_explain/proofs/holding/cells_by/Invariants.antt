use Rattle.std.proofs.Common.{◌≡◌, ℕ, drop}
use Rattle.std.specs.Prelude.{◌||◌}
use Rattle.oss_pieces.specs.CellSets.{has}
use Rattle.oss_explain.specs.Owned.{is_by}
use Rattle.oss_explain.proofs.holding.cells_by.Given as goal

-- what the accesses so far name by the word, and those that follow
abbrev pub invariant-loop-access : goal.invariant-loop-access
invariant-loop-access l = (c : ℕ) → (has l.cells c || is_by (drop l.access-index l.accesses) l.word c) ≡ is_by l.accesses l.word c
