use Rattle.std.proofs.Common.{◌≡◌, ℕ, drop}
use Rattle.oss_ranges.specs.Cells.{value_at}
use Rattle.oss_span.specs.Tables.{released}
use Rattle.oss_span.proofs.table.release_all.Given as goal

-- with what is left, all accesses are released
abbrev pub invariant-loop-access : goal.invariant-loop-access
invariant-loop-access l = (c : ℕ) → released l.mark (drop l.access-index l.clauses) c (value_at l.table.pieces c) ≡ released l.mark l.clauses c (value_at l.initial.table.pieces c)
