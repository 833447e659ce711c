use Rattle.std.proofs.Common.{◌≡◌, ℕ, drop, None}
use Rattle.oss_ranges.specs.Cells.{value_at}
use Rattle.oss_span.specs.Tables.{painted}
use Rattle.oss_span.proofs.table.open_table.Given as goal

-- with what is left, all accesses are opened
abbrev pub invariant-loop-access : goal.invariant-loop-access
invariant-loop-access l = (c : ℕ) → painted (value_at l.creator.pieces c) (drop l.access-index l.accesses) c (value_at l.table.pieces c) ≡ painted (value_at l.creator.pieces c) l.accesses c None
