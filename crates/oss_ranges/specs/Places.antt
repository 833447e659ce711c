-- Places in a list of pieces.
use Rattle.std.specs.Prelude.{ℕ, suc, nat_lt, if◌then◌else◌, List, [], ◌∷◌}
use Rattle.oss_ranges.specs.declared.piece.Piece.{Piece}

-- the place of the first piece that ends behind a cell, or the end: in `2..5 a`, `7..8 b` it is 0 for the cell 4, 1 for 5 and 2 for 8
abbrev pub place : {T : Type 0} → ℕ → List (Piece T) → ℕ
place cell [] = 0
place cell (p ∷ rest) = if nat_lt cell p.hi then 0 else suc (place cell rest)
