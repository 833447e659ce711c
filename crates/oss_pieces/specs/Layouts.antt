-- Where the globals of a program lie, as a table.
-- Read against: of `long x, a[3], m[2][4];` with a function between them the table has three rows: from cell 0 one cell in a row of one, from 1 three in a row of three, and from 4 eight in rows of four.
use Rattle.std.specs.Prelude.{◌≡◌, ℕ, ◌+◌, Bool, List, [], ◌∷◌, ◌++◌}
use Rattle.oss_syntax.specs.declared.tree.program.Item.{Item}
use Rattle.oss_syntax.specs.declared.tree.program.Item.TheVariants as items
use Rattle.oss_grammar.specs.Layout.{cells_of}
use Rattle.oss_pieces.specs.declared.piece.Piece.{Piece}
use Rattle.oss_pieces.specs.declared.shape.Shape.{Shape}
use Rattle.oss_pieces.specs.Pieces.{ArePiecesTo}
use Rattle.oss_pieces.specs.Rows.{Grid, grid, grid_of}

-- where the globals of these items lie, the first one from this cell on
abbrev pub grids_from : List Item → ℕ → List Grid
grids_from [] start = []
grids_from (items.Global g ∷ rest) start = grid_of g start ∷ grids_from rest (start + cells_of g.cells)
grids_from (items.Function f ∷ rest) start = grids_from rest start

-- those that are kept
abbrev pub grids : List Shape → List Grid
grids [] = []
grids (s ∷ rest) = grid s ∷ grids rest

-- Each begins where the one before it ends, the first one at this cell.
abbrev pub AreLaid : ℕ → List Grid → Type 0
AreLaid start [] = Unit {0}
AreLaid start (s ∷ rest) = (s.start ≡ start) × AreLaid (s.start + s.cells) rest

-- These are the pieces of a set in globals that lie so, whose first one has this number: those of each, one behind the other.
pub data ArePiecesIn (test : ℕ → Bool) : List Grid → ℕ → List Piece → Type 0 where
  none : {number : ℕ} → ArePiecesIn test [] number []
  one_more : {s : Grid} {rest : List Grid} {number : ℕ} {own others : List Piece} → ArePiecesTo s number test (s.start + s.cells) own → ArePiecesIn test rest (number + 1) others
      → ArePiecesIn test (s ∷ rest) number (own ++ others)
