-- The pieces of a set of cells. In each row of a global the cells of the set are cut into longest runs; runs of neighbouring rows with the same columns
-- are one piece. Pieces rise by their first cell.
-- Read against: of `long m[3][4];` with the cells 1, 2, 5, 6, 8 and 9 the pieces are the rows 0 to 1 with the columns 1 to 2, and row 2 with the
-- columns 0 to 1.
use Rattle.std.specs.Prelude.{◌≡◌, ◌≤◌, ◌<◌, ℕ, ◌+◌, ◌-◌, ◌*◌, ◌⊎◌, Bool, true, false, List, [], ◌∷◌, ◌++◌}
use Rattle.oss_model.specs.Order.{IsIn}
use Rattle.oss_syntax.specs.declared.tree.program.Function.{Function}
use Rattle.oss_syntax.specs.declared.tree.program.GlobalDef.{GlobalDef}
use Rattle.oss_syntax.specs.declared.tree.program.Item.{Item}
use Rattle.oss_syntax.specs.declared.tree.program.Item.TheVariants as items
use Rattle.oss_grammar.specs.Layout.{cells_of}
use Rattle.oss_pieces.specs.declared.piece.Piece.{Piece}
use Rattle.oss_pieces.specs.Rows.{Grid, HasRun, IsRun, grid_of, row_begin, row_end}

-- A piece of the global with this number: its columns are a run in each of its rows, and neither in the row before nor in the one after.
pub record IsPiece (s : Grid) (number : ℕ) (test : ℕ → Bool) (p : Piece) : Type 0 where
  pub global : p.global ≡ number
  pub ordered : p.rows.first ≤ p.rows.last
  pub each : (r : ℕ) → p.rows.first ≤ r → r ≤ p.rows.last → HasRun s test r p.columns.first p.columns.last
  pub above : (r : ℕ) → r + 1 ≡ p.rows.first → HasRun s test r p.columns.first p.columns.last → ⊥
  pub below : HasRun s test (p.rows.last + 1) p.columns.first p.columns.last → ⊥

-- the first cell of a piece
abbrev pub first_cell : Grid → Piece → ℕ
first_cell s p = row_begin s p.rows.first + p.columns.first

-- The pieces rise by their first cells, each of which comes before this cell.
pub data Rise (s : Grid) : List Piece → ℕ → Type 0 where
  none : {to : ℕ} → Rise s [] to
  one_more : {ps : List Piece} (p : Piece) {to : ℕ} → Rise s ps (first_cell s p) → first_cell s p < to → Rise s (ps ++ p ∷ []) to

-- These are all pieces of the global whose first cell comes before this one, in rising order.
pub record ArePiecesTo (s : Grid) (number : ℕ) (test : ℕ → Bool) (to : ℕ) (ps : List Piece) : Type 0 where
  pub rise : Rise s ps to
  pub each : (p : Piece) → IsIn p ps → IsPiece s number test p
  pub every : (p : Piece) → IsPiece s number test p → first_cell s p < to → IsIn p ps

-- These are the pieces of a set in the globals of these items, whose first one has this number and this first cell: those of each, in text order.
pub data ArePieces (test : ℕ → Bool) : List Item → ℕ → ℕ → List Piece → Type 0 where
  none : {number start : ℕ} → ArePieces test [] number start []
  of_global : {g : GlobalDef} {rest : List Item} {number start : ℕ} {own others : List Piece} → ArePiecesTo (grid_of g start) number test (start + cells_of g.cells) own
      → ArePieces test rest (number + 1) (start + cells_of g.cells) others → ArePieces test (items.Global g ∷ rest) number start (own ++ others)
  of_function : {f : Function} {rest : List Item} {number start : ℕ} {ps : List Piece} → ArePieces test rest number start ps → ArePieces test (items.Function f ∷ rest) number start ps

-- The run that begins at this cell ends before `to`, and either it belongs to a piece that begins in the row before, or it begins the one piece that was added.
pub record IsAdded (s : Grid) (number : ℕ) (test : ℕ → Bool) (begin to : ℕ) (old new : List Piece) : Type 0 where
  pub row : ℕ
  pub there : row * s.width < s.cells
  pub run : IsRun test (row_begin s row) (row_end s row) begin to
  pub added : ((new ≡ old) × ((r : ℕ) × (r + 1 ≡ row) × HasRun s test r (begin - row_begin s row) (to - 1 - row_begin s row)))
      ⊎ ((p : Piece) × IsPiece s number test p × (first_cell s p ≡ begin) × (new ≡ old ++ p ∷ []))

-- No run goes over this cell from the one before it.
abbrev pub IsBetweenRuns : Grid → (ℕ → Bool) → ℕ → Type 0
IsBetweenRuns s test at = (r : ℕ) → row_begin s r < at → at < row_end s r → test at ≡ false

-- Behind the run that ends at `to` so many whole rows follow up to `next`, all of whose cells are in the set; none if the run has fewer cells than a row.
pub record IsPastWhole (s : Grid) (test : ℕ → Bool) (begin to next : ℕ) : Type 0 where
  pub count : ℕ
  pub next_is : next ≡ to + count * s.width
  pub within : next ≤ s.start + s.cells
  pub all : (c : ℕ) → to ≤ c → c < next → test c ≡ true
  pub whole : to - begin < s.width → count ≡ 0
