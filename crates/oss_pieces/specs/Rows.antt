-- How the cells of a global lie in rows. A row of an array of two dimensions is a row of it; all cells of any other global are one row.
-- Read against: of `long x, a[3], m[2][4];` the rows are the cells 0..1, 1..4, 4..8 and 8..12, each without its end.
use Rattle.std.specs.Prelude.{◌≡◌, ◌≤◌, ◌<◌, ℕ, ◌+◌, ◌-◌, ◌*◌, min, max, Bool, true, false, Option, Some, None}
use Rattle.oss_syntax.specs.declared.tree.program.GlobalDef.{GlobalDef}
use Rattle.oss_grammar.specs.Layout.{cells_of}
use Rattle.oss_pieces.specs.declared.shape.Shape.{Shape}

-- How many cells a row has, of so many in all. (It has one at least, and no more than the global.)
abbrev pub width_in : Option ℕ → ℕ → ℕ
width_in None cells = max cells 1
width_in (Some columns) cells = max (min columns cells) 1

abbrev pub width_of : GlobalDef → ℕ
width_of g = width_in g.columns (cells_of g.cells)

-- Where a global lies: its first cell, how many cells it has, and how many each row has.
pub record Grid : Type 0 where
  pub start : ℕ
  pub cells : ℕ
  pub width : ℕ

-- that of a global with this first cell
abbrev pub grid_of : GlobalDef → ℕ → Grid
grid_of g first = record { start = first; cells = cells_of g.cells; width = width_of g }

-- the one that is kept
abbrev pub grid : Shape → Grid
grid s = record { start = s.start; cells = s.cells; width = s.width }

-- the first cell of a row: of `m` above, 4 and 8
abbrev pub row_begin : Grid → ℕ → ℕ
row_begin s r = s.start + r * s.width

-- the cell after the last one of a row: of `m` above, 8 and 12
abbrev pub row_end : Grid → ℕ → ℕ
row_end s r = min (row_begin s r + s.width) (s.start + s.cells)

-- The cells from `from` up to `to` are a longest run of cells with this property, in the row that goes from `lo` up to `hi`: with 2, 3 and 4 in the set,
-- the runs of `a` and of `m` are 2..4 and 4..5.
pub record IsRun (test : ℕ → Bool) (lo hi from to : ℕ) : Type 0 where
  pub some : from < to
  pub above : lo ≤ from
  pub below : to ≤ hi
  pub all : (c : ℕ) → from ≤ c → c < to → test c ≡ true
  pub before : lo < from → test (from - 1) ≡ false
  pub after : to < hi → test to ≡ false

-- The row is one of the global, and these columns of it are a run, both included.
pub record HasRun (s : Grid) (test : ℕ → Bool) (row first last : ℕ) : Type 0 where
  pub there : row * s.width < s.cells
  pub run : IsRun test (row_begin s row) (row_end s row) (row_begin s row + first) (row_begin s row + last + 1)
