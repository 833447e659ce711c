-- How cells and pieces are written: as a clause names them, so that they can be pasted into one.
-- Read against: of `long x, a[10], m[3][4];` cell 0 is `x`, cell 4 `a[3]` and cell 17 `m[1][2]`; pieces are `x`, `a[0:3]`, `a[3]`, `m[0:1][1:2]`, whole rows
-- `m[2]` and `m[1:2]`, and all cells `a` and `m`. The one cell of `long b[1];` is `b[0]`.
use Rattle.std.specs.Prelude.{ℕ, ◌+◌, ◌-◌, ◌*◌, ◌/◌, ◌%◌, ◌==◌, ◌&&◌, nat_lt, Bool, if◌then◌else◌, List, [], ◌∷◌, ◌++◌, take, drop, Option, Some, None, codes}
use Rattle.std.specs.Fmt.{decimal}
use Rattle.oss_syntax.specs.declared.tree.program.GlobalDef.{GlobalDef}
use Rattle.oss_syntax.specs.declared.tree.program.Item.{Item}
use Rattle.oss_syntax.specs.declared.tree.program.Item.TheVariants as items
use Rattle.oss_grammar.specs.Layout.{cells_of}
use Rattle.oss_pieces.specs.declared.piece.Piece.{Piece}
use Rattle.oss_pieces.specs.declared.piece.Span.{Span}
use Rattle.oss_pieces.specs.Rows.{width_of}

-- one index
abbrev pub index_text : ℕ → List ℕ
index_text n = codes "[" ++ decimal n ++ codes "]"

-- one index, or the first and the last of several
abbrev pub span_text : Span → List ℕ
span_text s = if s.first == s.last then index_text s.first else codes "[" ++ decimal s.first ++ codes ":" ++ decimal s.last ++ codes "]"

-- The place of a cell in its global, which has this many columns, if two dimensions.
abbrev pub place_text : Option ℕ → Option ℕ → ℕ → ℕ → List ℕ
place_text None columns width c = []
place_text (Some n) None width c = index_text c
place_text (Some n) (Some columns) width c = index_text (c / width) ++ index_text (c % width)

-- The name of a cell, counted from the first one of these globals.
abbrev pub cell_name : List Item → ℕ → List ℕ
cell_name [] c = []
cell_name (items.Global g ∷ rest) c = if nat_lt c (cells_of g.cells) then g.name ++ place_text g.cells g.columns (width_of g) c else cell_name rest (c - cells_of g.cells)
cell_name (items.Function f ∷ rest) c = cell_name rest c

-- whether a span is all of so many
abbrev pub all_in : Span → ℕ → Bool
all_in s n = s.first == 0 && s.last + 1 == n

-- whether a piece has all cells of a global with more than one
abbrev pub is_whole : GlobalDef → Piece → Bool
is_whole g p = nat_lt 1 (cells_of g.cells) && all_in p.columns (width_of g) && p.rows.first == 0 && (p.rows.last + 1) * width_of g == cells_of g.cells

-- the rows and columns of a piece that is not the whole global
abbrev pub spans_text : Option ℕ → Option ℕ → ℕ → Piece → List ℕ
spans_text None columns width p = []
spans_text (Some n) None width p = span_text p.columns
spans_text (Some n) (Some columns) width p = span_text p.rows ++ (if all_in p.columns width then [] else span_text p.columns)

-- a piece of this global
abbrev pub piece_of_global : GlobalDef → Piece → List ℕ
piece_of_global g p = g.name ++ (if is_whole g p then [] else spans_text g.cells g.columns (width_of g) p)

-- a piece of the global with this number among those of these items
abbrev pub piece_from : List Item → ℕ → Piece → List ℕ
piece_from [] number p = []
piece_from (items.Global g ∷ rest) number p = if number == 0 then piece_of_global g p else piece_from rest (number - 1) p
piece_from (items.Function f ∷ rest) number p = piece_from rest number p

-- a piece
abbrev pub piece_text : List Item → Piece → List ℕ
piece_text all p = piece_from all p.global p

-- how many there are from the first to the last
abbrev pub size_in : Span → ℕ
size_in s = s.last + 1 - s.first

-- how many cells pieces have
abbrev pub cells_in_pieces : List Piece → ℕ
cells_in_pieces [] = 0
cells_in_pieces (p ∷ rest) = size_in p.rows * size_in p.columns + cells_in_pieces rest

-- pieces, with `, ` before each
abbrev pub further_pieces : List Item → List Piece → List ℕ
further_pieces all [] = []
further_pieces all (p ∷ rest) = codes ", " ++ piece_text all p ++ further_pieces all rest

-- pieces, with `, ` between them
abbrev pub joined_pieces : List Item → List Piece → List ℕ
joined_pieces all [] = []
joined_pieces all (p ∷ rest) = piece_text all p ++ further_pieces all rest

-- what is counted
abbrev pub more_cells : ℕ → List ℕ
more_cells n = if n == 1 then codes " more cell" else codes " more cells"

-- how many cells are left out: nothing where there is none
abbrev pub left_out : ℕ → List ℕ
left_out n = if n == 0 then [] else codes ", " ++ decimal n ++ more_cells n

-- The first pieces, at most so many, and how many cells the others have.
abbrev pub pieces_text : List Item → ℕ → List Piece → List ℕ
pieces_text all most ps = joined_pieces all (take most ps) ++ left_out (cells_in_pieces (drop most ps))
