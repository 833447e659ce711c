-- Where the globals of a program begin, and the names of their cells by that.
-- Read against: of `long x, a[10], m[3][4];` the globals begin at 0, 1 and 11, so that cell 17 is 6 cells behind the first one of m: `m[1][2]`. Cell 23 would be 12 behind it, where m has none.
use Rattle.std.specs.Prelude.{ℕ, ◌+◌, min, nat_lt, if◌then◌else◌, List, [], ◌∷◌, ◌++◌, Option, Some, None}
use Rattle.oss_syntax.specs.declared.tree.program.GlobalDef.{GlobalDef}
use Rattle.oss_grammar.specs.Layout.{cells_of}
use Rattle.oss_pieces.specs.Names.{place_text}
use Rattle.oss_pieces.specs.Rows.{width_of}
use Rattle.oss_pieces.specs.declared.globals.Spot.{Spot}

-- where the next global begins, behind one that begins at n: at the highest number, if it is above that
abbrev pub next_begin : ℕ → GlobalDef → ℕ
next_begin n g = min (n + cells_of g.cells) 18446744073709551615

-- where each of these globals begins, the first one at n
abbrev pub begins_from : ℕ → List GlobalDef → List ℕ
begins_from n [] = []
begins_from n (g ∷ rest) = n ∷ begins_from (next_begin n g) rest

-- the name of the cell so far behind the first one of a global: nothing, if the global does not have so many
abbrev pub name_in : GlobalDef → ℕ → List ℕ
name_in g place = if nat_lt place (cells_of g.cells) then g.name ++ place_text g.cells g.columns (width_of g) place else []

-- the same, or nothing
abbrev pub name_at : Option Spot → List ℕ
name_at None = []
name_at (Some s) = name_in s.global.now s.place
