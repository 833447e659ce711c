-- The sentences of a failure of the program's own meaning: what was named, and what there is.
-- Read against: a shift by 64 has ` shifts by 64` and `A shift is by 0 to 63.`. With `long x, a[4], m[3][4];` the place 4 of `a` has ` uses the place a[4]` and `a has the elements 0 to 3.`; the place 13 of `m` is
-- `m[3][1]` and -1 is `m[-1][3]`, and `m has the rows 0 to 2 and the columns 0 to 3.`; the section `x[0;2]` has ` names a section of x`, `It has the elements 0 to 1.` and `x has the element 0.`; of -1 elements
-- it is `It has -1 elements.`. A pointer that points nowhere was never set, if no global has two dimensions: else it may also be a row or an element that is none.
use Rattle.std.specs.Prelude.{ℕ, ◌+◌, ◌-◌, ◌/◌, ◌%◌, ◌==◌, Bool, true, false, if◌then◌else◌, List, [], ◌∷◌, ◌++◌, Option, Some, None, codes, ℤ, pos, int_lt, nat_abs}
use Rattle.std.specs.Fmt.{decimal, signed_decimal}
use Rattle.oss_syntax.specs.declared.tree.program.GlobalDef.{GlobalDef}
use Rattle.oss_syntax.specs.declared.tree.program.Item.{Item}
use Rattle.oss_syntax.specs.declared.tree.program.Item.TheVariants as items
use Rattle.oss_grammar.specs.Layout.{cells_of}
use Rattle.oss_machine.specs.declared.failure.Failure.{Failure}
use Rattle.oss_machine.specs.declared.failure.Failure.TheVariants as failures
use Rattle.oss_machine.specs.declared.failure.Miss.{Miss}
use Rattle.oss_machine.specs.declared.failure.Miss.TheVariants as misses
use Rattle.oss_machine.specs.declared.failure.Stretch.{Stretch}
use Rattle.oss_machine.specs.declared.failure.Stretch.TheVariants as stretches
use Rattle.oss_pieces.specs.Names.{index_text}
use Rattle.oss_pieces.specs.Rows.{width_of}
use Rattle.oss_explanation.specs.Sentences.{stop}

-- an index, which may be negative
abbrev pub signed_index : ℤ → List ℕ
signed_index i = codes "[" ++ signed_decimal i ++ codes "]"

-- the row and the column of a place before an array of two dimensions, by so many cells, of which a row has so many
abbrev pub place_before : ℕ → ℕ → List ℕ
place_before width n = codes "[-" ++ decimal ((n - 1) / width + 1) ++ codes "]" ++ index_text (width - 1 - (n - 1) % width)

-- the row and the column of a place, of which the row may be none
abbrev pub place_in_rows : ℕ → ℤ → List ℕ
place_in_rows width i = if int_lt i (pos 0) then place_before width (nat_abs i) else index_text (nat_abs i / width) ++ index_text (nat_abs i % width)

-- a place of this global, counted from its first cell
abbrev pub place_named : GlobalDef → Option ℕ → ℤ → List ℕ
place_named g None i = signed_index i
place_named g (Some columns) i = place_in_rows (width_of g) i

-- what was named of this global, behind the name of the task
abbrev pub miss_text : GlobalDef → Miss → List ℕ
miss_text g (misses.Place i) = codes " uses the place " ++ g.name ++ place_named g g.columns i
miss_text g (misses.Row r) = codes " uses the place " ++ g.name ++ signed_index r
miss_text g (misses.Element r c) = codes " uses the place " ++ g.name ++ signed_index r ++ signed_index c
miss_text g _ = codes " names a section of " ++ g.name

-- so many elements, rows or columns, counted from 0
abbrev pub counted_text : List ℕ → ℕ → List ℕ
counted_text one n = if n == 1 then codes "the " ++ one ++ codes " 0" else codes "the " ++ one ++ codes "s 0 to " ++ decimal (n - 1)

-- what the global has: its elements; its rows; its rows and its columns
abbrev pub elements_text : GlobalDef → List ℕ
elements_text g = g.name ++ codes " has " ++ counted_text (codes "element") (cells_of g.cells) ++ stop

abbrev pub rows_of : GlobalDef → ℕ
rows_of g = cells_of g.cells / width_of g

abbrev pub rows_text : GlobalDef → List ℕ
rows_text g = g.name ++ codes " has " ++ counted_text (codes "row") (rows_of g) ++ stop

abbrev pub grid_text : GlobalDef → List ℕ
grid_text g = g.name ++ codes " has " ++ counted_text (codes "row") (rows_of g) ++ codes " and " ++ counted_text (codes "column") (width_of g) ++ stop

-- what it has where a place is counted from its first cell
abbrev pub places_text : GlobalDef → Option ℕ → List ℕ
places_text g None = elements_text g
places_text g (Some columns) = grid_text g

-- the first of several elements, rows or columns that a section has, and the last
unfoldable pub several_from : List ℕ → ℤ → List ℕ
several_from one i = codes "It has the " ++ one ++ codes "s " ++ signed_decimal i

unfoldable pub several_to : ℤ → List ℕ
several_to j = codes " to " ++ signed_decimal j ++ stop

-- what a section has of one dimension
abbrev pub stretch_text : List ℕ → Stretch → List ℕ
stretch_text one (stretches.Few n) = codes "It has " ++ signed_decimal n ++ codes " " ++ one ++ codes "s.\n"
stretch_text one (stretches.One i) = codes "It has the " ++ one ++ codes " " ++ signed_decimal i ++ stop
stretch_text one (stretches.Several i j) = several_from one i ++ several_to j

-- what the section has, and what this global has
abbrev pub bounds_text : GlobalDef → Miss → List ℕ
bounds_text g (misses.Place i) = places_text g g.columns
bounds_text g (misses.Row r) = rows_text g
bounds_text g (misses.Element r c) = grid_text g
bounds_text g (misses.Elements s) = stretch_text (codes "element") s ++ elements_text g
bounds_text g (misses.Rows s) = stretch_text (codes "row") s ++ rows_text g
bounds_text g (misses.Grid r c) = stretch_text (codes "row") r ++ stretch_text (codes "column") c ++ grid_text g

-- a global has two dimensions, or one behind it
abbrev pub rows_or : Option ℕ → Bool → Bool
rows_or None later = later
rows_or (Some columns) later = true

-- a global of these items has two dimensions
abbrev pub has_rows : List Item → Bool
has_rows [] = false
has_rows (items.Global g ∷ rest) = rows_or g.columns (has_rows rest)
has_rows (items.Function f ∷ rest) = has_rows rest

-- what a task does with a pointer that points nowhere, where this is done with one that was never set
abbrev pub nowhere_text : Bool → List ℕ → List ℕ
nowhere_text true unset = codes " names a cell or a section outside of its global"
nowhere_text false unset = unset

-- what was named of the global with this number among those of these items
abbrev pub named_outside : List Item → ℕ → Miss → List ℕ
named_outside [] n m = []
named_outside (items.Global g ∷ rest) n m = if n == 0 then miss_text g m else named_outside rest (n - 1) m
named_outside (items.Function f ∷ rest) n m = named_outside rest n m

-- and what it has
abbrev pub bounds_of : List Item → ℕ → Miss → List ℕ
bounds_of [] n m = []
bounds_of (items.Global g ∷ rest) n m = if n == 0 then bounds_text g m else bounds_of rest (n - 1) m
bounds_of (items.Function f ∷ rest) n m = bounds_of rest n m

-- that a multidependency is named, before the number of its turns
unfoldable pub turns_named : List ℕ
turns_named = codes " names a multidependency of "

-- what the task does, behind its name and before the line
abbrev pub failure_text : List Item → Failure → List ℕ
failure_text all (failures.Shift n) = codes " shifts by " ++ signed_decimal n
failure_text all (failures.Turns n) = turns_named ++ signed_decimal n ++ codes " turns"
failure_text all failures.Nowhere = nowhere_text (has_rows all) (codes " uses an unset pointer")
failure_text all failures.NoSection = nowhere_text (has_rows all) (codes " names a section by an unset pointer")
failure_text all (failures.Outside g m) = named_outside all g m

-- the rule that is broken: what a shift may be by, how many turns there may be, or what there is
abbrev pub limit_text : List Item → Failure → List ℕ
limit_text all (failures.Shift n) = codes "A shift is by 0 to 63.\n"
limit_text all (failures.Turns n) = codes "A multidependency has 0 to 1048576 turns.\n"
limit_text all failures.Nowhere = []
limit_text all failures.NoSection = []
limit_text all (failures.Outside g m) = bounds_of all g m
