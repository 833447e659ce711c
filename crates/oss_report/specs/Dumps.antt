-- The text of a dump: what the globals hold when a run has ended. A line for each in text order: the name, ` = `, and the values with a space between
-- them, those of an array in the order of its cells, those of an array of two dimensions row by row; an `unsigned long` is told without a sign.
-- Read against: with `long x = -1, a[3]; unsigned long u = -1;` and the cells as they begin, the lines are `x = -1`, `a = 0 0 0` and `u = 18446744073709551615`.
use Rattle.std.specs.Prelude.{ℕ, List, [], ◌∷◌, ◌++◌, take, drop, codes}
use Rattle.std.specs.Fmt.{decimal}
use Rattle.std.specs.List.{flat_map}
use Rattle.oss_syntax.specs.declared.tree.program.GlobalDef.{GlobalDef}
use Rattle.oss_syntax.specs.declared.tree.program.Item.{Item}
use Rattle.oss_syntax.specs.declared.tree.program.Item.TheVariants as items
use Rattle.oss_syntax.specs.declared.tree.program.NumKind.{NumKind}
use Rattle.oss_syntax.specs.declared.tree.program.NumKind.TheVariants as num
use Rattle.oss_grammar.specs.Formats.{signed_text}
use Rattle.oss_grammar.specs.Layout.{cells_of}

-- a value of a global of this type
abbrev pub value_text : NumKind → ℕ → List ℕ
value_text num.Ulong v = decimal v
value_text _ v = signed_text v

-- a value with a space before it
abbrev pub spaced_value : NumKind → ℕ → List ℕ
spaced_value kind v = 32 ∷ value_text kind v

-- values, with a space before each
abbrev pub spaced_values : NumKind → List ℕ → List ℕ
spaced_values kind vs = flat_map (spaced_value kind) vs

-- the line of a global that holds these values
abbrev pub dump_line : GlobalDef → List ℕ → List ℕ
dump_line g values = g.name ++ codes " =" ++ spaced_values g.kind values ++ 10 ∷ []

-- the lines of these globals, whose cells are the first of these
abbrev pub dump_text : List Item → List ℕ → List ℕ
dump_text [] cells = []
dump_text (items.Global g ∷ rest) cells = dump_line g (take (cells_of g.cells) cells) ++ dump_text rest (drop (cells_of g.cells) cells)
dump_text (items.Function f ∷ rest) cells = dump_text rest cells
