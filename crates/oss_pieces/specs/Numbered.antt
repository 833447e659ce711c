-- The globals of a program by number.
-- Read against: of `long x;`, a function and `long a[3];` the globals are x, with the number 0, and a, with the number 1.
use Rattle.std.specs.Prelude.{List, [], ◌∷◌}
use Rattle.oss_syntax.specs.declared.tree.program.GlobalDef.{GlobalDef}
use Rattle.oss_syntax.specs.declared.tree.program.Item.{Item}
use Rattle.oss_syntax.specs.declared.tree.program.Item.TheVariants as items

-- the globals among these items, in text order
abbrev pub globals_of : List Item → List GlobalDef
globals_of [] = []
globals_of (items.Global g ∷ rest) = g ∷ globals_of rest
globals_of (items.Function f ∷ rest) = globals_of rest
