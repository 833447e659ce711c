-- What writing out task loops keeps.
use Rattle.std.proofs.Common.{◌≡◌, ℕ, List, [], ◌∷◌, map, refl, ap}
use Rattle.oss_syntax.specs.declared.tree.program.Item.{Item}
use Rattle.oss_syntax.specs.declared.tree.program.Item.TheVariants as items
use Rattle.oss_syntax.specs.declared.tree.program.Program.{Program}
use Rattle.oss_grammar.specs.Layout.{cells_of, names_of, sizes_of}
use Rattle.oss_grammar.specs.TaskLoops.{item_written}
use Rattle.oss_loops.specs.Keeping.{Keeps}

pub sizes-kept : (xs : List Item) → sizes_of (map item_written xs) ≡ sizes_of xs
sizes-kept [] = refl
sizes-kept (items.Global g ∷ rest) = ap (λ ss. cells_of g.cells ∷ ss) (sizes-kept rest)
sizes-kept (items.Function f ∷ rest) = sizes-kept rest

pub names-kept : (xs : List Item) → names_of (map item_written xs) ≡ names_of xs
names-kept [] = refl
names-kept (items.Global g ∷ rest) = ap (λ names. g.name ∷ names) (names-kept rest)
names-kept (items.Function f ∷ rest) = names-kept rest

pub keeps : (p : Program) → Keeps p
keeps p = record { names = names-kept p.items; sizes = sizes-kept p.items }
