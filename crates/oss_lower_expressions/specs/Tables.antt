-- Tables by which names are looked up.
-- Read against: with `long x, a[3]; void f() {}` the names `x`, `a` and `f` stand for the scalar 0, the array 1 and the function 0.
use Rattle.std.specs.Prelude.{◌≡◌, ℕ, ◌+◌, List, [], ◌∷◌, map, Option, Some, None, slice_get}
use Rattle.std.specs.Borrow.{Bor}
use Rattle.oss_syntax.specs.declared.tree.program.Function.{Function}
use Rattle.oss_syntax.specs.declared.tree.program.Item.{Item}
use Rattle.oss_syntax.specs.declared.tree.program.Item.TheVariants as items
use Rattle.oss_grammar.specs.Scopes.{item_name}
use Rattle.oss_meaning.specs.declared.names.Found.{Found}
use Rattle.oss_meaning.specs.declared.names.Found.TheVariants as names
use Rattle.oss_meaning.specs.Names.{functions_of, global_found}

-- what each item is, where so many globals and functions stand before these
abbrev pub founds_from : ℕ → ℕ → List Item → List Found
founds_from g f [] = []
founds_from g f (items.Global d ∷ rest) = global_found d.cells d.columns g d.kind ∷ founds_from (g + 1) f rest
founds_from g f (items.Function d ∷ rest) = names.Function f ∷ founds_from g (f + 1) rest

-- what stands somewhere; nothing is unknown
abbrev pub or_unknown : Option Found → Found
or_unknown None = names.Unknown
or_unknown (Some f) = f

-- what stands at a place, if there is one
abbrev pub found_at : List Found → Option ℕ → Found
found_at founds None = names.Unknown
found_at founds (Some place) = or_unknown (slice_get founds place)

-- The tables of these items: the name of each, what it is, and the functions.
pub record AreNamed (all : List Item) (table : List (List ℕ)) (found : List Found) (numbered : List (Bor Function)) : Type 0 where
  pub named : table ≡ map item_name all
  pub founds : found ≡ founds_from 0 0 all
  pub functions : map (λ f. f.now) numbered ≡ functions_of all
