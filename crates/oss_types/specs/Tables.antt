-- Tables of names. A name may stand more than once in a list, and its place is that of the first.
-- Read against: among `a`, `b`, `a` the place of `a` is 0 and that of `b` is 1, and `c` has none; a table of these names holds two.
use Rattle.std.specs.Prelude.{◌≡◌, ℕ, List, [], ◌∷◌, ◌++◌, take, Option, None, Some, option_map, position, slice_get}
use Rattle.std.specs.Borrow.{Bor}
use Rattle.std.specs.Str.{bytes_eq}
use Rattle.indexmap.specs.IndexMap.{IndexMap, get_by}
use Rattle.oss_syntax.specs.declared.tree.program.Kind.{Kind}
use Rattle.oss_syntax.specs.declared.tree.program.Local.{Local}
use Rattle.oss_grammar.specs.Scopes.{hidden_local, local_kind}
use Rattle.oss_types.specs.declared.scope.Part.{Part}
use Rattle.oss_types.specs.declared.scope.Part.TheVariants as part

-- the place of a name among names
abbrev pub place_among : List (List ℕ) → List ℕ → Option ℕ
place_among names name = position (λ other. bytes_eq other name) names

-- the table has the first place of each of these names, and no other name
abbrev pub HasFirstPlaces : {S : Type 0} → IndexMap (Bor (List ℕ)) ℕ S → List (List ℕ) → Type 0
HasFirstPlaces table names = (name : List ℕ) → get_by (λ key. bytes_eq name key.now) table ≡ place_among names name

-- the type of the local at a place, where there is one
abbrev pub kind_at : List Local → Option ℕ → Option Kind
kind_at locals None = None
kind_at locals (Some i) = option_map (λ l. l.kind) (slice_get locals i)

-- the place of a name among these names is that of the local that it stands for
abbrev pub TellsKinds : List (List ℕ) → List Local → Type 0
TellsKinds names locals = (name : List ℕ) → local_kind locals name ≡ kind_at locals (place_among names name)

-- a local in scope: that of a text, or a hidden one
abbrev pub local_of : Option (Bor Local) → Local
local_of None = hidden_local
local_of (Some l) = l.now

-- the locals in scope of some that are declared: of `a`, `b` the first one is `a`, and with `c` they are `a`, `b`, `c`
abbrev pub part_of : Part → List Local → List Local
part_of part.All locals = locals
part_of (part.With l) locals = locals ++ l.now ∷ []
part_of (part.First count) locals = take count locals
