-- UnknownName is told of an expression exactly where an unknown name is used in it.
use Rattle.std.proofs.Common.{◌≡◌, ℕ, ◌<◌, ◌≤◌, Bool, true, false, List, [], ◌∷◌, ◌++◌, length, map, refl, ap, ◌∙◌, ◌⊎◌, inl, inr, Option, Some, None, arith, get_or}
use Rattle.std.specs.Prelude.{nat_lt, slice_get}
use Rattle.std.specs.Str.{bytes_eq}
use Rattle.std.proofs.lemmas.Bool.{cases_Bool}
use Rattle.std.proofs.lemmas.List.{append-nil, length-map}
use Rattle.std.proofs.lemmas.Option.{slice_get_cases}
use Rattle.std.proofs.lemmas.Bool.Decides.{nat_tests}
use Rattle.oss_syntax.specs.declared.tree.program.Item.{Item}
use Rattle.oss_syntax.specs.declared.tree.program.Kind.{Kind}
use Rattle.oss_syntax.specs.declared.tree.program.Item.TheVariants as items
use Rattle.oss_syntax.specs.declared.tree.program.Local.{Local}
use Rattle.oss_syntax.specs.declared.tree.program.NumKind.{NumKind}
use Rattle.oss_grammar.specs.declared.kinds.Named.TheVariants as named
use Rattle.oss_grammar.specs.Places.{IsOneOf}
use Rattle.oss_grammar.specs.Places.IsOneOf.{first_of_them, later_of_them}
use Rattle.oss_grammar.specs.Redeclarations.{NamesItem, NamesLocal}
use Rattle.oss_grammar.specs.Scopes.{global_meaning, item_meaning, item_name, item_named, local_kind, meaning}
use Rattle.oss_grammar.specs.UnknownNames.{IsUnknown}
use Rattle.oss_grammar.proofs.NameLemmas.{bytes_same, same_bytes, place, place_before}
use Rattle.oss_grammar.proofs.PlaceLemmas.{none_of}

-- a local of a name has a type, and the other way
further : (l : Local) (rest : List Local) (name : List ℕ) → NamesLocal rest name → NamesLocal (l ∷ rest) name
further l rest name n = record { named = n.named; is_listed = later_of_them n.is_listed; has_name = n.has_name }

kind_names : (locals : List Local) (name : List ℕ) (k : Kind) → local_kind locals name ≡ Some k → NamesLocal locals name
kind_names [] name k is = absurd (cc)
kind_names (l ∷ rest) name k is = by (λ j e. kind_names rest name j e) (local_kind rest name) refl (bytes_eq l.name name) refl where
  by : ((j : Kind) → local_kind rest name ≡ Some j → NamesLocal rest name) → (o : Option Kind) → local_kind rest name ≡ o → (b : Bool) → bytes_eq l.name name ≡ b → NamesLocal (l ∷ rest) name
  by more (Some j) e b f = further l rest name (more j e)
  by more None e true f = record { named = l; is_listed = first_of_them refl; has_name = same_bytes l.name name f }
  by more None e false f = (let none : None ≡ Some k = rw (e, f) at is in absurd (cc))

named_kind : (locals : List Local) (name : List ℕ) (l : Local) → IsOneOf l locals → l.name ≡ name → (k : Kind) × (local_kind locals name ≡ Some k)
named_kind [] name l is has = none_of is
named_kind (m ∷ rest) name l (first_of_them same) has = by (local_kind rest name) refl where
  passes : bytes_eq m.name name ≡ true
  passes = bytes_same m.name name (ap (λ (k : Local). k.name) same ∙ has)

  by : (o : Option Kind) → local_kind rest name ≡ o → (k : Kind) × (local_kind (m ∷ rest) name ≡ Some k)
  by (Some j) e = (j, (rw e refl))
  by None e = (m.kind, (rw (e, passes) refl))
named_kind (m ∷ rest) name l (later_of_them is) has = by (named_kind rest name l is has) where
  by : (k : Kind) × (local_kind rest name ≡ Some k) → (k : Kind) × (local_kind (m ∷ rest) name ≡ Some k)
  by found = (found.0, (rw found.1 refl))

-- the same of items
beyond : (item : Item) (rest : List Item) (name : List ℕ) → NamesItem rest name → NamesItem (item ∷ rest) name
beyond item rest name n = record { item = n.item; is_listed = later_of_them n.is_listed; has_name = n.has_name }

place_names : (all : List Item) (name : List ℕ) → place name all < length (map item_name all) → NamesItem all name
place_names [] name lt = absurd (omega arith)
place_names (x ∷ rest) name lt = elim (cases_Bool (bytes_eq (item_name x) name)) [
  | inl same ↦ record { item = x; is_listed = first_of_them refl; has_name = same_bytes (item_name x) name same }
  | inr other ↦ (let inner : place name rest < length (map item_name rest) = (let lt2 = rw other at lt in omega (arith, lt2)) in beyond x rest name (place_names rest name inner))
]

no_item_named : (all : List Item) (name : List ℕ) → (NamesItem all name → ⊥) → item_named all name ≡ None
no_item_named all name none = elim (cases_Bool (nat_lt (place name all) (length (map item_name all)))) [
  | inl lt ↦ absurd (none (place_names all name (grind (arith, nat_tests, lt))))
  | inr ge ↦ (rw ge refl)
]

item_is_named : (all : List Item) (name : List ℕ) → NamesItem all name → (item : Item) × (item_named all name ≡ Some item)
item_is_named all name n = put (slice_get_cases all (place name all)) where
  within : place name all < length all
  within = let lt : place name (all ++ []) < length all = place_before name all [] n.item n.is_listed n.has_name in rw append-nil at lt

  named : item_named all name ≡ slice_get all (place name all)
  named = let lt : nat_lt (place name all) (length (map item_name all)) ≡ true = grind (arith, nat_tests, within, length-map all item_name) in rw lt refl

  put : (slice_get all (place name all) ≡ slice_get all (place name all)) × (((x : Item) × (place name all < length all) × (slice_get all (place name all) ≡ Some x) × (get_or all (place name all) x ≡ x))
      ⊎ ((length all ≤ place name all) × (slice_get all (place name all) ≡ None))) → (item : Item) × (item_named all name ≡ Some item)
  put c = elim (c.1) [
    | inl h ↦ (h.0, named ∙ h.2)
    | inr h ↦ absurd (omega (arith, h.0, within))
  ]

-- no item means something that is missing
global_known : {C : Type 0} (cells columns : Option ℕ) (n : NumKind) → global_meaning cells columns n ≡ named.Missing → C
global_known None columns n e = absurd (cc)
global_known (Some c) None n e = absurd (cc)
global_known (Some c) (Some m) n e = absurd (cc)

item_known : {C : Type 0} (item : Item) → item_meaning (Some item) ≡ named.Missing → C
item_known (items.Global g) e = global_known g.cells g.columns g.kind e
item_known (items.Function f) e = absurd (cc)

-- a name that is unknown means nothing, and the other way
module _ (all : List Item) (locals : List Local) (name : List ℕ) where
  pub unknown_meaning : IsUnknown all locals name → meaning all locals name ≡ named.Missing
  unknown_meaning u = by (local_kind locals name) refl where
    by : (o : Option Kind) → local_kind locals name ≡ o → meaning all locals name ≡ named.Missing
    by (Some k) e = absurd (u.no_local (kind_names locals name k e))
    by None e = (let none : item_named all name ≡ None = no_item_named all name u.no_item in rw (e, none) refl)

  no_local_named : meaning all locals name ≡ named.Missing → NamesLocal locals name → ⊥
  no_local_named m n = by (named_kind locals name n.named n.is_listed n.has_name) where
    by : (k : Kind) × (local_kind locals name ≡ Some k) → ⊥
    by k = (let e : named.Local k.0 ≡ named.Missing = rw k.1 at m in absurd (cc))

  no_item_here : meaning all locals name ≡ named.Missing → NamesItem all name → ⊥
  no_item_here m n = by (local_kind locals name) refl (item_is_named all name n) where
    by : (o : Option Kind) → local_kind locals name ≡ o → (item : Item) × (item_named all name ≡ Some item) → ⊥
    by (Some k) e f = (let c : named.Local k ≡ named.Missing = rw e at m in absurd (cc))
    by None e f = item_known f.0 (rw (e, f.1) at m)

  pub meaning_unknown : meaning all locals name ≡ named.Missing → IsUnknown all locals name
  meaning_unknown m = record { no_local = no_local_named m; no_item = no_item_here m }
