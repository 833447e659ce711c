-- When a name is declared before: among items, and in a scope.
use Rattle.std.proofs.Common.{◌≡◌, ℕ, ◌<◌, ◌≤◌, ◌==◌, true, false, not, List, [], ◌∷◌, ◌++◌, length, map, refl, ap, ◌∙◌, ◌⊎◌, inl, inr, Some, arith}
use Rattle.std.specs.Prelude.{nat_lt}
use Rattle.std.specs.List.{list_any, position_or_len}
use Rattle.std.specs.Str.{bytes_eq}
use Rattle.std.proofs.lemmas.Bool.{cases_Bool}
use Rattle.std.proofs.lemmas.Bool.Decides.{nat_tests}
use Rattle.std.proofs.lemmas.Slice.Eq.{bytes_eq-Decides}
use Rattle.oss_syntax.specs.declared.tree.program.Item.{Item}
use Rattle.oss_syntax.specs.declared.tree.program.Local.{Local}
use Rattle.oss_grammar.specs.Places.{IsOneOf}
use Rattle.oss_grammar.specs.Places.IsOneOf.{first_of_them, later_of_them}
use Rattle.oss_grammar.specs.Redeclarations.{NamesItem, NamesLocal}
use Rattle.oss_grammar.specs.Scopes.{item_name, item_place, is_again}
use Rattle.oss_grammar.proofs.PlaceLemmas.{none_of}

-- bytes that pass the test are equal
pub same_bytes : (xs ys : List ℕ) → bytes_eq xs ys ≡ true → xs ≡ ys
same_bytes xs ys is = (bytes_eq-Decides xs ys).0 is

pub bytes_same : (xs ys : List ℕ) → xs ≡ ys → bytes_eq xs ys ≡ true
bytes_same xs ys is = (bytes_eq-Decides xs ys).1 is

-- a local of this name is one of these
pub names_local : (locals : List Local) (name : List ℕ) → list_any (λ l. bytes_eq l.name name) locals ≡ true → NamesLocal locals name
names_local [] name is = absurd (cc)
names_local (l ∷ rest) name is = elim (cases_Bool (bytes_eq l.name name)) [
  | inl same ↦ record { named = l; is_listed = first_of_them refl; has_name = same_bytes l.name name same }
  | inr other ↦ more (names_local rest name (rw other at is))
] where
  more : NamesLocal rest name → NamesLocal (l ∷ rest) name
  more n = record { named = n.named; is_listed = later_of_them n.is_listed; has_name = n.has_name }

any_local : (locals : List Local) (name : List ℕ) (l : Local) → IsOneOf l locals → l.name ≡ name → list_any (λ l. bytes_eq l.name name) locals ≡ true
any_local [] name l is has = none_of is
any_local (m ∷ rest) name l (first_of_them e) has = (let same : bytes_eq m.name name ≡ true = bytes_same m.name name (ap (λ (k : Local). k.name) e ∙ has) in rw same refl)
any_local (m ∷ rest) name l (later_of_them is) has = (let later : list_any (λ l. bytes_eq l.name name) rest ≡ true = any_local rest name l is has in elim (cases_Bool (bytes_eq m.name name)) [
  | inl same ↦ (rw same refl)
  | inr other ↦ (rw (other, later) refl)
])

pub local_named : {locals : List Local} {name : List ℕ} → NamesLocal locals name → list_any (λ l. bytes_eq l.name name) locals ≡ true
local_named {locals} {name} n = any_local locals name n.named n.is_listed n.has_name

-- the place of the first item of a name
abbrev pub place : List ℕ → List Item → ℕ
place name all = position_or_len (λ other. bytes_eq other name) (map item_name all)

pub place_before : (name : List ℕ) (before rest : List Item) (e : Item) → IsOneOf e before → item_name e ≡ name → place name (before ++ rest) < length before
place_before name [] rest e is has = none_of is
place_before name (x ∷ before) rest e (first_of_them same) has =
    let passes : bytes_eq (item_name x) name ≡ true = bytes_same (item_name x) name (ap item_name same ∙ has) in
    rw passes (omega arith)
place_before name (x ∷ before) rest e (later_of_them is) has = elim (cases_Bool (bytes_eq (item_name x) name)) [
  | inl same ↦ (rw same (omega arith))
  | inr other ↦ (rw other (omega (arith, place_before name before rest e is has)))
]

place_found : (name : List ℕ) (before : List Item) (item : Item) (rest : List Item) → item_name item ≡ name → (place name (before ++ (item ∷ rest)) ≡ length before) ⊎ NamesItem before name
place_found name [] item rest has = (let passes : bytes_eq (item_name item) name ≡ true = bytes_same (item_name item) name has in inl (rw passes refl))
place_found name (x ∷ before) item rest has = elim (cases_Bool (bytes_eq (item_name x) name)) [
  | inl same ↦ inr (record { item = x; is_listed = first_of_them refl; has_name = same_bytes (item_name x) name same })
  | inr other ↦ put other (place_found name before item rest has)
] where
  put : bytes_eq (item_name x) name ≡ false → (place name (before ++ (item ∷ rest)) ≡ length before) ⊎ NamesItem before name
      → (place name ((x ∷ before) ++ (item ∷ rest)) ≡ length (x ∷ before)) ⊎ NamesItem (x ∷ before) name
  put other (inl e) = inl (rw other (omega (arith, e)))
  put other (inr n) = inr (record { item = n.item; is_listed = later_of_them n.is_listed; has_name = n.has_name })

-- an item declares its name again exactly where an item before it has that name
module _ (name : List ℕ) (before : List Item) (item : Item) (rest : List Item) (has : item_name item ≡ name) where
  short : place name (before ++ (item ∷ rest)) ≤ length before
  short = elim (place_found name before item rest has) [
    | inl e ↦ omega (arith, e)
    | inr n ↦ omega (arith, place_before name before (item ∷ rest) n.item n.is_listed n.has_name)
  ]

  long : (xs : List Item) → length xs < length (map item_name (xs ++ (item ∷ rest)))
  long [] = omega arith
  long (x ∷ xs) = omega (arith, long xs)

  placed : item_place (before ++ (item ∷ rest)) name ≡ Some (place name (before ++ (item ∷ rest)))
  placed = let lt : nat_lt (place name (before ++ (item ∷ rest))) (length (map item_name (before ++ (item ∷ rest)))) ≡ true = grind (arith, nat_tests, short, long before) in rw lt refl

  pub item_is_again : NamesItem before name → is_again (before ++ (item ∷ rest)) (length before) name ≡ true
  item_is_again n = let lt : place name (before ++ (item ∷ rest)) < length before = place_before name before (item ∷ rest) n.item n.is_listed n.has_name in rw placed (grind (arith, nat_tests, lt))

  pub again_named : is_again (before ++ (item ∷ rest)) (length before) name ≡ true → NamesItem before name
  again_named is = elim (place_found name before item rest has) [
    | inl e ↦ (let no_again : not (place name (before ++ (item ∷ rest)) == length before) ≡ true = rw placed at is in absurd (grind (arith, nat_tests, e, no_again)))
    | inr n ↦ n
  ]
