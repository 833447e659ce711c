-- Two lists of locals with the same names, and the names that declarators add to them.
use Rattle.std.proofs.Common.{◌≡◌, ℕ, zero, suc, ◌≤◌, Bool, true, false, List, [], ◌∷◌, ◌++◌, length, drop, refl, sym, ap, ◌∙◌, subst, ◌⊎◌, inl, inr, append_assoc, arith}
use Rattle.std.proofs.lemmas.List.{append-nil, drop-append-le, length-append}
use Rattle.oss_syntax.specs.declared.tree.program.Item.{Item}
use Rattle.oss_syntax.specs.declared.tree.program.Local.{Local}
use Rattle.oss_grammar.specs.Places.{IsOneOf}
use Rattle.oss_grammar.specs.Places.IsOneOf.{first_of_them, later_of_them}
use Rattle.oss_grammar.specs.Redeclarations.{NamesLocal}
use Rattle.oss_grammar.specs.Scopes.{is_local_again}
use Rattle.oss_grammar.specs.StaticRules.{with_local}
use Rattle.oss_grammar.specs.UnknownNames.{IsUnknown}
use Rattle.oss_grammar.proofs.NameLemmas.{names_local}
use Rattle.oss_grammar.proofs.PlaceLemmas.{none_of, one_of_left, one_of_right, one_of_two}
use Rattle.oss_grammar.proofs.ScopedPlaces.{scope_behind}

-- the same names
pub record SameNames (xs ys : List Local) : Type 0 where
  pub to : (name : List ℕ) → NamesLocal xs name → NamesLocal ys name
  pub from : (name : List ℕ) → NamesLocal ys name → NamesLocal xs name

pub same_refl : (xs : List Local) → SameNames xs xs
same_refl xs = record { to = λ name n. n; from = λ name n. n }

pub same_flip : {xs ys : List Local} → SameNames xs ys → SameNames ys xs
same_flip same = record { to = same.from; from = same.to }

pub same_unknown : {all : List Item} {xs ys : List Local} {name : List ℕ} → SameNames xs ys → IsUnknown all xs name → IsUnknown all ys name
same_unknown {name = name} same u = record { no_local = λ n. u.no_local (same.from name n); no_item = u.no_item }

pub same_known : {all : List Item} {xs ys : List Local} {name : List ℕ} → SameNames xs ys → IsUnknown all ys name → IsUnknown all xs name
same_known {name = name} same u = record { no_local = λ n. u.no_local (same.to name n); no_item = u.no_item }

names_left : {xs : List Local} {name : List ℕ} (ys : List Local) → NamesLocal xs name → NamesLocal (xs ++ ys) name
names_left ys n = record { named = n.named; is_listed = one_of_left ys n.is_listed; has_name = n.has_name }

names_right : {ys : List Local} {name : List ℕ} (xs : List Local) → NamesLocal ys name → NamesLocal (xs ++ ys) name
names_right xs n = record { named = n.named; is_listed = one_of_right xs n.is_listed; has_name = n.has_name }

names_two : {name : List ℕ} (xs ys : List Local) → NamesLocal (xs ++ ys) name → NamesLocal xs name ⊎ NamesLocal ys name
names_two {name} xs ys n = put (one_of_two xs ys n.is_listed) where
  put : IsOneOf n.named xs ⊎ IsOneOf n.named ys → NamesLocal xs name ⊎ NamesLocal ys name
  put (inl w) = inl (record { named = n.named; is_listed = w; has_name = n.has_name })
  put (inr w) = inr (record { named = n.named; is_listed = w; has_name = n.has_name })

-- one more on both sides
pub same_both : {xs ys : List Local} (more : List Local) → SameNames xs ys → SameNames (xs ++ more) (ys ++ more)
same_both {xs} {ys} more same = record { to = to; from = from } where
  to : (name : List ℕ) → NamesLocal (xs ++ more) name → NamesLocal (ys ++ more) name
  to name n = elim (names_two xs more n) [
    | inl u ↦ names_left more (same.to name u)
    | inr u ↦ names_right ys u
  ]

  from : (name : List ℕ) → NamesLocal (ys ++ more) name → NamesLocal (xs ++ more) name
  from name n = elim (names_two ys more n) [
    | inl u ↦ names_left more (same.from name u)
    | inr u ↦ names_right xs u
  ]

-- one more whose name is there
same_again : {xs ys : List Local} (l : Local) → NamesLocal xs l.name → SameNames xs ys → SameNames xs (ys ++ (l ∷ []))
same_again {xs} {ys} l there same = record { to = λ name n. names_left (l ∷ []) (same.to name n); from = from } where
  from : (name : List ℕ) → NamesLocal (ys ++ (l ∷ [])) name → NamesLocal xs name
  from name n = elim (names_two ys (l ∷ []) n) [
    | inl u ↦ same.from name u
    | inr u ↦ by u.is_listed u.has_name
  ] where
    by : {m : Local} → IsOneOf m (l ∷ []) → m.name ≡ name → NamesLocal xs name
    by (first_of_them e) has = subst (λ (other : List ℕ). NamesLocal xs other) (ap (λ (k : Local). k.name) e ∙ has) there
    by (later_of_them w) has = none_of w

-- what is left of a list is of the list
dropped : {x : Local} (n : ℕ) (xs : List Local) → IsOneOf x (drop n xs) → IsOneOf x xs
dropped zero xs w = w
dropped (suc n) [] w = none_of w
dropped (suc n) (y ∷ xs) w = later_of_them (dropped n xs w)

-- declarators add their names to those in scope
add_one : (start : ℕ) (l : Local) {xs ys : List Local} (b : Bool) → is_local_again start xs l.name ≡ b → SameNames xs ys → SameNames (with_local b l xs) (ys ++ (l ∷ []))
add_one start l false e same = same_both (l ∷ []) same
add_one start l {xs = xs} true e same = same_again l (whole (names_local (drop start xs) l.name e)) same where
  whole : NamesLocal (drop start xs) l.name → NamesLocal xs l.name
  whole n = record { named = n.named; is_listed = dropped start xs n.is_listed; has_name = n.has_name }

regroup : (l : Local) (rest ys : List Local) → (ys ++ (l ∷ [])) ++ rest ≡ ys ++ (l ∷ rest)
regroup l rest ys = append_assoc ys (l ∷ []) rest

pub same_behind : (start : ℕ) (ls : List Local) {xs ys : List Local} → SameNames xs ys → SameNames (scope_behind start ls xs) (ys ++ ls)
same_behind start [] {xs = xs} {ys = ys} same = subst (λ (zs : List Local). SameNames xs zs) (sym (append-nil ys)) same
same_behind start (l ∷ rest) {xs = xs} {ys = ys} same =
    subst (λ (zs : List Local). SameNames (scope_behind start (l ∷ rest) xs) zs) (regroup l rest ys) (same_behind start rest (add_one start l (is_local_again start xs l.name) refl same))

-- and to those of the innermost scope, which begins at a place of them
pub record ScopeIs (start : ℕ) (locals before : List Local) : Type 0 where
  pub begins : start ≤ length locals
  pub same : SameNames (drop start locals) before

scope_one : {start : ℕ} (l : Local) {locals before : List Local} (b : Bool) → is_local_again start locals l.name ≡ b → ScopeIs start locals before → ScopeIs start (with_local b l locals) (before ++ (l ∷ []))
scope_one {start} l {locals} {before} true e s = record { begins = s.begins; same = same_again l (names_local (drop start locals) l.name e) s.same }
scope_one {start} l {locals} {before} false e s = record {
  begins = (let le = s.begins in omega (arith, length-append locals (l ∷ [])));
  same = subst (λ (zs : List Local). SameNames zs (before ++ (l ∷ []))) (sym (drop-append-le start locals (l ∷ []) s.begins)) (same_both (l ∷ []) s.same);
}

pub scope_is_behind : {start : ℕ} (ls : List Local) {locals before : List Local} → ScopeIs start locals before → ScopeIs start (scope_behind start ls locals) (before ++ ls)
scope_is_behind {start} [] {locals = locals} {before = before} s = subst (λ (zs : List Local). ScopeIs start locals zs) (sym (append-nil before)) s
scope_is_behind {start} (l ∷ rest) {locals = locals} {before = before} s =
    subst (λ (zs : List Local). ScopeIs start (scope_behind start (l ∷ rest) locals) zs) (regroup l rest before) (scope_is_behind rest (scope_one l (is_local_again start locals l.name) refl s))

drop_all : (xs : List Local) → drop (length xs) xs ≡ []
drop_all [] = refl
drop_all (x ∷ xs) = drop_all xs

-- a scope of its own begins with nothing
pub new_scope : (locals : List Local) → ScopeIs (length locals) locals []
new_scope locals = record { begins = omega arith; same = subst (λ (zs : List Local). SameNames zs []) (sym (drop_all locals)) (same_refl []) }
