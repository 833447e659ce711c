-- Members that know the one before them: where a group begins, the members of it are told, and they stay where members come behind them.
use Rattle.std.proofs.Common.{◌≡◌, ℕ, zero, suc, ◌+◌, ◌≤◌, ◌<◌, ◌⊎◌, inl, inr, refl, sym, subst, ap, ◌∙◌, arith, List, [], ◌∷◌, ◌++◌, length, map, get_or, Option, None, Some}
use Rattle.std.specs.Prelude.{slice_get}
use Rattle.std.proofs.Math.ListN.{get_or-append}
use Rattle.std.proofs.Math.Seq.{get_or-append_seam}
use Rattle.std.proofs.lemmas.List.{length-append}
use Rattle.std.proofs.lemmas.Option.{get_or_from_slice_get, slice_get-get_or, slice_get_within}
use Rattle.oss_model.specs.Order.{IsIn, here, there}
use Rattle.oss_task_edges.specs.declared.members.Member.{Member}
use Rattle.oss_task_edges.specs.Members.{AreBehind, IsChain, height, member_at, none, some}

-- Lists

pub in_front : {A : Type 0} {x : A} {xs : List A} (ys : List A) → IsIn x xs → IsIn x (xs ++ ys)
in_front ys here = here
in_front ys (there i) = there (in_front ys i)

pub in_behind : {A : Type 0} {x : A} (xs : List A) {ys : List A} → IsIn x ys → IsIn x (xs ++ ys)
in_behind [] i = i
in_behind (y ∷ xs) i = there (in_behind xs i)

pub in_both : {A : Type 0} {x : A} (xs : List A) {ys : List A} → IsIn x (xs ++ ys) → IsIn x xs ⊎ IsIn x ys
in_both [] i = inr i
in_both (y ∷ xs) here = inl here
in_both (y ∷ xs) (there i) = elim (in_both xs i) [
  | inl j ↦ inl (there j)
  | inr j ↦ inr j
]

pub in_map : {A B : Type 0} (f : A → B) {x : A} {xs : List A} → IsIn x xs → IsIn (f x) (map f xs)
in_map f here = here
in_map f (there i) = there (in_map f i)

pub in_map_back : {A B : Type 0} (f : A → B) {y : B} (xs : List A) → IsIn y (map f xs) → (x : A) × (IsIn x xs × (y ≡ f x))
in_map_back f [] i = elim i [ ]
in_map_back f (x ∷ xs) here = (x, (here, refl))
in_map_back f (x ∷ xs) (there i) = let r = in_map_back f xs i in (r.0, (there r.1.0, r.1.1))

some_same : {A : Type 0} (a b : A) → Some a ≡ Some b → a ≡ b
some_same a b e = cc

pub still_there : {A : Type 0} (xs ys : List A) (k : ℕ) (x : A) → slice_get xs k ≡ Some x → slice_get (xs ++ ys) k ≡ Some x
still_there xs ys k x e =
    let l : k < length xs = slice_get_within xs k x e in
    let n : length (xs ++ ys) ≡ length xs + length ys = length-append xs ys in
    slice_get-get_or (xs ++ ys) k x (omega (arith, l, n)) ∙ ap Some (get_or-append xs ys x k l ∙ get_or_from_slice_get xs k x x e)

-- Groups

chain_of : (members : List Member) (m n : Member) (rest tail : List Member) → m ≡ n → rest ≡ tail → m ∷ rest ≡ n ∷ tail
chain_of members m n rest tail e f = ap (λ x. x ∷ rest) e ∙ ap (λ xs. n ∷ xs) f

pub one_chain : (members : List Member) (at : Option ℕ) (xs ys : List Member) → IsChain members at xs → IsChain members at ys → xs ≡ ys
one_chain members _ _ _ none none = refl
one_chain members _ _ _ (some {at = at} {m = m} {rest = rest} e g) (some {m = n} {rest = tail} f h) =
    let same : m ≡ n = some_same m n (sym e ∙ f) in
    let moved : IsChain members m.older tail = subst (λ x. IsChain members x.older tail) (sym same) h in
    chain_of members m n rest tail same (one_chain members m.older rest tail g moved)

pub chain_stays : (members more : List Member) (at : Option ℕ) (xs : List Member) → IsChain members at xs → IsChain (members ++ more) at xs
chain_stays members more _ _ none = none
chain_stays members more _ _ (some {at = at} {m = m} {rest = rest} e g) = some (still_there members more at m e) (chain_stays members more m.older rest g)

-- the newest member of a group stands among all members
pub chain_within : (members : List Member) (at : Option ℕ) (xs : List Member) → IsChain members at xs → height at ≤ length members
chain_within members _ _ none = omega arith
chain_within members _ _ (some {at = at} {m = m} e g) = let l : at < length members = slice_get_within members at m e in omega (arith, l)

-- each knows members before it
pub older_is : (from : ℕ) (members : List Member) (k : ℕ) (m : Member) → AreBehind from members → slice_get members k ≡ Some m → height m.older ≤ from + k
older_is from members k m h e =
    let l : k < length members = slice_get_within members k m e in
    subst (λ x. height x.older ≤ from + k) (get_or_from_slice_get members k m m e) (go from members k m h l)
  where
    go : (from : ℕ) (members : List Member) (k : ℕ) (d : Member) → AreBehind from members → k < length members → height ((get_or members k d).older) ≤ from + k
    go from [] k d h l = absurd (omega (arith, l))
    go from (x ∷ rest) zero d h l = let b = h.0 in omega (arith, b)
    go from (x ∷ rest) (suc k) d h l = let r = go (suc from) rest k d h.1 (omega (arith, l)) in omega (arith, r)

pub behind_more : (from : ℕ) (members : List Member) (m : Member) → AreBehind from members → height m.older ≤ from + length members → AreBehind from (members ++ m ∷ [])
behind_more from [] m h l = (omega (arith, l), tt)
behind_more from (x ∷ rest) m h l = (h.0, behind_more (suc from) rest m h.1 (omega (arith, l)))

-- what was pushed stands at the end
pub last_there : (members : List Member) (at : ℕ) (m : Member) → at ≡ length members → slice_get (members ++ m ∷ []) at ≡ Some m
last_there members at m e =
    let n : length (members ++ m ∷ []) ≡ length members + 1 = length-append members (m ∷ []) in
    slice_get-get_or (members ++ m ∷ []) at m (omega (arith, e, n)) ∙ ap Some (ap (λ (k : ℕ). get_or (members ++ m ∷ []) k m) e ∙ get_or-append_seam members m [] m)

-- the newest member of a group, and the others
pub chain_step : (members : List Member) (place : Option ℕ) (m : Member) (rest : List Member) → IsChain members place rest → member_at members place ≡ Some m
    → (tail : List Member) × (IsChain members m.older tail × (rest ≡ m ∷ tail))
chain_step members _ m _ none e = absurd cc
chain_step members _ m _ (some {at = at} {m = n} {rest = tail} f g) e =
    let same : n ≡ m = some_same n m (sym f ∙ e) in
    (tail, (subst (λ x. IsChain members x.older tail) same g, ap (λ x. x ∷ tail) same))

pub chain_end : (members : List Member) (place : Option ℕ) (rest : List Member) → IsChain members place rest → member_at members place ≡ None → rest ≡ []
chain_end members _ _ none e = refl
chain_end members _ _ (some {m = n} f g) e = let k : Some n ≡ None = sym f ∙ e in absurd cc

-- who knows of it stands higher
pub older_less : (members : List Member) (place : Option ℕ) (m : Member) → AreBehind 0 members → member_at members place ≡ Some m → height m.older < height place
older_less members None m h e = absurd cc
older_less members (Some at) m h e = let b = older_is 0 members at m h e in omega (arith, b)
