-- The list of opens: its entries, their order and their places.
use Rattle.std.proofs.Common.{◌≡◌, ℕ, ◌<◌, ◌≤◌, zero, suc, refl, sym, ap, subst, ◌∙◌, List, [], ◌∷◌, ◌++◌, ◌⊎◌, inl, inr, true, false, Some, arith, eq-eqb, eqb-true}
use Rattle.std.proofs.lemmas.Bool.Decides.{nat_tests}
use Rattle.std.specs.Prelude.{◌==◌, nat_le, nat_lt, slice_get}
use Rattle.oss_syntax.specs.declared.access.Access.{Access}
use Rattle.oss_model.specs.Order.{IsIn, here, there}
use Rattle.oss_model.specs.Rights.{in_access}
use Rattle.oss_deps.specs.declared.opened.Open.{Open}
use Rattle.oss_deps.specs.Opens.{access_at, is_some_access, names, mode_at, mode_in, Precedes, first, later, AreOrdered, none, one}
use Rattle.oss_deps.proofs.Basics.{bools, both, some_is, compared}

pub precedes_in : {A : Type 0} {x y : A} {xs : List A} → Precedes x y xs → IsIn x xs
precedes_in (first i) = here
precedes_in (later h) = there (precedes_in h)

pub precedes_in_last : {A : Type 0} {x y : A} {xs : List A} → Precedes x y xs → IsIn y xs
precedes_in_last (first i) = there i
precedes_in_last (later h) = there (precedes_in_last h)

-- each number is opened once
pub one_entry : {opens : List Open} → AreOrdered opens → (o q : Open) → IsIn o opens → IsIn q opens → o.task ≡ q.task → o ≡ q
one_entry none o q i j e = elim i [ ]
one_entry (one z d par ord) o q here here e = refl
one_entry (one z d par ord) o q here (there j) e = absurd (d q j (sym e))
one_entry (one z d par ord) o q (there i) here e = absurd (d o i e)
one_entry (one z d par ord) o q (there i) (there j) e = one_entry ord o q i j e

-- two entries in order have different numbers
pub apart : {opens : List Open} → AreOrdered opens → (o q : Open) → Precedes o q opens → o.task ≡ q.task → ⊥
apart none o q h e = elim h [ ]
apart (one z d par ord) o q (first i) e = d q i (sym e)
apart (one z d par ord) o q (later h) e = apart ord o q h e

pub asym : {opens : List Open} {x y : Open} → AreOrdered opens → Precedes x y opens → Precedes y x opens → ⊥
asym (one z d par ord) (first i) (first j) = d _ i refl
asym (one z d par ord) (first i) (later k) = d _ (precedes_in_last k) refl
asym (one z d par ord) (later k) (first j) = d _ (precedes_in_last k) refl
asym (one z d par ord) (later k) (later l) = asym ord k l
asym none h k = elim h [ ]

pub not_main : {opens : List Open} → AreOrdered opens → (o : Open) → IsIn o opens → o.task ≡ 0 → ⊥
not_main none o i e = elim i [ ]
not_main (one z d par ord) o here e = z e
not_main (one z d par ord) o (there i) e = not_main ord o i e

-- places in a list
pub get_in : {A : Type 0} (xs : List A) (i : ℕ) (x : A) → slice_get xs i ≡ Some x → IsIn x xs
get_in [] i x e = absurd cc
get_in (y ∷ xs) zero x e = subst (λ z. IsIn z (y ∷ xs)) (some_is e) here
get_in (y ∷ xs) (suc i) x e = there (get_in xs i x e)

pub in_get : {A : Type 0} {x : A} (xs : List A) → IsIn x xs → (i : ℕ) × (slice_get xs i ≡ Some x)
in_get [] i = elim i [ ]
in_get (y ∷ xs) here = (0, refl)
in_get (y ∷ xs) (there i) = let r = in_get xs i in (suc r.0, r.1)

pub in_order : {A : Type 0} (xs : List A) (i j : ℕ) (x y : A) → slice_get xs i ≡ Some x → slice_get xs j ≡ Some y → i < j → Precedes x y xs
in_order [] i j x y e f h = absurd cc
in_order (z ∷ xs) i zero x y e f h = absurd (omega (arith, h))
in_order (z ∷ xs) zero (suc j) x y e f h = subst (λ w. Precedes w y (z ∷ xs)) (some_is e) (first (get_in xs j y f))
in_order (z ∷ xs) (suc i) (suc j) x y e f h = later (in_order xs i j x y e f (omega (arith, h)))

pub one_place : {opens : List Open} → AreOrdered opens → (i j : ℕ) (o q : Open) → slice_get opens i ≡ Some o → slice_get opens j ≡ Some q → o.task ≡ q.task → i ≡ j
one_place {opens = opens} ord i j o q e f t = go (compared i j)
  where
    go : (i < j) ⊎ ((i ≡ j) ⊎ (j < i)) → i ≡ j
    go (inl h) = absurd (apart ord o q (in_order opens i j o q e f h) t)
    go (inr (inl h)) = h
    go (inr (inr h)) = absurd (apart ord q o (in_order opens j i q o f e h) (sym t))

-- the mode of a task is that of its entry
mode_past : (c : ℕ) (y o : Open) (rest : List Open) → (y.task ≡ o.task → ⊥) → mode_in rest c o.task ≡ mode_at c o → mode_in (y ∷ rest) c o.task ≡ mode_at c o
mode_past c y o rest n h = go (bools (y.task == o.task))
  where
    go : ((y.task == o.task) ≡ true) ⊎ ((y.task == o.task) ≡ false) → mode_in (y ∷ rest) c o.task ≡ mode_at c o
    go (inl t) = absurd (n (eqb-true y.task o.task t))
    go (inr t) = rw t h

pub mode_is : (c : ℕ) {opens : List Open} → AreOrdered opens → (o : Open) → IsIn o opens → mode_in opens c o.task ≡ mode_at c o
mode_is c none o i = elim i [ ]
mode_is c (one z d par ord) o here = rw (eq-eqb o.task o.task refl) refl
mode_is c (one {o = y} {rest = rest} z d par ord) o (there i) = mode_past c y o rest (λ e. d o i (sym e)) (mode_is c ord o i)

-- lists that grow
pub in_front : {A : Type 0} {x : A} (xs ys : List A) → IsIn x xs → IsIn x (xs ++ ys)
in_front [] ys i = elim i [ ]
in_front (x ∷ xs) ys here = here
in_front (z ∷ xs) ys (there i) = there (in_front xs ys i)

pub in_last : {A : Type 0} (xs : List A) (x : A) → IsIn x (xs ++ x ∷ [])
in_last [] x = here
in_last (z ∷ xs) x = there (in_last xs x)

only_one : {A : Type 0} {x y : A} → IsIn x (y ∷ []) → x ≡ y
only_one here = refl
only_one (there i) = elim i [ ]

first_of : {A : Type 0} {x z : A} {xs : List A} → IsIn x (z ∷ xs) → (x ≡ z) ⊎ IsIn x xs
first_of here = inl refl
first_of (there i) = inr i

pub in_added : {A : Type 0} {x : A} (xs : List A) (y : A) → IsIn x (xs ++ y ∷ []) → IsIn x xs ⊎ (x ≡ y)
in_added [] y i = inr (only_one i)
in_added {A = A} {x = x} (z ∷ xs) y here = inl here
in_added {A = A} {x = x} (z ∷ xs) y (there i) = go (in_added xs y i)
  where
    go : {w : A} → IsIn x xs ⊎ (x ≡ y) → IsIn x (w ∷ xs) ⊎ (x ≡ y)
    go (inl j) = inl (there j)
    go (inr e) = inr e

-- an access that names the cell, found
pub named_at : (o : Open) (c : ℕ) (a : Access) → access_at o.accesses c ≡ Some a → names c o ≡ true
named_at o c a e = ap is_some_access e

found_first : (a b : Access) (rest : List Access) (c : ℕ) → in_access a c ≡ true → access_at (a ∷ rest) c ≡ Some b → a ≡ b
found_first a b rest c t e = some_is (sym found ∙ e)
  where
    found : access_at (a ∷ rest) c ≡ Some a
    found = rw t refl

pub access_found : (accesses : List Access) (c : ℕ) (b : Access) → access_at accesses c ≡ Some b → IsIn b accesses × (in_access b c ≡ true)
access_found [] c b e = absurd cc
access_found (a ∷ rest) c b e = go (bools (in_access a c)) (access_found rest c b)
  where
    go : (in_access a c ≡ true) ⊎ (in_access a c ≡ false) → (access_at rest c ≡ Some b → IsIn b rest × (in_access b c ≡ true)) → IsIn b (a ∷ rest) × (in_access b c ≡ true)
    go (inl t) again =
        let same = found_first a b rest c t e in
        (subst (λ (x : Access). IsIn x (a ∷ rest)) same here, subst (λ (x : Access). in_access x c ≡ true) same t)
    go (inr t) again = let r = again (rest_found t) in (there r.0, r.1)
      where
        rest_found : in_access a c ≡ false → access_at rest c ≡ Some b
        rest_found f = let g : access_at (a ∷ rest) c ≡ access_at rest c = rw f refl in sym g ∙ e

pub in_bounds : (a : Access) (c : ℕ) → in_access a c ≡ true → (a.range.lo ≤ c) × (c < a.range.hi)
in_bounds a c h = let k = both (nat_le a.range.lo c) (nat_lt c a.range.hi) h in (grind (arith, nat_tests, k.0), grind (arith, nat_tests, k.1))

pub bounds_in : (a : Access) (c : ℕ) → a.range.lo ≤ c → c < a.range.hi → in_access a c ≡ true
bounds_in a c l h = grind (arith, nat_tests)
