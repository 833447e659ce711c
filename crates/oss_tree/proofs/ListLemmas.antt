-- The places of a list that is written to and grows.
use Rattle.std.proofs.Common.{◌≡◌, ℕ, zero, suc, ◌<◌, ◌+◌, ◌⊎◌, inl, inr, refl, sym, ap, ◌∙◌, List, [], ◌∷◌, ◌++◌, Option, Some, None, length, take, arith, length-append}
use Rattle.std.specs.Prelude.{slice_get, slice_set}
use Rattle.std.proofs.lemmas.Option.{same_Some}

pub some_is : {A : Type 0} {o : Option A} {a b : A} → o ≡ Some a → o ≡ Some b → a ≡ b
some_is {a = a} {b = b} e f = same_Some a b (sym e ∙ f)

pub none_some : {A : Type 0} {o : Option A} {a : A} → o ≡ None → o ≡ Some a → ⊥
none_some e f = cc

pub which : (i j : ℕ) → (i ≡ j) ⊎ (i ≡ j → ⊥)
which i j = go (cases i j)
  where
    cases : (i j : ℕ) → (i ≡ j) ⊎ (i < j) ⊎ (j < i)
    cases i j = grind arith

    go : (i ≡ j) ⊎ (i < j) ⊎ (j < i) → (i ≡ j) ⊎ (i ≡ j → ⊥)
    go (inl e) = inl e
    go (inr (inl l)) = inr (λ e. omega arith)
    go (inr (inr l)) = inr (λ e. omega arith)

-- a write at a place

pub get_set_same : {A : Type 0} (xs : List A) (i : ℕ) (x y : A) → slice_get xs i ≡ Some x → slice_get (slice_set xs i y) i ≡ Some y
get_set_same [] i x y e = cc
get_set_same (z ∷ xs) zero x y e = refl
get_set_same (z ∷ xs) (suc i) x y e = get_set_same xs i x y e

pub get_set_other : {A : Type 0} (xs : List A) (i j : ℕ) (y : A) → (j ≡ i → ⊥) → slice_get (slice_set xs i y) j ≡ slice_get xs j
get_set_other [] i j y n = refl
get_set_other (z ∷ xs) zero zero y n = absurd (n refl)
get_set_other (z ∷ xs) zero (suc j) y n = refl
get_set_other (z ∷ xs) (suc i) zero y n = refl
get_set_other (z ∷ xs) (suc i) (suc j) y n = get_set_other xs i j y (λ e. n (ap suc e))

-- one more at the end

pub longer_by : {A : Type 0} (xs : List A) (x : A) → length (xs ++ x ∷ []) ≡ length xs + 1
longer_by xs x = length-append xs (x ∷ [])

pub get_front : {A : Type 0} (xs : List A) (y : A) (i : ℕ) (x : A) → slice_get xs i ≡ Some x → slice_get (xs ++ y ∷ []) i ≡ Some x
get_front [] y i x e = cc
get_front (z ∷ xs) y zero x e = e
get_front (z ∷ xs) y (suc i) x e = get_front xs y i x e

pub get_last : {A : Type 0} (xs : List A) (x : A) → slice_get (xs ++ x ∷ []) (length xs) ≡ Some x
get_last [] x = refl
get_last (y ∷ xs) x = get_last xs x

-- what stands in it was there, or is the last
pub get_added : {A : Type 0} (xs : List A) (y : A) (i : ℕ) (x : A) → slice_get (xs ++ y ∷ []) i ≡ Some x → (slice_get xs i ≡ Some x) ⊎ ((i ≡ length xs) × (x ≡ y))
get_added [] y zero x e = inr (refl, sym (same_Some y x e))
get_added [] y (suc i) x e = cc
get_added (z ∷ xs) y zero x e = inl e
get_added (z ∷ xs) y (suc i) x e = go (get_added xs y i x e)
  where
    go : (slice_get xs i ≡ Some x) ⊎ ((i ≡ length xs) × (x ≡ y)) → (slice_get xs i ≡ Some x) ⊎ ((suc i ≡ length (z ∷ xs)) × (x ≡ y))
    go (inl f) = inl f
    go (inr (f, g)) = inr (ap suc f, g)

pub there_is : {A : Type 0} (xs : List A) (i : ℕ) → i < length xs → (x : A) × (slice_get xs i ≡ Some x)
there_is [] i l = absurd (omega arith)
there_is (x ∷ xs) zero l = (x, refl)
there_is (x ∷ xs) (suc i) l = there_is xs i (omega arith)

-- the list of a vector after its slice was written
pub front_is : {A : Type 0} (xs zs : List A) (n : ℕ) → length xs ≡ n → take n (xs ++ zs) ≡ xs
front_is [] zs zero e = refl
front_is [] zs (suc n) e = absurd (omega (arith, e))
front_is (x ∷ xs) zs zero e = absurd (omega (arith, e))
front_is (x ∷ xs) zs (suc n) e = let f : length xs ≡ n = omega (arith, e) in ap (λ (ys : List _). x ∷ ys) (front_is xs zs n f)
