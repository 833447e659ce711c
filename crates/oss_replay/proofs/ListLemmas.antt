-- Lists that have the same elements, none twice, are of one length.
use Rattle.std.proofs.Common.{◌≡◌, suc, ◌≤◌, ◌⊎◌, inl, inr, refl, sym, subst, ap, arith, List, [], ◌∷◌, length}
use Rattle.oss_model.specs.Order.{IsIn, here, there}
use Rattle.oss_wave_laws.proofs.SumLemmas.{in_cases}
use Rattle.oss_core.specs.Stops.{AreApart}

-- a list without one of its elements
record Without {A : Type 0} (x : A) (xs : List A) : Type 0 where
  pub rest : List A
  pub size : length xs ≡ suc (length rest)
  pub keeps : (z : A) → IsIn z xs → (z ≡ x) ⊎ IsIn z rest

-- the same with one more element in front
behind : {A : Type 0} (x y : A) (ys : List A) → Without x ys → Without x (y ∷ ys)
behind {A = A} x y ys w = record { rest = y ∷ w.rest; size = ap suc w.size; keeps = λ z k. keep z (in_cases k) }
  where
    later : (z : A) → (z ≡ x) ⊎ IsIn z w.rest → (z ≡ x) ⊎ IsIn z (y ∷ w.rest)
    later z (inl e) = inl e
    later z (inr k) = inr (there k)

    keep : (z : A) → (z ≡ y) ⊎ IsIn z ys → (z ≡ x) ⊎ IsIn z (y ∷ w.rest)
    keep z (inl e) = inr (subst (λ (u : A). IsIn u (y ∷ w.rest)) (sym e) here)
    keep z (inr k) = later z (w.keeps z k)

without : {A : Type 0} (x : A) (xs : List A) → IsIn x xs → Without x xs
without x [] h = elim h [ ]
without x (_ ∷ xs) here = record { rest = xs; size = refl; keeps = λ z h. in_cases h }
without x (y ∷ ys) (there h) = behind x y ys (without x ys h)

-- an element of a list is in what is left without one that is not in the list
kept : {A : Type 0} (x : A) (xs rest : List A) → (IsIn x xs → ⊥) → (z : A) → IsIn z xs → (z ≡ x) ⊎ IsIn z rest → IsIn z rest
kept {A = A} x xs rest not_in z h (inl e) = absurd (not_in (subst (λ (u : A). IsIn u xs) e h))
kept x xs rest not_in z h (inr k) = k

-- a list that has each element once fits into each list that has them
fits : {A : Type 0} (xs ys : List A) → AreApart xs → ((z : A) → IsIn z xs → IsIn z ys) → length xs ≤ length ys
fits [] ys apart all = omega arith
fits (x ∷ xs) ys apart all =
    let w = without x ys (all x here) in
    let l : length xs ≤ length w.rest = fits xs w.rest apart.1 (λ z h. kept x xs w.rest apart.0 z h (w.keeps z (all z (there h)))) in
    let e : length ys ≡ suc (length w.rest) = w.size in
    omega (arith, l, e)

pub one_length : {A : Type 0} (xs ys : List A) → AreApart xs → AreApart ys → ((z : A) → IsIn z xs → IsIn z ys) → ((z : A) → IsIn z ys → IsIn z xs) → length xs ≡ length ys
one_length xs ys a b forth back =
    let l : length xs ≤ length ys = fits xs ys a forth in
    let r : length ys ≤ length xs = fits ys xs b back in
    omega (arith, l, r)
