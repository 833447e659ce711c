-- Lists that rise by some order: those with the same members are one.
use Rattle.std.proofs.Common.{◌≡◌, ◌∙◌, ◌⊎◌, inl, inr, refl, sym, subst, List, [], ◌∷◌}
use Rattle.oss_model.specs.Order.{IsIn, here, there}

module _ {X : Type 0} (Before : X → X → Type 0) where
  -- each comes before the next
  abbrev pub IsRising : List X → Type 0
  IsRising [] = Unit {0}
  IsRising (x ∷ []) = Unit {0}
  IsRising (x ∷ y ∷ more) = Before x y × IsRising (y ∷ more)

  module _ (on : (x y z : X) → Before x y → Before y z → Before x z) (apart : (x : X) → Before x x → ⊥) where
    -- so each comes before all behind it
    before : (x : X) (xs : List X) → IsRising (x ∷ xs) → (y : X) → IsIn y xs → Before x y
    before x [] r y i = elim i [ ]
    before x (z ∷ zs) r _ here = r.0
    before x (z ∷ zs) r y (there i) = on x z y r.0 (before z zs r.1 y i)

    rest : (x : X) (xs : List X) → IsRising (x ∷ xs) → IsRising xs
    rest x [] r = tt
    rest x (y ∷ ys) r = r.1

    parts : (x y : X) (ys : List X) → IsIn x (y ∷ ys) → (x ≡ y) ⊎ IsIn x ys
    parts x _ ys here = inl refl
    parts x y ys (there i) = inr i

    none : (x : X) → IsIn x [] → ⊥
    none x i = elim i [ ]

    -- what stands behind one head stands behind the other
    behind : (x y : X) (xs ys : List X) → IsRising (x ∷ xs) → x ≡ y → ((z : X) → IsIn z (x ∷ xs) → IsIn z (y ∷ ys)) → (z : X) → IsIn z xs → IsIn z ys
    behind x y xs ys r same forth z i = by (parts z y ys (forth z (there i)))
      where
        by : (z ≡ y) ⊎ IsIn z ys → IsIn z ys
        by (inl e) = absurd (apart z (subst (λ (w : X). Before w z) (same ∙ sym e) (before x xs r z i)))
        by (inr k) = k

    pub one_list : (xs ys : List X) → IsRising xs → IsRising ys → ((z : X) → IsIn z xs → IsIn z ys) → ((z : X) → IsIn z ys → IsIn z xs) → xs ≡ ys
    one_list [] [] r t forth back = refl
    one_list [] (y ∷ ys) r t forth back = absurd (none y (back y here))
    one_list (x ∷ xs) [] r t forth back = absurd (none x (forth x here))
    one_list (x ∷ xs) (y ∷ ys) r t forth back = heads (parts x y ys (forth x here)) (parts y x xs (back y here)) (one_list xs ys (rest x xs r) (rest y ys t))
      where
        heads : (x ≡ y) ⊎ IsIn x ys → (y ≡ x) ⊎ IsIn y xs → (((z : X) → IsIn z xs → IsIn z ys) → ((z : X) → IsIn z ys → IsIn z xs) → xs ≡ ys) → x ∷ xs ≡ y ∷ ys
        heads (inl e) other tails = let more : xs ≡ ys = tails (behind x y xs ys r e forth) (behind y x ys xs t (sym e) back) in λ i. e i ∷ more i
        heads (inr i) (inl e) tails = let more : xs ≡ ys = tails (behind x y xs ys r (sym e) forth) (behind y x ys xs t e back) in λ n. sym e n ∷ more n
        heads (inr i) (inr k) tails = absurd (apart x (on x y x (before x xs r y k) (before y ys t x i)))
