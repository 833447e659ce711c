-- Points with numbers behind them.
use Rattle.std.proofs.Common.{◌≡◌, ℕ, ◌<◌, ◌+◌, refl, sym, ap, ◌∙◌, List, [], ◌∷◌, ◌++◌, length, arith, length-append}
use Rattle.oss_model.specs.Order.{IsBefore, shorter, less, same}

-- a list that has a number in front of its end, and one at its end: they are one, or the first list is longer
pub data EndsIn (q : List ℕ) (j : ℕ) (p : List ℕ) (k : ℕ) : Type 0 where
  here : q ≡ p → j ≡ k → EndsIn q j p k
  below : (more : List ℕ) → q ≡ p ++ k ∷ more → EndsIn q j p k

not_empty : (p : List ℕ) (k : ℕ) (r : List ℕ) → [] ≡ p ++ k ∷ r → ⊥
not_empty [] k r e = cc
not_empty (x ∷ p) k r e = cc

pub ends_in : (q : List ℕ) (j : ℕ) (p : List ℕ) (k : ℕ) (r : List ℕ) → q ++ j ∷ [] ≡ p ++ k ∷ r → EndsIn q j p k
ends_in [] j [] k r e = here refl (cc)
ends_in [] j (a ∷ p) k r e = absurd (not_empty p k r (cc))
ends_in (x ∷ q) j [] k r e = below q (let f : x ≡ k = cc in ap (λ (z : ℕ). z ∷ q) f)
ends_in (x ∷ q) j (a ∷ p) k r e = grow (ends_in q j p k r (cc)) (cc)
  where
    grow : EndsIn q j p k → x ≡ a → EndsIn (x ∷ q) j (a ∷ p) k
    grow (here f g) h = here (cc) g
    grow (below more f) h = below more (cc)

-- the last numbers of two equal points are one
pub same_ends : (q : List ℕ) (j : ℕ) (p : List ℕ) (k : ℕ) → q ++ j ∷ [] ≡ p ++ k ∷ [] → (q ≡ p) × (j ≡ k)
same_ends q j p k e = go (ends_in q j p k [] e)
  where
    go : EndsIn q j p k → (q ≡ p) × (j ≡ k)
    go (here f g) = (f, g)
    go (below more f) =
        let a : length q + 1 ≡ length p + 1 = sym (length-append q (j ∷ [])) ∙ ap length e ∙ length-append p (k ∷ []) in
        let b : length q ≡ length p + length (k ∷ more) = ap length f ∙ length-append p (k ∷ more) in
        absurd (omega (arith, a, b))

-- how a key before another lies to the point of that
pub data Lies (q : List ℕ) (m : ℕ) (p : List ℕ) (d : ℕ) : Type 0 where
  before : IsBefore (q ++ m ∷ []) p → Lies q m p d
  own : q ≡ p → m < d → Lies q m p d
  under : (k : ℕ) (r : List ℕ) → q ≡ p ++ k ∷ r → k < d → Lies q m p d
  above : q ++ m ∷ [] ≡ p → Lies q m p d

none_before : {xs : List ℕ} → IsBefore xs [] → ⊥
none_before h = elim h [ ]

at_front : (m d : ℕ) (p : List ℕ) → Lies [] m (m ∷ p) d
at_front m d [] = above refl
at_front m d (b ∷ p) = before (same shorter)

pub lies : (q : List ℕ) (m : ℕ) (p : List ℕ) (d : ℕ) → IsBefore (q ++ m ∷ []) (p ++ d ∷ []) → Lies q m p d
lies [] m [] d (less h) = own refl h
lies [] m [] d (same h) = absurd (none_before h)
lies (x ∷ q) m [] d (less h) = under x q refl h
lies (x ∷ q) m [] d (same h) = absurd (none_before h)
lies [] m (a ∷ p) d (less h) = before (less h)
lies [] m (a ∷ p) d (same h) = at_front m d p
lies (x ∷ q) m (a ∷ p) d (less h) = before (less h)
lies (x ∷ q) m (a ∷ p) d (same h) = grow (lies q m p d h)
  where
    grow : {z : ℕ} → Lies q m p d → Lies (z ∷ q) m (z ∷ p) d
    grow (before g) = before (same g)
    grow (own g l) = own (cc) l
    grow (under k r g l) = under k r (cc) l
    grow (above g) = above (cc)
