-- Paths and points: what lies below what, and what comes first.
use Rattle.std.proofs.Common.{◌≡◌, ℕ, ◌<◌, ◌⊎◌, inl, inr, refl, sym, subst, ap, ◌∙◌, List, [], ◌∷◌, ◌++◌, reverse, arith, append_assoc}
use Rattle.std.proofs.lemmas.List.{append-nil, reverse-reverse}
use Rattle.oss_model.specs.Order.{IsSuffix, whole, longer, IsBefore, shorter, less, same, written}
use Rattle.oss_model.proofs.OrderLemmas.{before_trans, reverse_cons, suffix_full, suffix_length, suffix_linear}

pub suffix_split : {q r : List ℕ} → IsSuffix q r → (q ≡ r) ⊎ ((j : ℕ) × IsSuffix (j ∷ q) r)
suffix_split whole = inl refl
suffix_split {q = q} (longer {y = y} {ys = ys} h) = go (suffix_split h)
  where
    go : (q ≡ ys) ⊎ ((j : ℕ) × IsSuffix (j ∷ q) ys) → (q ≡ y ∷ ys) ⊎ ((j : ℕ) × IsSuffix (j ∷ q) (y ∷ ys))
    go (inl e) = inr (y, subst (λ (x : List ℕ). IsSuffix (y ∷ q) (y ∷ x)) e whole)
    go (inr (j, k)) = inr (j, longer k)

pub not_below : {x : ℕ} {xs : List ℕ} → IsSuffix (x ∷ xs) xs → ⊥
not_below h = let l = suffix_length h in omega (arith, l)

first_same : (j k : ℕ) (p q : List ℕ) → j ∷ p ≡ k ∷ q → j ≡ k
first_same j k p q e = cc

pub rest_same : (j k : ℕ) (p q : List ℕ) → j ∷ p ≡ k ∷ q → p ≡ q
rest_same j k p q e = cc

-- there is one way from a path to one below it
pub one_way : (j k : ℕ) {q p : List ℕ} → IsSuffix (j ∷ q) p → IsSuffix (k ∷ q) p → j ≡ k
one_way j k {q = q} h i = first_same j k q q (suffix_full (suffix_linear h i (omega arith)) (omega arith))

before_front : (xs ys zs : List ℕ) → IsBefore ys zs → IsBefore (xs ++ ys) (xs ++ zs)
before_front [] ys zs h = h
before_front (x ∷ xs) ys zs h = same (before_front xs ys zs h)

lanes_after : (a : List ℕ) (i k : ℕ) {q p : List ℕ} (xs ys : List ℕ) → i < k → IsSuffix (i ∷ a) q → IsSuffix (k ∷ a) p → IsBefore (reverse q ++ xs) (reverse p ++ ys)
lanes_after a i k xs ys l whole whole = rw (reverse_cons i a, reverse_cons k a, append_assoc (reverse a) (i ∷ []) xs, append_assoc (reverse a) (k ∷ []) ys) (before_front (reverse a) (i ∷ xs) (k ∷ ys) (less l))
lanes_after a i k xs ys l (longer {y = y} {ys = q} h) g = rw (reverse_cons y q, append_assoc (reverse q) (y ∷ []) xs) (lanes_after a i k (y ∷ xs) ys l h g)
lanes_after a i k xs ys l whole (longer {y = y} {ys = p} g) = rw (reverse_cons y p, append_assoc (reverse p) (y ∷ []) ys) (lanes_after a i k xs (y ∷ ys) l whole g)

-- what lies below an earlier child comes before what lies below a later one
pub before_sibling : (a : List ℕ) (i k : ℕ) {q p : List ℕ} → i < k → IsSuffix (i ∷ a) q → IsSuffix (k ∷ a) p → IsBefore (written q) (written p)
before_sibling a i k {q = q} {p = p} l h g =
    let b : IsBefore (reverse q ++ []) (reverse p ++ []) = lanes_after a i k [] [] l h g in
    let c : IsBefore (reverse q) (reverse p ++ []) = subst (λ (x : List ℕ). IsBefore x (reverse p ++ [])) (append-nil (reverse q)) b in
    same (subst (λ (x : List ℕ). IsBefore (reverse q) x) (append-nil (reverse p)) c)

longer_one : (xs : List ℕ) (n : ℕ) → IsBefore xs (xs ++ n ∷ [])
longer_one [] n = shorter
longer_one (x ∷ xs) n = same (longer_one xs n)

-- a point comes before those below it
pub before_below : (j : ℕ) (t : List ℕ) {r : List ℕ} → IsSuffix (j ∷ t) r → IsBefore (written t) (written r)
before_below j t h = same (go h)
  where
    go : {r : List ℕ} → IsSuffix (j ∷ t) r → IsBefore (reverse t) (reverse r)
    go whole = subst (λ (x : List ℕ). IsBefore (reverse t) x) (sym (reverse_cons j t)) (longer_one (reverse t) j)
    go (longer {y = y} {ys = ys} k) = subst (λ (x : List ℕ). IsBefore (reverse t) x) (sym (reverse_cons y ys)) (before_trans (go k) (longer_one (reverse ys) y))

-- The path of a point

pub path_same : (p q : List ℕ) → written p ≡ written q → p ≡ q
path_same p q e = sym (reverse-reverse p) ∙ ap (λ (x : List ℕ). reverse x) (rest_same 0 0 (reverse p) (reverse q) e) ∙ reverse-reverse q

-- The point of a child

pub child_point : (p : List ℕ) (k : ℕ) → written p ++ k ∷ [] ≡ written (k ∷ p)
child_point p k = ap (λ (x : List ℕ). 0 ∷ x) (sym (reverse_cons k p))
