-- Ends of lists, the order of points, and how two points lie in the tree of tasks.
use Rattle.std.proofs.Common.{◌≡◌, ℕ, ◌<◌, ◌≤◌, ◌⊎◌, inl, inr, refl, subst, List, [], ◌∷◌, ◌++◌, length, reverse, arith, append_assoc}
use Rattle.std.proofs.lemmas.List.{reverse-append}
use Rattle.oss_model.specs.Order.{IsSuffix, whole, longer, IsBefore, shorter, less, same}

pub suffix_trans : {A : Type 0} {xs ys zs : List A} → IsSuffix xs ys → IsSuffix ys zs → IsSuffix xs zs
suffix_trans h whole = h
suffix_trans h (longer k) = longer (suffix_trans h k)

pub suffix_length : {A : Type 0} {xs ys : List A} → IsSuffix xs ys → length xs ≤ length ys
suffix_length whole = omega arith
suffix_length (longer k) = omega (arith, suffix_length k)

pub suffix_drop : {A : Type 0} {x : A} {xs ys : List A} → IsSuffix (x ∷ xs) ys → IsSuffix xs ys
suffix_drop whole = longer whole
suffix_drop (longer k) = longer (suffix_drop k)

pub suffix_full : {A : Type 0} {xs ys : List A} → IsSuffix xs ys → length ys ≤ length xs → xs ≡ ys
suffix_full whole h = refl
suffix_full (longer k) h = absurd (omega (arith, suffix_length k))

-- of two ends of one list the shorter is an end of the longer
pub suffix_linear : {A : Type 0} {xs ys zs : List A} → IsSuffix xs zs → IsSuffix ys zs → length xs ≤ length ys → IsSuffix xs ys
suffix_linear h whole l = h
suffix_linear whole (longer k) l = absurd (omega (arith, suffix_length k))
suffix_linear (longer h) (longer k) l = suffix_linear h k l

pub before_trans : {xs ys zs : List ℕ} → IsBefore xs ys → IsBefore ys zs → IsBefore xs zs
before_trans shorter (less k) = shorter
before_trans shorter (same k) = shorter
before_trans (less h) (less k) = less (omega arith)
before_trans (less h) (same k) = less h
before_trans (same h) (less k) = less k
before_trans (same h) (same k) = same (before_trans h k)

pub before_not : {xs ys : List ℕ} → IsBefore xs ys → xs ≡ ys → ⊥
before_not shorter e = cc
before_not (less {x = x} {y = y} h) e = let f : x ≡ y = cc in absurd (omega arith)
before_not (same {xs = xs} {ys = ys} h) e = before_not h (cc)

-- which of two lists comes first
pub data Compared (xs ys : List ℕ) : Type 0 where
  before : IsBefore xs ys → Compared xs ys
  equal : xs ≡ ys → Compared xs ys
  after : IsBefore ys xs → Compared xs ys

compared_same : {x : ℕ} {xs ys : List ℕ} → Compared xs ys → Compared (x ∷ xs) (x ∷ ys)
compared_same (before h) = before (same h)
compared_same (equal h) = equal (cc)
compared_same (after h) = after (same h)

compared_less : (x y : ℕ) (xs ys : List ℕ) → Compared xs ys → (x < y) ⊎ (x ≡ y) ⊎ (y < x) → Compared (x ∷ xs) (y ∷ ys)
compared_less x y xs ys c (inl h) = before (less h)
compared_less x y xs ys c (inr (inl h)) = subst (λ (z : ℕ). Compared (x ∷ xs) (z ∷ ys)) h (compared_same c)
compared_less x y xs ys c (inr (inr h)) = after (less h)

pub which : (x y : ℕ) → (x < y) ⊎ (x ≡ y) ⊎ (y < x)
which x y = grind arith

pub compare : (xs ys : List ℕ) → Compared xs ys
compare [] [] = equal refl
compare [] (y ∷ ys) = before shorter
compare (x ∷ xs) [] = after shorter
compare (x ∷ xs) (y ∷ ys) = compared_less x y xs ys (compare xs ys) (which x y)

-- the path of the points that follow, from main down, below a path
abbrev pub onto : List ℕ → List ℕ → List ℕ
onto [] a = a
onto (x ∷ xs) a = onto xs (x ∷ a)

pub onto_below : (xs a : List ℕ) → IsSuffix a (onto xs a)
onto_below [] a = whole
onto_below (x ∷ xs) a = suffix_trans (longer whole) (onto_below xs (x ∷ a))

-- how two places in the tree lie, where the first comes before the second
pub data Lie (p : List ℕ) (n : ℕ) (q : List ℕ) (m : ℕ) : Type 0 where
  one : p ≡ q → n < m → Lie p n q m
  down : (j : ℕ) → n ≤ j → IsSuffix (j ∷ p) q → Lie p n q m
  up : (i : ℕ) → i < m → IsSuffix (i ∷ q) p → Lie p n q m
  across : (a : List ℕ) (i j : ℕ) → i < j → IsSuffix (i ∷ a) p → IsSuffix (j ∷ a) q → Lie p n q m

single : (n m : ℕ) (xs ys : List ℕ) → IsBefore (n ∷ xs) (m ∷ ys) → n ≤ m
single n m xs ys (less h) = omega arith
single n m xs ys (same h) = omega arith

strict : (n m : ℕ) (xs : List ℕ) → IsBefore (n ∷ xs) (m ∷ []) → n < m
strict n m xs (less h) = h
strict n m xs (same h) = elim h [ ]

lie_onto : (ps qs a : List ℕ) (n m : ℕ) → IsBefore (ps ++ n ∷ []) (qs ++ m ∷ []) → Lie (onto ps a) n (onto qs a) m
lie_onto [] [] a n m h = one refl (strict n m [] h)
lie_onto [] (j ∷ qs) a n m h = down j (single n j [] (qs ++ m ∷ []) h) (onto_below qs (j ∷ a))
lie_onto (i ∷ ps) [] a n m h = up i (strict i m (ps ++ n ∷ []) h) (onto_below ps (i ∷ a))
lie_onto (i ∷ ps) (j ∷ qs) a n m (less h) = across a i j h (onto_below ps (i ∷ a)) (onto_below qs (j ∷ a))
lie_onto (i ∷ ps) (j ∷ qs) a n m (same h) = lie_onto ps qs (i ∷ a) n m h

onto-append : (xs ys a : List ℕ) → onto (xs ++ ys) a ≡ onto ys (onto xs a)
onto-append [] ys a = refl
onto-append (x ∷ xs) ys a = onto-append xs ys (x ∷ a)

pub reverse_cons : (n : ℕ) (p : List ℕ) → reverse (n ∷ p) ≡ reverse p ++ n ∷ []
reverse_cons n p = reverse-append (n ∷ []) p

onto-reverse : (p : List ℕ) → onto (reverse p) [] ≡ p
onto-reverse [] = refl
onto-reverse (n ∷ p) = rw (reverse_cons n p, onto-append (reverse p) (n ∷ []) [], onto-reverse p)

-- how two places lie whose keys are in order
pub lie : (p q : List ℕ) (n m : ℕ) → IsBefore (reverse (n ∷ p)) (reverse (m ∷ q)) → Lie p n q m
lie p q n m h =
    let k = rw (reverse_cons n p, reverse_cons m q) at h in
    rw (onto-reverse p, onto-reverse q) at (lie_onto (reverse p) (reverse q) [] n m k)

before_front : (xs ys zs : List ℕ) → IsBefore ys zs → IsBefore (xs ++ ys) (xs ++ zs)
before_front [] ys zs h = h
before_front (x ∷ xs) ys zs h = same (before_front xs ys zs h)

pub before_number : (n m : ℕ) (p : List ℕ) → n < m → IsBefore (reverse (n ∷ p)) (reverse (m ∷ p))
before_number n m p l = rw (reverse_cons n p, reverse_cons m p) (before_front (reverse p) (n ∷ []) (m ∷ []) (less l))

pub before_child : (n k : ℕ) (p : List ℕ) → IsBefore (reverse (k ∷ p)) (reverse (n ∷ k ∷ p))
before_child n k p = rw (reverse_cons n (k ∷ p)) (longer_one (reverse (k ∷ p)))
  where
    longer_one : (xs : List ℕ) → IsBefore xs (xs ++ n ∷ [])
    longer_one [] = shorter
    longer_one (x ∷ xs) = same (longer_one xs)

-- what stands below a child is before what its creator does later
pub before_up : (j m n : ℕ) (q : List ℕ) {p : List ℕ} → IsSuffix (j ∷ q) p → j < m → IsBefore (reverse (n ∷ p)) (reverse (m ∷ q))
before_up j m n q h l = below_number h
  where
    at_number : (xs : List ℕ) → IsBefore (reverse (j ∷ q) ++ xs) (reverse (m ∷ q))
    at_number xs = rw (reverse_cons j q, reverse_cons m q, append_assoc (reverse q) (j ∷ []) xs) (before_front (reverse q) (j ∷ xs) (m ∷ []) (less l))

    below : {p : List ℕ} → IsSuffix (j ∷ q) p → (xs : List ℕ) → IsBefore (reverse p ++ xs) (reverse (m ∷ q))
    below whole xs = at_number xs
    below (longer {y = k} {ys = ps} g) xs = rw (reverse_cons k ps, append_assoc (reverse ps) (k ∷ []) xs) (below g (k ∷ xs))

    below_number : {p : List ℕ} → IsSuffix (j ∷ q) p → IsBefore (reverse (n ∷ p)) (reverse (m ∷ q))
    below_number {p = p} g = rw (reverse_cons n p) (below g (n ∷ []))

below_after : (a : List ℕ) (i k : ℕ) {q p : List ℕ} (xs ys : List ℕ) → i < k → IsSuffix (i ∷ a) q → IsSuffix (k ∷ a) p → IsBefore (reverse q ++ xs) (reverse p ++ ys)
below_after a i k xs ys l whole whole = rw (reverse_cons i a, reverse_cons k a, append_assoc (reverse a) (i ∷ []) xs, append_assoc (reverse a) (k ∷ []) ys) (before_front (reverse a) (i ∷ xs) (k ∷ ys) (less l))
below_after a i k xs ys l (longer {y = y} {ys = q} h) g = rw (reverse_cons y q, append_assoc (reverse q) (y ∷ []) xs) (below_after a i k (y ∷ xs) ys l h g)
below_after a i k xs ys l whole (longer {y = y} {ys = p} g) = rw (reverse_cons y p, append_assoc (reverse p) (y ∷ []) ys) (below_after a i k xs (y ∷ ys) l whole g)

-- what stands below an earlier sibling is before what stands below a later one
pub before_across : (a : List ℕ) (i k n m : ℕ) {q p : List ℕ} → i < k → IsSuffix (i ∷ a) q → IsSuffix (k ∷ a) p → IsBefore (reverse (n ∷ q)) (reverse (m ∷ p))
before_across a i k n m {q = q} {p = p} l h g = rw (reverse_cons n q, reverse_cons m p) (below_after a i k (n ∷ []) (m ∷ []) l h g)
