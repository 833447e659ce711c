-- The numbers of the first tasks: each below their count stands among them once.
use Rattle.std.proofs.Common.{◌≡◌, ℕ, zero, suc, ◌+◌, ◌<◌, ◌⊎◌, inl, inr, sym, subst, ap, arith, List, [], ◌∷◌, ◌++◌}
use Rattle.oss_model.specs.Order.{IsIn, here, there}
use Rattle.oss_model.specs.declared.task_no.TaskNo.{TaskNo}
use Rattle.oss_tree.specs.Tasks.{number}
use Rattle.oss_core.specs.Ordering.{AreOnce}
use Rattle.oss_core.proofs.KeepLemmas.{which}
use Rattle.oss_core.proofs.SteppersLemmas.{in_cases, in_either, in_front, in_rest}
use Rattle.oss_held.specs.Points.{numbers_to}

pub numbers_next : (n : ℕ) → numbers_to (n + 1) ≡ numbers_to n ++ number n ∷ []
numbers_next n = let e : n + 1 ≡ suc n = omega arith in ap numbers_to e

pub numbers_below : (n : ℕ) (v : TaskNo) → IsIn v (numbers_to n) → v.0 < n
numbers_below zero v i = elim i [ ]
numbers_below (suc n) v i = go (in_either (numbers_to n) (number n ∷ []) i) (λ j. numbers_below n v j)
  where
    last : (v ≡ number n) ⊎ IsIn v [] → v.0 < suc n
    last (inl e) = let f : v.0 ≡ n = ap (λ (w : TaskNo). w.0) e in omega (arith, f)
    last (inr j) = elim j [ ]

    go : IsIn v (numbers_to n) ⊎ IsIn v (number n ∷ []) → (IsIn v (numbers_to n) → v.0 < n) → v.0 < suc n
    go (inl j) h = let l = h j in omega (arith, l)
    go (inr j) h = last (in_cases j)

pub numbers_all : (n v : ℕ) → v < n → IsIn (number v) (numbers_to n)
numbers_all zero v l = absurd (omega (arith, l))
numbers_all (suc n) v l = go (which v n) (λ d. numbers_all n v (grind (arith, l, d)))
  where
    go : (v ≡ n) ⊎ (v ≡ n → ⊥) → ((v ≡ n → ⊥) → IsIn (number v) (numbers_to n)) → IsIn (number v) (numbers_to (suc n))
    go (inl e) h = in_rest (numbers_to n) (number n ∷ []) (subst (λ (w : ℕ). IsIn (number v) (number w ∷ [])) e here)
    go (inr d) h = in_front (numbers_to n) (number n ∷ []) (h d)

-- one more that does not stand in the list yet
once_more : (xs : List TaskNo) (y : TaskNo) → AreOnce xs → (IsIn y xs → ⊥) → AreOnce (xs ++ y ∷ [])
once_more [] y once new = ((λ i. elim i [ ]), tt)
once_more (x ∷ xs) y once new = ((λ i. first (in_either xs (y ∷ []) i)), once_more xs y once.1 (λ i. new (there i)))
  where
    last : (x ≡ y) ⊎ IsIn x [] → ⊥
    last (inl e) = new (subst (λ (z : TaskNo). IsIn y (z ∷ xs)) (sym e) here)
    last (inr i) = elim i [ ]

    first : IsIn x xs ⊎ IsIn x (y ∷ []) → ⊥
    first (inl i) = once.0 i
    first (inr i) = last (in_cases i)

pub numbers_once : (n : ℕ) → AreOnce (numbers_to n)
numbers_once zero = tt
numbers_once (suc n) = once_more (numbers_to n) (number n) (numbers_once n) (λ i. let l = numbers_below n (number n) i in omega (arith, l))
