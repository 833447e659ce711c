-- What the seat of a net knows of the rows that it files.
use Rattle.std.proofs.Common.{◌≡◌, ℕ, zero, suc, ◌<◌, ◌≤◌, ◌+◌, ◌-◌, ◌⊎◌, inl, inr, refl, sym, ap, subst, List, [], ◌∷◌, ◌++◌, arith}
use Rattle.oss_filing.proofs.Basics.{compared}
use Rattle.oss_words.specs.SeatSteps.{numbers}
use Rattle.oss_words.specs.Views.{Among, among_first, among_later}
use Rattle.oss_word_net.specs.Known.{Known, first_known}
use Rattle.oss_word_net.specs.Moves.{drew}
use Rattle.oss_filing.specs.Owned.{IsAlone}

-- the numbers that were drawn
among_numbers : (n count v : ℕ) → n ≤ v → v < n + count → (rest : List ℕ) → Among v (numbers n count ++ rest)
among_numbers n zero v h k rest = absurd (omega (arith, h, k))
among_numbers n (suc count) v h k rest = go (λ a. among_numbers (suc n) count v a (omega (arith, k)) rest) (compared n v)
  where
    go : (suc n ≤ v → Among v (numbers (suc n) count ++ rest)) → (n < v) ⊎ ((n ≡ v) ⊎ (v < n)) → Among v (n ∷ (numbers (suc n) count ++ rest))
    go again (inl a) = among_later (again (omega (arith, a)))
    go again (inr (inl a)) = among_first a
    go again (inr (inr a)) = absurd (omega (arith, a, h))

pub among_back : {A : Type 0} (x : A) (xs ys : List A) → Among x ys → Among x (xs ++ ys)
among_back x [] ys h = h
among_back x (y ∷ xs) ys h = among_later (among_back x xs ys h)

pub alone_now : (size : ℕ) (k : Known) → 2 ≤ size → k ≡ drew (size - 1) 1 (first_known size) → IsAlone k size
alone_now size k two is = record { size_is = ap (λ (x : Known). x.entries) is; owned = λ v h. subst (λ (x : Known). Among v x.view.owned) (sym is) (go v h); splits = ap (λ (x : Known). x.view.splits) is }
  where
    go : (v : ℕ) → v < size → Among v (numbers 1 (size - 1) ++ 0 ∷ [])
    go zero h = among_back 0 (numbers 1 (size - 1)) (0 ∷ []) (among_first refl)
    go (suc v) h = among_numbers 1 (size - 1) (suc v) (omega arith) (omega (arith, h)) (0 ∷ [])
