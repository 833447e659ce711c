-- A number is sought among numbers that rise.
use Rattle.std.proofs.Common.{◌≡◌, ℕ, ◌+◌, ◌<◌, ◌≤◌, sym, subst, List, ◌⊎◌, inl, inr, Some, arith, length, get_or}
use Rattle.std.proofs.lemmas.Option.{slice_get_within, slice_get-get_or}
use Rattle.std.specs.Prelude.{slice_get}
use Rattle.oss_deps.proofs.Basics.{same_at, compared}
use Rattle.oss_retire.specs.Remainder.{AreRising}

-- The smaller numbers end before a place, and the greater ones begin at another.
pub record IsSought (xs : List ℕ) (n lo hi : ℕ) : Type 0 where
  pub within : hi ≤ length xs
  pub smaller : (k s : ℕ) → slice_get xs k ≡ Some s → k < lo → s < n
  pub greater : (k s : ℕ) → slice_get xs k ≡ Some s → hi ≤ k → n < s

pub sought_begins : (xs : List ℕ) (n : ℕ) → IsSought xs n 0 (length xs)
sought_begins xs n = record { within = omega arith; smaller = λ k s is h. absurd (omega (arith, h)); greater = λ k s is h. absurd (omega (arith, h, slice_get_within xs k s is)) }

module _ (xs : List ℕ) (rising : AreRising xs) (n lo hi middle mid : ℕ) (sought : IsSought xs n lo hi) (from : lo ≤ middle) (before : middle < hi) (mid_is : slice_get xs middle ≡ Some mid) where
  pub sought_right : mid < n → IsSought xs n (middle + 1) hi
  sought_right h = record { within = sought.within; smaller = λ k s is l. go k s is l (compared k middle); greater = sought.greater }
    where
      go : (k s : ℕ) → slice_get xs k ≡ Some s → k < middle + 1 → (k < middle) ⊎ ((k ≡ middle) ⊎ (middle < k)) → s < n
      go k s is l (inl less) = omega (arith, rising k middle s mid is mid_is less, h)
      go k s is l (inr (inl e)) = omega (arith, same_at is (subst (λ (j : ℕ). slice_get xs j ≡ Some mid) (sym e) mid_is), h)
      go k s is l (inr (inr more)) = absurd (omega (arith, l, more))

  pub sought_left : n < mid → IsSought xs n lo middle
  sought_left h = record { within = omega (arith, before, sought.within); smaller = sought.smaller; greater = λ k s is l. go k s is l (compared middle k) }
    where
      go : (k s : ℕ) → slice_get xs k ≡ Some s → middle ≤ k → (middle < k) ⊎ ((middle ≡ k) ⊎ (k < middle)) → n < s
      go k s is l (inl more) = omega (arith, rising middle k mid s mid_is is more, h)
      go k s is l (inr (inl e)) = omega (arith, same_at is (subst (λ (j : ℕ). slice_get xs j ≡ Some mid) e mid_is), h)
      go k s is l (inr (inr less)) = absurd (omega (arith, l, less))

pub sought_none : (xs : List ℕ) (n lo hi : ℕ) → IsSought xs n lo hi → hi ≤ lo → (k : ℕ) → slice_get xs k ≡ Some n → ⊥
sought_none xs n lo hi sought h k p = go (compared k lo)
  where
    go : (k < lo) ⊎ ((k ≡ lo) ⊎ (lo < k)) → ⊥
    go (inl l) = omega (arith, sought.smaller k n p l)
    go (inr (inl e)) = omega (arith, sought.greater k n p (omega (arith, h, e)))
    go (inr (inr l)) = omega (arith, sought.greater k n p (omega (arith, h, l)))

-- what a read of a list gives
pub read_at : (xs : List ℕ) (k : ℕ) → k < length xs → slice_get xs k ≡ Some (get_or xs k 0)
read_at xs k h = slice_get-get_or xs k 0 h
