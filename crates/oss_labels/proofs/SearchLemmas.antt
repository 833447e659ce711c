-- A search by halving among labels whose entries rise.
use Rattle.std.proofs.Common.{◌≡◌, ◌∙◌, ◌⊎◌, inl, inr, ℕ, zero, suc, ◌+◌, ◌<◌, ◌≤◌, List, [], ◌∷◌, length, Option, Some, refl, sym, ap, arith}
use Rattle.std.specs.Prelude.{slice_get}
use Rattle.std.proofs.lemmas.Option.{slice_get_within}
use Rattle.oss_labels.specs.Lists.{IsCut, Rise}
use Rattle.oss_labels.specs.declared.labels.Labelled.{Labelled}

-- Those before a place are before the entry, and those from another on are not.
pub record IsSought (ls : List Labelled) (entry lo hi : ℕ) : Type 0 where
  pub within : hi ≤ length ls
  pub before : (k : ℕ) (l : Labelled) → slice_get ls k ≡ Some l → k < lo → l.entry < entry
  pub behind : (k : ℕ) (l : Labelled) → slice_get ls k ≡ Some l → hi ≤ k → entry ≤ l.entry

pub sought_begins : (ls : List Labelled) (entry : ℕ) → IsSought ls entry 0 (length ls)
sought_begins ls entry = record { within = omega arith; before = λ k l is less. absurd (omega (arith, less)); behind = λ k l is le. absurd (omega (arith, le, slice_get_within ls k l is)) }

-- entries rise from one place to a later one
rise_from : (from : ℕ) (ls : List Labelled) (k : ℕ) (l : Labelled) → Rise from ls → slice_get ls k ≡ Some l → from ≤ l.entry
rise_from from [] k l rise is = absurd (cc)
rise_from from (m ∷ ls) zero l rise is = let same : m ≡ l = cc in rw (sym same) rise.0
rise_from from (m ∷ ls) (suc k) l rise is = omega (arith, rise.0, rise_from (m.entry + 1) ls k l rise.1 is)

rise_between : (from : ℕ) (ls : List Labelled) (j k : ℕ) (l m : Labelled) → Rise from ls → slice_get ls j ≡ Some l → slice_get ls k ≡ Some m → j < k → l.entry < m.entry
rise_between from [] j k l m rise here there less = absurd (cc)
rise_between from (n ∷ ls) zero zero l m rise here there less = absurd (omega (arith, less))
rise_between from (n ∷ ls) zero (suc k) l m rise here there less = let same : n ≡ l = cc in rw (sym same) (omega (arith, rise_from (n.entry + 1) ls k m rise.1 there))
rise_between from (n ∷ ls) (suc j) zero l m rise here there less = absurd (omega (arith, less))
rise_between from (n ∷ ls) (suc j) (suc k) l m rise here there less = rise_between (n.entry + 1) ls j k l m rise.1 here there (omega (arith, less))

-- how two places lie
compared : (a b : ℕ) → (a < b) ⊎ ((a ≡ b) ⊎ (b < a))
compared zero zero = inr (inl refl)
compared zero (suc b) = inl (omega arith)
compared (suc a) zero = inr (inr (omega arith))
compared (suc a) (suc b) = further (compared a b)
  where
    further : (a < b) ⊎ ((a ≡ b) ⊎ (b < a)) → (suc a < suc b) ⊎ ((suc a ≡ suc b) ⊎ (suc b < suc a))
    further (inl h) = inl (omega (arith, h))
    further (inr (inl h)) = inr (inl (omega (arith, h)))
    further (inr (inr h)) = inr (inr (omega (arith, h)))

same_place : (ls : List Labelled) (j k : ℕ) (l m : Labelled) → slice_get ls j ≡ Some l → slice_get ls k ≡ Some m → j ≡ k → l.entry ≡ m.entry
same_place ls j k l m here there e = ap (λ (n : Labelled). n.entry) same
  where
    both : ◌≡◌ {A = Option Labelled} (Some l) (Some m)
    both = sym here ∙ ap (λ (n : ℕ). slice_get ls n) e ∙ there

    same : l ≡ m
    same = cc

module _ (ls : List Labelled) (entry lo hi middle : ℕ) (mid : Labelled) (rise : Rise 0 ls) (sought : IsSought ls entry lo hi) (from : lo ≤ middle) (less : middle < hi) (is : slice_get ls middle ≡ Some mid) where
  pub sought_right : mid.entry < entry → IsSought ls entry (middle + 1) hi
  sought_right h = record { within = sought.within; before = λ k l here small. go k l here small (compared k middle); behind = sought.behind }
    where
      go : (k : ℕ) (l : Labelled) → slice_get ls k ≡ Some l → k < middle + 1 → (k < middle) ⊎ ((k ≡ middle) ⊎ (middle < k)) → l.entry < entry
      go k l here small (inl before) = omega (arith, rise_between 0 ls k middle l mid rise here is before, h)
      go k l here small (inr (inl e)) = omega (arith, same_place ls k middle l mid here is e, h)
      go k l here small (inr (inr behind)) = absurd (omega (arith, small, behind))

  pub sought_left : entry ≤ mid.entry → IsSought ls entry lo middle
  sought_left h = record { within = omega (arith, less, sought.within); before = sought.before; behind = λ k l here le. go k l here le (compared k middle) }
    where
      go : (k : ℕ) (l : Labelled) → slice_get ls k ≡ Some l → middle ≤ k → (k < middle) ⊎ ((k ≡ middle) ⊎ (middle < k)) → entry ≤ l.entry
      go k l here le (inl before) = absurd (omega (arith, le, before))
      go k l here le (inr (inl e)) = omega (arith, same_place ls k middle l mid here is e, h)
      go k l here le (inr (inr behind)) = omega (arith, rise_between 0 ls middle k mid l rise is here behind, h)

pub sought_cut : (ls : List Labelled) (entry lo hi : ℕ) → IsSought ls entry lo hi → hi ≤ lo → lo ≤ hi → IsCut ls entry lo
sought_cut ls entry lo hi sought le ge = record { within = omega (arith, ge, sought.within); before = sought.before; behind = λ k l is from. sought.behind k l is (omega (arith, le, from)) }
