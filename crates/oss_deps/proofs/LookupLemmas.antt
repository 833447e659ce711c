-- The number of a task, and the place of a number.
use Rattle.std.proofs.Common.{◌≡◌, ℕ, ◌+◌, ◌<◌, ◌≤◌, zero, suc, refl, sym, ap, subst, ◌∙◌, List, [], ◌∷◌, ◌⊎◌, inl, inr, Some, None, arith, length, get_or}
use Rattle.std.proofs.lemmas.Option.{slice_get_within, slice_get-get_or}
use Rattle.std.specs.Prelude.{slice_get}
use Rattle.oss_deps.specs.declared.opened.Open.{Open}
use Rattle.oss_deps.specs.declared.frame.Frame.{Frame}
use Rattle.oss_deps.specs.Opens.{IsKnown}
use Rattle.oss_deps.specs.Places.{AreLinked}
use Rattle.oss_deps.specs.Columns.{IsNumberOf, IsPlaceOf}
use Rattle.oss_deps.proofs.Basics.{some_is, same_at, compared}
use Rattle.oss_deps.specs.Places.{blank}
use Rattle.oss_deps.proofs.OpenLemmas.{in_get}
use Rattle.oss_deps.proofs.CloseLemmas.{same_number}

-- The accesses with smaller numbers end before a place, and those with greater ones begin at another.
pub record IsSought (frames : List Frame) (n lo hi : ℕ) : Type 0 where
  pub within : hi ≤ length frames
  pub smaller : (k : ℕ) (f : Frame) → slice_get frames k ≡ Some f → k < lo → f.number < n
  pub greater : (k : ℕ) (f : Frame) → slice_get frames k ≡ Some f → hi ≤ k → n < f.number

pub sought_begins : (frames : List Frame) (n : ℕ) → IsSought frames n 0 (length frames)
sought_begins frames n = record { within = omega arith; smaller = λ k f is h. absurd (omega (arith, h)); greater = λ k f is h. absurd (omega (arith, h, slice_get_within frames k f is)) }

module _ (frames : List Frame) (linked : AreLinked frames) (n lo hi middle : ℕ) (sought : IsSought frames n lo hi) (from : lo ≤ middle) (before : middle < hi) where
  abbrev mid : Frame
  mid = get_or frames middle blank

  mid_is : slice_get frames middle ≡ Some mid
  mid_is = slice_get-get_or frames middle blank (omega (arith, before, sought.within))

  pub sought_found : mid.number ≡ n → IsPlaceOf frames n middle
  sought_found e = (mid, mid_is, e)

  pub sought_right : mid.number < n → IsSought frames n (middle + 1) hi
  sought_right h = record { within = sought.within; smaller = λ k f is l. go k f is l (compared k middle); greater = sought.greater }
    where
      go : (k : ℕ) (f : Frame) → slice_get frames k ≡ Some f → k < middle + 1 → (k < middle) ⊎ ((k ≡ middle) ⊎ (middle < k)) → f.number < n
      go k f is l (inl less) = omega (arith, linked.rising k middle f mid is mid_is less, h)
      go k f is l (inr (inl e)) = omega (arith, ap (λ (x : Frame). x.number) (same_at is (subst (λ (j : ℕ). slice_get frames j ≡ Some mid) (sym e) mid_is)), h)
      go k f is l (inr (inr more)) = absurd (omega (arith, l, more))

  pub sought_left : n < mid.number → IsSought frames n lo middle
  sought_left h = record { within = omega (arith, before, sought.within); smaller = sought.smaller; greater = λ k f is l. go k f is l (compared middle k) }
    where
      go : (k : ℕ) (f : Frame) → slice_get frames k ≡ Some f → middle ≤ k → (middle < k) ⊎ ((middle ≡ k) ⊎ (k < middle)) → n < f.number
      go k f is l (inl more) = omega (arith, linked.rising middle k mid f mid_is is more, h)
      go k f is l (inr (inl e)) = omega (arith, ap (λ (x : Frame). x.number) (same_at is (subst (λ (j : ℕ). slice_get frames j ≡ Some mid) e mid_is)), h)
      go k f is l (inr (inr less)) = absurd (omega (arith, l, less))

pub sought_none : (frames : List Frame) (n lo hi : ℕ) → IsSought frames n lo hi → hi ≤ lo → (k : ℕ) → IsPlaceOf frames n k → ⊥
sought_none frames n lo hi sought h k p = go (compared k lo)
  where
    go : (k < lo) ⊎ ((k ≡ lo) ⊎ (lo < k)) → ⊥
    go (inl l) = omega (arith, sought.smaller k p.0 p.1 l, p.2)
    go (inr (inl e)) = omega (arith, sought.greater k p.0 p.1 (omega (arith, h, e)), p.2)
    go (inr (inr l)) = omega (arith, sought.greater k p.0 p.1 (omega (arith, h, l)), p.2)

-- The entry at a place is that of the number behind it.
pub number_at : (opens : List Open) (i : ℕ) (o : Open) (t : ℕ) → slice_get opens i ≡ Some o → o.task ≡ t → IsNumberOf opens (i + 1) t
number_at opens i o t is e = inr (o, (i, refl, is), e)

-- No entry before a place is that of the task.
abbrev pub AreOthers : List Open → ℕ → ℕ → Type 0
AreOthers opens t at = (i : ℕ) (o : Open) → slice_get opens i ≡ Some o → i < at → o.task ≡ t → ⊥

pub others_more : (opens : List Open) (t at : ℕ) (o : Open) → AreOthers opens t at → slice_get opens at ≡ Some o → (o.task ≡ t → ⊥) → AreOthers opens t (at + 1)
others_more opens t at o others is n i q e h = go (compared i at)
  where
    go : (i < at) ⊎ ((i ≡ at) ⊎ (at < i)) → q.task ≡ t → ⊥
    go (inl l) = others i q e l
    go (inr (inl s)) = λ k. n (ap (λ (x : Open). x.task) (same_at is (subst (λ (j : ℕ). slice_get opens j ≡ Some q) s e)) ∙ k)
    go (inr (inr l)) = absurd (omega (arith, l, h))

pub others_all : (opens : List Open) (t at : ℕ) → AreOthers opens t at → length opens ≤ at → (t ≡ 0 → ⊥) → IsKnown opens t → ⊥
others_all opens t at others h n (inl z) = n z
others_all opens t at others h n (inr k) =
    let i = in_get opens k.listed in
    others i.0 k.entry i.1 (omega (arith, slice_get_within opens i.0 k.entry i.1, h)) k.number

-- one number stands at one place
pub one_place_of : (frames : List Frame) → AreLinked frames → (n k l : ℕ) → IsPlaceOf frames n k → IsPlaceOf frames n l → k ≡ l
one_place_of frames linked n k l p q = go (compared k l)
  where
    go : (k < l) ⊎ ((k ≡ l) ⊎ (l < k)) → k ≡ l
    go (inl h) = absurd (omega (arith, linked.rising k l p.0 q.0 p.1 q.1 h, p.2, q.2))
    go (inr (inl e)) = e
    go (inr (inr h)) = absurd (omega (arith, linked.rising l k q.0 p.0 q.1 p.1 h, p.2, q.2))

-- a number stands at a place or at none
pub look_at : (frames : List Frame) (n : ℕ) → ((k : ℕ) × IsPlaceOf frames n k) ⊎ ((k : ℕ) → IsPlaceOf frames n k → ⊥)
look_at [] n = inr (λ k p. none p.1)
  where
    none : {o : Frame} → None ≡ Some o → ⊥
    none e = absurd cc
look_at (f ∷ rest) n = go (same_number f.number n) (look_at rest n)
  where
    nowhere : (f.number ≡ n → ⊥) → ((k : ℕ) → IsPlaceOf rest n k → ⊥) → (k : ℕ) → IsPlaceOf (f ∷ rest) n k → ⊥
    nowhere d h zero p = d (ap (λ (x : Frame). x.number) (some_is p.1) ∙ p.2)
    nowhere d h (suc k) p = h k p

    go : (f.number ≡ n) ⊎ (f.number ≡ n → ⊥) → ((k : ℕ) × IsPlaceOf rest n k) ⊎ ((k : ℕ) → IsPlaceOf rest n k → ⊥) → ((k : ℕ) × IsPlaceOf (f ∷ rest) n k) ⊎ ((k : ℕ) → IsPlaceOf (f ∷ rest) n k → ⊥)
    go (inl e) r = inl (0, (f, refl, e))
    go (inr d) (inl (k, p)) = inl (suc k, p)
    go (inr d) (inr h) = inr (nowhere d h)
