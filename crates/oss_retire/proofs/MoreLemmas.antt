-- Of what is left more is retired.
use Rattle.std.proofs.Common.{◌≡◌, ℕ, refl, sym, ap, ◌∙◌, List, [], ◌∷◌, ◌⊎◌, inl, inr, Bool, true, false}
use Rattle.std.specs.Prelude.{◌||◌, if◌then◌else◌}
use Rattle.oss_syntax.specs.declared.access.Access.{Access}
use Rattle.oss_model.specs.Forest.{IsDone, IsWriteSatisfied}
use Rattle.oss_deps.specs.declared.opened.Open.{Open}
use Rattle.oss_deps.specs.Opens.{HasOpened, IsChild, IsEarlier, opened_forest}
use Rattle.oss_deps.proofs.Basics.{bools, or_cases, or_left, or_right}
use Rattle.oss_retire.specs.Retired.{AreRetired, either, left, left_of}
use Rattle.oss_retire.proofs.LeftLemmas.{child_left, earlier_left, opened_left}
use Rattle.oss_retire.proofs.TellLemmas.{left_done, left_write}

-- retired once and once more
left_twice : (r more : ℕ → Bool) (o : Open) → left more (left r o) ≡ left (either r more) o
left_twice r more o = ap (λ (x : List Access). record o { accesses = x }) (go (r o.task) (more o.task))
  where
    go : (a b : Bool) → (if b then [] else (if a then [] else o.accesses)) ≡ (if (a || b) then [] else o.accesses)
    go true true = refl
    go true false = refl
    go false true = refl
    go false false = refl

pub all_twice : (r more : ℕ → Bool) (opens : List Open) → left_of more (left_of r opens) ≡ left_of (either r more) opens
all_twice r more [] = refl
all_twice r more (o ∷ rest) = (λ i. left_twice r more o i ∷ all_twice r more rest i)

module _ (opens : List Open) (given : ℕ → ℕ → Bool) (c : ℕ) (r more : ℕ → Bool) (are : AreRetired opens given c r) (then_ : AreRetired (left_of r opens) given c more) where
  -- of one that is retired by the second and not by the first
  left_here : (t : ℕ) → either r more t ≡ true → r t ≡ false → more t ≡ true
  left_here t e k = go (or_cases (r t) (more t) e)
    where
      go : (r t ≡ true) ⊎ (more t ≡ true) → more t ≡ true
      go (inl h) = absurd (let x : true ≡ false = sym h ∙ k in cc)
      go (inr h) = h

  pub more_are_retired : AreRetired opens given c (either r more)
  more_are_retired = record { done = done_of; free = free_of; front = front_of; below = below_of }
    where
      done_of : (t : ℕ) → either r more t ≡ true → HasOpened opens c t → IsDone (opened_forest opens given c) t
      done_of t e h = go (bools (r t))
        where
          go : (r t ≡ true) ⊎ (r t ≡ false) → IsDone (opened_forest opens given c) t
          go (inl k) = are.done t k h
          go (inr k) = left_done opens given c r are t k (then_.done t (left_here t e k) (opened_left r opens c t k h))

      free_of : (t : ℕ) → either r more t ≡ true → HasOpened opens c t → IsWriteSatisfied (opened_forest opens given c) t
      free_of t e h = go (bools (r t))
        where
          go : (r t ≡ true) ⊎ (r t ≡ false) → IsWriteSatisfied (opened_forest opens given c) t
          go (inl k) = are.free t k h
          go (inr k) = left_write opens given c r are t (then_.free t (left_here t e k) (opened_left r opens c t k h))

      front_of : (u v : ℕ) → either r more v ≡ true → HasOpened opens c v → IsEarlier opens c u v → either r more u ≡ true
      front_of u v e h k = go (bools (r v)) (bools (r u))
        where
          go : (r v ≡ true) ⊎ (r v ≡ false) → (r u ≡ true) ⊎ (r u ≡ false) → either r more u ≡ true
          go (inl x) y = or_left (r u) (more u) (are.front u v x h k)
          go (inr x) (inl y) = or_left (r u) (more u) y
          go (inr x) (inr y) = or_right (r u) (more u) (then_.front u v (left_here v e x) (opened_left r opens c v x h) (earlier_left r opens c u v y k))

      below_of : (u v : ℕ) → either r more u ≡ true → IsChild opens c u v → either r more v ≡ true
      below_of u v e h = go (bools (r u)) (bools (r v))
        where
          go : (r u ≡ true) ⊎ (r u ≡ false) → (r v ≡ true) ⊎ (r v ≡ false) → either r more v ≡ true
          go (inl x) y = or_left (r v) (more v) (are.below u v x h)
          go (inr x) (inl y) = or_left (r v) (more v) y
          go (inr x) (inr y) = or_right (r v) (more v) (then_.below u v (left_here u e x) (child_left r opens c u v x y h))
