-- The marks of a list tell which accesses are done.
use Rattle.std.proofs.Common.{◌≡◌, ℕ, ◌+◌, ◌<◌, ◌≤◌, zero, suc, refl, sym, ap, subst, ◌∙◌, List, ◌⊎◌, inl, inr, true, false, Option, Some, None, arith, length}
use Rattle.std.proofs.lemmas.Option.{slice_get_within}
use Rattle.std.specs.Prelude.{not, is_some, slice_get}
use Rattle.oss_model.specs.Forest.{IsDone, done}
use Rattle.oss_deps.specs.declared.frame.Frame.{Frame}
use Rattle.oss_deps.specs.declared.frame.Mark.{Mark}
use Rattle.oss_deps.specs.Places.{is_closed, closed_at, closed_mark, given_mark, IsBelow, IsFirst, place_forest, AreLinked, AreMarked, IsWithin}
use Rattle.oss_deps.proofs.Basics.{both, both_of, options, value_within, some_none}

-- what a closed mark is
pub closed_is : (marks : List Mark) (k : ℕ) → closed_at marks k ≡ true → (m : Mark) × (slice_get marks k ≡ Some m) × (m.given ≡ true) × (m.first ≡ None)
closed_is marks k h = go (slice_get marks k) refl
  where
    none_is : (o : Option ℕ) → not (is_some o) ≡ true → o ≡ None
    none_is None e = refl
    none_is (Some x) e = absurd cc

    go : (o : Option Mark) → slice_get marks k ≡ o → (m : Mark) × (slice_get marks k ≡ Some m) × (m.given ≡ true) × (m.first ≡ None)
    go None e = let f : false ≡ true = sym (ap closed_mark e) ∙ h in absurd cc
    go (Some m) e = let f : is_closed m ≡ true = sym (ap closed_mark e) ∙ h in let r = both m.given (not (is_some m.first)) f in (m, e, r.0, none_is m.first r.1)

pub closed_of : (marks : List Mark) (k : ℕ) (m : Mark) → slice_get marks k ≡ Some m → m.given ≡ true → m.first ≡ None → closed_at marks k ≡ true
closed_of marks k m e g f = ap closed_mark e ∙ both_of m.given (not (is_some m.first)) g (ap (λ (o : Option ℕ). not (is_some o)) f)

pub below_within : (frames : List Frame) (u v : ℕ) → IsBelow frames u v → IsWithin frames v
below_within frames u zero b = absurd (b.not_main refl)
below_within frames u (suc v) b = (omega arith, slice_get_within frames (suc v) b.frame b.is)

module _ (frames : List Frame) (marks : List Mark) (linked : AreLinked frames) (marked : AreMarked frames marks None) where
  mark_within : (v : ℕ) → v < length frames → (m : Mark) × (slice_get marks v ≡ Some m)
  mark_within v h = value_within marks v (omega (arith, marked.same, h))

  -- a child stands behind
  pub below_behind : (u v : ℕ) → IsBelow frames u v → u < v
  below_behind u v b = omega (arith, linked.above v b.frame b.is b.not_main, b.up_is)

  -- what the marks tell is so: by the number of places behind
  done_from : (n : ℕ) (v : ℕ) → length frames ≤ v + n → closed_at marks v ≡ true → IsDone (place_forest frames marks) v
  done_from zero v h e =
      let c = closed_is marks v e in
      absurd (omega (arith, slice_get_within marks v c.0 c.1, marked.same, h))
  done_from (suc n) v h e =
      let c = closed_is marks v e in
      done (ap given_mark c.1 ∙ c.2) (λ w child. done_from n w (omega (arith, below_behind v w child.1, h)) (children c.0 c.1 c.3 w child.1))
    where
      children : (m : Mark) → slice_get marks v ≡ Some m → m.first ≡ None → (w : ℕ) → IsBelow frames v w → closed_at marks w ≡ true
      children m is f w b = subst (λ (o : Option ℕ). IsFirst frames marks None v o) f (marked.first v m is) w b

  pub closed_done : (v : ℕ) → closed_at marks v ≡ true → IsDone (place_forest frames marks) v
  closed_done v e = done_from (length frames) v (omega arith) e

  -- what is so is told
  pub done_closed : (v : ℕ) → IsWithin frames v → IsDone (place_forest frames marks) v → closed_at marks v ≡ true
  done_closed v within (done g f) =
      let m = mark_within v within.1 in
      go m.0 m.1 (sym (ap given_mark m.1) ∙ g) (λ l b. done_closed l (below_within frames v l b) (f l (not_zero, b))) (options m.0.first)
    where
      not_zero : v ≡ 0 → ⊥
      not_zero z = omega (arith, within.0, z)

      go : (m : Mark) → slice_get marks v ≡ Some m → m.given ≡ true → ((l : ℕ) → IsBelow frames v l → closed_at marks l ≡ true) → (m.first ≡ None) ⊎ ((l : ℕ) × (m.first ≡ Some l)) → closed_at marks v ≡ true
      go m is given again (inl e) = closed_of marks v m is given e
      go m is given again (inr (l, e)) =
          let first = subst (λ (o : Option ℕ). IsFirst frames marks None v o) e (marked.first v m is) in
          absurd (some_none (sym (first.1 (again l first.0))))
