-- What the conditions of a system's calls tell of the lists.
use Rattle.std.proofs.Common.{◌≡◌, ℕ, ◌<◌, ◌≤◌, refl, sym, subst, ap, ◌∙◌, ◌⊎◌, inl, inr, Bool, true, false, List}
use Rattle.oss_syntax.specs.declared.access.Mode.{Mode}
use Rattle.oss_syntax.specs.declared.access.Range.{Range}
use Rattle.oss_syntax.specs.declared.access.Mode.TheVariants.{Write}
use Rattle.oss_model.specs.Forest.{IsDone}
use Rattle.oss_model.specs.Rights.{covers}
use Rattle.oss_deps.specs.declared.opened.Open.{Open}
use Rattle.oss_deps.specs.Opens.{AreChildrenDone, AreCovered, AreOrdered, HasCover, HasOpened, mode_at, mode_in, names, opened_forest}
use Rattle.oss_deps.specs.Seen.{CanGive, CanOpen, HasHeldCover, Seen}
use Rattle.oss_deps.proofs.OpenLemmas.{mode_is}
use Rattle.oss_access_lists.specs.Wires.{Wires}
use Rattle.oss_links.specs.Held.{AreHeld, IsAccessOrMain}

writes_cover : (m n : Mode) → m ≡ Write → covers m n ≡ true
writes_cover m n e = subst (λ (x : Mode). covers x n ≡ true) (sym e) refl

module _ (s : Seen) (c : ℕ) (w : Wires) (entry : ℕ → ℕ → Type 0) (are : AreHeld s.opens s.given c w entry) where
  -- the access of the creator
  pub creator_held : (o : Open) → CanOpen s o → names c o ≡ true → (p : ℕ) × IsAccessOrMain entry o.parent p
  creator_held o can named = go (can.covered c named)
    where
      go : (o.parent ≡ 0) ⊎ HasHeldCover s c o → (p : ℕ) × IsAccessOrMain entry o.parent p
      go (inl z) = (0, inl (z, refl))
      go (inr h) = let r = are.held o.parent h.cover.above in (r.0, inr r.1)

  -- it may lend the cell
  pub creator_lends : AreOrdered s.opens → (o : Open) (p : ℕ) → CanOpen s o → names c o ≡ true → IsAccessOrMain entry o.parent p → (w.gave p ≡ false) × (covers (w.mode p) (mode_at c o) ≡ true)
  creator_lends ordered o p can named (inl z) =
      (ap w.gave z.1 ∙ are.wired.main_holds, writes_cover (w.mode p) (mode_at c o) (ap w.mode z.1 ∙ are.wired.main_writes))
  creator_lends ordered o p can named (inr r) = go (can.covered c named)
    where
      go : (o.parent ≡ 0) ⊎ HasHeldCover s c o → (w.gave p ≡ false) × (covers (w.mode p) (mode_at c o) ≡ true)
      go (inl z) = absurd ((are.not_main o.parent p r).0 z)
      go (inr h) =
          let a = h.cover.above in
          let m : mode_at c a.entry ≡ w.mode p = sym (mode_is c ordered a.entry a.listed) ∙ (ap (mode_in s.opens c) a.number ∙ are.mode o.parent p r) in
          (sym (are.gave o.parent p r) ∙ h.held, subst (λ (x : Mode). covers x (mode_at c o) ≡ true) m h.cover.covered)

  -- the access of the giver
  pub giver_held : (t : ℕ) (range : Range) → CanGive t range s → range.lo ≤ c → c < range.hi → (v : ℕ) × entry t v × (v ≡ 0 → ⊥)
  giver_held t range can lo hi = let r = are.held t (can.named c lo hi) in (r.0, r.1, (are.not_main t r.0 r.1).1)

-- children of a task without an access
pub no_child : (opens : List Open) (given : ℕ → ℕ → Bool) (c : ℕ) (w : Wires) (entry : ℕ → ℕ → Type 0) (t : ℕ) → AreCovered opens → AreHeld opens given c w entry → (t ≡ 0 → ⊥) → ((v : ℕ) → entry t v → ⊥)
    → AreChildrenDone opens given t c
no_child opens given c w entry t covered are main none o i e named = go (covered c o i named)
  where
    go : (o.parent ≡ 0) ⊎ HasCover opens c o → IsDone (opened_forest opens given c) o.task
    go (inl z) = absurd (main (sym e ∙ z))
    go (inr h) = let r = are.held t (subst (λ y. HasOpened opens c y) e h.above) in absurd (none r.0 r.1)
