-- All accesses of a task's children are done exactly where the flags of the last one say so.
use Rattle.std.proofs.Common.{◌≡◌, ℕ, refl, sym, subst, ◌∙◌, ◌⊎◌, inl, inr, Bool, true, false, List, ◌↔◌, eq-eqb, eqb-true}
use Rattle.std.specs.Prelude.{◌==◌}
use Rattle.oss_model.specs.Forest.{IsDone}
use Rattle.oss_deps.specs.declared.opened.Open.{Open}
use Rattle.oss_deps.specs.Opens.{opened_forest, AreOrdered, AreChildrenDone, HasOpened}
use Rattle.oss_access_lists.specs.declared.marks.Marks.{Marks}
use Rattle.oss_access_lists.specs.Wires.{Wires, IsBelow, wired}
use Rattle.oss_access_lists.specs.Flags.{AreAtRest, AreBelowDone, is_whole}
use Rattle.oss_access_lists.proofs.GrowLemmas.{one_list}
use Rattle.oss_access_lists.proofs.SoundLemmas.{is_zero}
use Rattle.oss_access_lists.proofs.StepLemmas.{last_tells}
use Rattle.oss_links.specs.Held.{AreHeld, IsAccessOrMain, IsUnder, under_main, under_task}
use Rattle.oss_links.specs.Readings.{is_list_done}
use Rattle.oss_links.proofs.ReadLemmas.{same_as}

-- the list of p by its last access
module _ (w : Wires) (F : ℕ → Marks) (rest : AreAtRest w F) (p : ℕ) where
  pub zero_test : (v : ℕ) → (v ≡ 0 → ⊥) → (v == 0) ≡ false
  zero_test v n = go (v == 0) refl
    where
      go : (b : Bool) → (v == 0) ≡ b → b ≡ false
      go true e = absurd (n (eqb-true v 0 e))
      go false e = refl

  pub list_done : is_list_done w F p ≡ true ↔ AreBelowDone w p
  list_done = go (is_zero (w.last p))
    where
      go : (w.last p ≡ 0) ⊎ (w.last p ≡ 0 → ⊥) → is_list_done w F p ≡ true ↔ AreBelowDone w p
      go (inl z) = (λ h u b. absurd (rest.wired.empty p u z b), λ h. rw (eq-eqb (w.last p) 0 z) refl)
      go (inr n) =
          let tells = last_tells w F rest p (w.last p) refl n in
          let same : is_list_done w F p ≡ is_whole (F (w.last p)) = rw (zero_test (w.last p) n) refl in
          (λ h. tells.sound (sym same ∙ h), λ h. same ∙ tells.complete h)

module _ (opens : List Open) (given : ℕ → ℕ → Bool) (c : ℕ) (w : Wires) (entry : ℕ → ℕ → Type 0) (ord : AreOrdered opens) (are : AreHeld opens given c w entry) where
  done_same : (t v : ℕ) → entry t v → IsDone (opened_forest opens given c) t ↔ IsDone (wired w) v
  done_same t v r = (same_as opens given c w entry ord are t v r).done

  module _ (t p : ℕ) (is : IsAccessOrMain entry t p) where
    -- the creator of what hangs in the list
    parent_of : (s u : ℕ) (o : Open) → IsBelow w.place p u → IsUnder entry w o.parent u → IsAccessOrMain entry t p → o.parent ≡ t
    parent_of s u o b (under_main e k) (inl z) = e ∙ sym z.0
    parent_of s u o b (under_main e k) (inr q) = absurd ((are.not_main t p q).1 (one_list w.place p 0 u b k))
    parent_of s u o b (under_task x q k) (inl z) = absurd ((are.not_main o.parent x q).1 (one_list w.place x p u k b ∙ z.1))
    parent_of s u o b (under_task x q k) (inr i) = are.one_task o.parent t p (subst (λ y. entry o.parent y) (one_list w.place x p u k b) q) i

    -- who hangs there is a child
    pub is_child : (s u : ℕ) → entry s u → IsBelow w.place p u → (h : HasOpened opens c s) → h.entry.parent ≡ t
    is_child s u r b h = parent_of s u h.entry b (are.under h.entry u h.listed h.named (subst (λ y. entry y u) (sym h.number) r)) is

    forth : AreChildrenDone opens given t c → AreBelowDone w p
    forth f u b =
        let s = are.hung p u b in
        let h = are.opened s.0 u s.1 in
        (done_same s.0 u s.1).0 (subst (λ y. IsDone (opened_forest opens given c) y) h.number (f h.entry h.listed (is_child s.0 u s.1 b h) h.named))

    back : AreBelowDone w p → AreChildrenDone opens given t c
    back f o i e n = go (are.under o s.0 i n s.1) is
      where
        s : (v : ℕ) × entry o.task v
        s = are.held o.task (record { entry = o; listed = i; number = refl; named = n })

        go : IsUnder entry w o.parent s.0 → IsAccessOrMain entry t p → IsDone (opened_forest opens given c) o.task
        go (under_main z k) (inl y) = (done_same o.task s.0 s.1).1 (f s.0 (subst (λ x. IsBelow w.place x s.0) (sym y.1) k))
        go (under_main z k) (inr q) = absurd ((are.not_main t p q).0 (sym e ∙ z))
        go (under_task x q k) (inl y) = absurd ((are.not_main o.parent x q).0 (e ∙ y.0))
        go (under_task x q k) (inr y) = (done_same o.task s.0 s.1).1 (f s.0 (subst (λ x. IsBelow w.place x s.0) (are.one_number t x p (subst (λ g. entry g x) e q) y) k))

    pub children_are : AreChildrenDone opens given t c ↔ AreBelowDone w p
    children_are = (forth, back)

    pub last_child_tells : (F : ℕ → Marks) → AreAtRest w F → is_list_done w F p ≡ true ↔ AreChildrenDone opens given t c
    last_child_tells F rest = (λ h. back ((list_done w F rest p).0 h), λ h. (list_done w F rest p).1 (forth h))
