-- What is retired stays so, whatever is given up and opened.
use Rattle.std.proofs.Common.{◌≡◌, ℕ, refl, sym, ap, subst, ◌∙◌, List, [], ◌∷◌, ◌++◌, ◌⊎◌, inl, inr, Bool, true, false}
use Rattle.oss_model.specs.Order.{IsIn}
use Rattle.oss_model.specs.Forest.{IsDone, IsWriteSatisfied, done, write_top, write_child}
use Rattle.oss_deps.specs.declared.opened.Open.{Open}
use Rattle.oss_deps.specs.Opens.{AreOrdered, HasOpened, IsChild, IsEarlier, IsTop, Precedes, names, opened_forest}
use Rattle.oss_deps.specs.Seen.{CanOpen, HasHeldCover, Seen}
use Rattle.oss_deps.proofs.Basics.{clash}
use Rattle.oss_deps.proofs.OpenLemmas.{in_added, in_front, not_main}
use Rattle.oss_links.proofs.GrowLemmas.{precedes_added}
use Rattle.oss_retire.specs.Retired.{AreRetired}
use Rattle.oss_retire.proofs.TellLemmas.{earlier_opened, given_of}

pub none_are_retired : (opens : List Open) (given : ℕ → ℕ → Bool) (c : ℕ) → AreRetired opens given c (λ t. false)
none_are_retired opens given c = record {
  done = λ t e h. absurd cc;
  free = λ t e h. absurd cc;
  front = λ u v e h k. absurd cc;
  below = λ u v e h. absurd cc;
}

-- more is given up
module _ (opens : List Open) (given later : ℕ → ℕ → Bool) (c : ℕ) (more : (t : ℕ) → given t c ≡ true → later t c ≡ true) where
  done_more : (v : ℕ) → IsDone (opened_forest opens given c) v → IsDone (opened_forest opens later c) v
  done_more v (done g f) = done (more v g) (λ w h. done_more w (f w h))

  write_more : (v : ℕ) → IsWriteSatisfied (opened_forest opens given c) v → IsWriteSatisfied (opened_forest opens later c) v
  write_more v (write_top t f) = write_top t (λ u h. done_more u (f u h))
  write_more v (write_child {p = p} h s f) = write_child h (write_more p s) (λ u k. done_more u (f u k))

  pub gifts_keep : (r : ℕ → Bool) → AreRetired opens given c r → AreRetired opens later c r
  gifts_keep r are = record {
    done = λ t e h. done_more t (are.done t e h);
    free = λ t e h. write_more t (are.free t e h);
    front = are.front;
    below = are.below;
  }

-- a task is opened
module _ (s : Seen) (c : ℕ) (o : Open) (ord : AreOrdered s.opens) (can : CanOpen s o) where
  abbrev grown : List Open
  grown = s.opens ++ o ∷ []

  -- an access that was there, or the new one
  opened_old : (v : ℕ) → (v ≡ o.task → ⊥) → (h : HasOpened grown c v) → (k : HasOpened s.opens c v) × (k.entry ≡ h.entry)
  opened_old v apart h = go (in_added s.opens o h.listed)
    where
      go : IsIn h.entry s.opens ⊎ (h.entry ≡ o) → (k : HasOpened s.opens c v) × (k.entry ≡ h.entry)
      go (inl i) = (record { entry = h.entry; listed = i; number = h.number; named = h.named }, refl)
      go (inr e) = absurd (apart (sym h.number ∙ ap (λ (x : Open). x.task) e))

  abbrev opened_more : (v : ℕ) → HasOpened s.opens c v → HasOpened grown c v
  opened_more v h = record { entry = h.entry; listed = in_front s.opens (o ∷ []) h.listed; number = h.number; named = h.named }

  not_new : (v : ℕ) → HasOpened s.opens c v → v ≡ o.task → ⊥
  not_new v h e = can.fresh (record { entry = h.entry; listed = h.listed; number = h.number ∙ e })

  earlier_old : (u v : ℕ) → (v ≡ o.task → ⊥) → IsEarlier grown c u v → IsEarlier s.opens c u v
  earlier_old u v apart h = go (precedes_added s.opens o h.order)
    where
      go : Precedes h.before h.after s.opens ⊎ (IsIn h.before s.opens × (h.after ≡ o)) → IsEarlier s.opens c u v
      go (inl p) = record { before = h.before; after = h.after; order = p; number = h.number; after_number = h.after_number; siblings = h.siblings; named = h.named }
      go (inr e) = absurd (apart (sym h.after_number ∙ ap (λ (x : Open). x.task) e.1))

  top_more : (v : ℕ) → IsTop s.opens c v → IsTop grown c v
  top_more v h = record { opened = opened_more v h.opened; parent = h.parent }

  child_more : (u v : ℕ) → IsChild s.opens c u v → IsChild grown c u v
  child_more u v h = record { above = opened_more u h.above; opened = opened_more v h.opened; parent = h.parent }

  -- a creator that has given up the cell gets no child there
  child_old : (u v : ℕ) → HasOpened s.opens c u → s.given u c ≡ true → IsChild grown c u v → IsChild s.opens c u v
  child_old u v there given h = go (in_added s.opens o h.opened.listed)
    where
      held : (o.parent ≡ 0) ⊎ HasHeldCover s c o → o.parent ≡ u → ⊥
      held (inl z) e = not_main ord there.entry there.listed (there.number ∙ sym e ∙ z)
      held (inr k) e = clash (s.given u c) given (ap (λ (t : ℕ). s.given t c) (sym e) ∙ k.held)

      go : IsIn h.opened.entry s.opens ⊎ (h.opened.entry ≡ o) → IsChild s.opens c u v
      go (inl i) = record { above = there; opened = record { entry = h.opened.entry; listed = i; number = h.opened.number; named = h.opened.named }; parent = h.parent }
      go (inr e) = absurd (held (can.covered c (subst (λ (x : Open). names c x ≡ true) e h.opened.named)) (ap (λ (x : Open). x.parent) (sym e) ∙ h.parent))

  done_grown : (v : ℕ) → HasOpened s.opens c v → IsDone (opened_forest s.opens s.given c) v → IsDone (opened_forest grown s.given c) v
  done_grown v there (done g f) = done g (λ w h. let k = child_old v w there g h in done_grown w k.opened (f w k))

  all_grown : (v : ℕ) → HasOpened s.opens c v → ((u : ℕ) → IsEarlier s.opens c u v → IsDone (opened_forest s.opens s.given c) u) → (u : ℕ) → IsEarlier grown c u v → IsDone (opened_forest grown s.given c) u
  all_grown v there f u h = let k = earlier_old u v (not_new v there) h in done_grown u (earlier_opened s.opens c u v k) (f u k)

  write_grown : (v : ℕ) → IsWriteSatisfied (opened_forest s.opens s.given c) v → IsWriteSatisfied (opened_forest grown s.given c) v
  write_grown v (write_top t f) = write_top (top_more v t) (all_grown v t.opened f)
  write_grown v (write_child {p = p} h w f) = write_child (child_more p v h) (write_grown p w) (all_grown v h.opened f)

  pub openings_keep : (r : ℕ → Bool) → AreRetired s.opens s.given c r → r o.task ≡ false → AreRetired grown s.given c r
  openings_keep r are fresh = record {
    done = λ t e h. let k = (opened_old t (apart t e) h).0 in done_grown t k (are.done t e k);
    free = λ t e h. write_grown t (are.free t e (opened_old t (apart t e) h).0);
    front = λ u v e h k. are.front u v e (opened_old v (apart v e) h).0 (earlier_old u v (apart v e) k);
    below = λ u v e h. let there = (opened_old u (apart u e) h.above).0 in are.below u v e (child_old u v there (given_of s.opens s.given c u (are.done u e there)) h);
  }
    where
      apart : (t : ℕ) → r t ≡ true → t ≡ o.task → ⊥
      apart t e q = clash (r o.task) (ap r (sym q) ∙ e) fresh
