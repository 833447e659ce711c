-- Accesses that are done and may write are retired at once.
use Rattle.std.proofs.Common.{◌≡◌, ℕ, refl, sym, ap, subst, ◌∙◌, List, ◌∷◌, Bool, true, ◌↔◌}
use Rattle.oss_model.specs.Order.{IsIn}
use Rattle.oss_model.specs.Forest.{IsDone, IsWriteSatisfied, done, write_top, write_child}
use Rattle.oss_deps.specs.declared.opened.Open.{Open}
use Rattle.oss_deps.specs.Opens.{AreOrdered, HasOpened, IsChild, IsEarlier, Precedes, first, later, one, opened_forest}
use Rattle.oss_deps.proofs.OpenLemmas.{one_entry, precedes_in, precedes_in_last}
use Rattle.oss_retire.specs.Retired.{AreRetired}
use Rattle.oss_retire.proofs.TellLemmas.{earlier_opened, free_earlier}

pub precedes_past : {x y z : Open} {opens : List Open} → AreOrdered opens → Precedes x y opens → Precedes y z opens → Precedes x z opens
precedes_past ord (first i) h = first (last_in h)
  where
    last_in : {w u v : Open} {rest : List Open} → Precedes u v (w ∷ rest) → IsIn v rest
    last_in (first j) = j
    last_in (later k) = precedes_in_last k
precedes_past (one z d par ord) (later h) (first j) = absurd (d _ (precedes_in_last h) refl)
precedes_past (one z d par ord) (later h) (later k) = later (precedes_past ord h k)

module _ (opens : List Open) (given : ℕ → ℕ → Bool) (c : ℕ) (ord : AreOrdered opens) where
  -- an earlier sibling of an earlier sibling
  earlier_past : (u v w : ℕ) → IsEarlier opens c u v → IsEarlier opens c v w → IsEarlier opens c u w
  earlier_past u v w a b =
      let same = one_entry ord a.after b.before (precedes_in_last a.order) (precedes_in b.order) (a.after_number ∙ sym b.number) in
      record {
        before = a.before;
        after = b.after;
        order = precedes_past ord a.order (subst (λ (x : Open). Precedes x b.after opens) (sym same) b.order);
        number = a.number;
        after_number = b.after_number;
        siblings = a.siblings ∙ ap (λ (x : Open). x.parent) same ∙ b.siblings;
        named = a.named;
      }

  entry_after : (u v : ℕ) (e : IsEarlier opens c u v) (h : HasOpened opens c v) → e.before.parent ≡ h.entry.parent
  entry_after u v e h = e.siblings ∙ ap (λ (x : Open). x.parent) (one_entry ord e.after h.entry (precedes_in_last e.order) h.listed (e.after_number ∙ sym h.number))

  -- an earlier sibling of one that may write may write
  earlier_free : (u v : ℕ) → IsEarlier opens c u v → IsWriteSatisfied (opened_forest opens given c) v → IsWriteSatisfied (opened_forest opens given c) u
  earlier_free u v e (write_top t f) =
      write_top (record { opened = record { entry = e.before; listed = precedes_in e.order; number = e.number; named = e.named }; parent = entry_after u v e t.opened ∙ t.parent }) (λ w k. f w (earlier_past w u v k e))
  earlier_free u v e (write_child h s f) =
      write_child (record { above = h.above; opened = record { entry = e.before; listed = precedes_in e.order; number = e.number; named = e.named }; parent = entry_after u v e h.opened ∙ h.parent }) s (λ w k. f w (earlier_past w u v k e))

  -- a child of one that is done and may write may write
  child_free : (u v : ℕ) → IsChild opens c u v → IsDone (opened_forest opens given c) u → IsWriteSatisfied (opened_forest opens given c) u → IsWriteSatisfied (opened_forest opens given c) v
  child_free u v h (done g f) s =
      write_child h s (λ w k. f w (record { above = h.above; opened = record { entry = k.before; listed = precedes_in k.order; number = k.number; named = k.named }; parent = entry_after w v k h.opened ∙ h.parent }))

  child_done : (u v : ℕ) → IsChild opens c u v → IsDone (opened_forest opens given c) u → IsDone (opened_forest opens given c) v
  child_done u v h (done g f) = f v h

  pub done_may_retire : (r : ℕ → Bool) → ((t : ℕ) → HasOpened opens c t → r t ≡ true ↔ (IsDone (opened_forest opens given c) t × IsWriteSatisfied (opened_forest opens given c) t)) → AreRetired opens given c r
  done_may_retire r is = record {
    done = λ t e h. ((is t h).0 e).0;
    free = λ t e h. ((is t h).0 e).1;
    front = λ u v e h k. let b = (is v h).0 e in (is u (earlier_opened opens c u v k)).1 (free_earlier opens given c v b.1 u k, earlier_free u v k b.1);
    below = λ u v e h. let b = (is u h.above).0 e in (is v h.opened).1 (child_done u v h b.0, child_free u v h b.0 b.1);
  }
