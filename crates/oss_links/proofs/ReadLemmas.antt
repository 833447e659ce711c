-- What flags tell of the opened tasks.
use Rattle.std.proofs.Common.{◌≡◌, ℕ, sym, subst, ◌∙◌, Bool, List}
use Rattle.oss_syntax.specs.declared.access.Op.{Op}
use Rattle.oss_syntax.specs.declared.access.Mode.TheVariants.{Fold}
use Rattle.oss_model.specs.Forest.{IsDone, IsJoinSatisfied}
use Rattle.oss_model.specs.Matching.{HaveSameFlags, before}
use Rattle.oss_model.proofs.MatchingLemmas.{same_flags}
use Rattle.oss_deps.specs.declared.opened.Open.{Open}
use Rattle.oss_deps.specs.Opens.{IsEarlier, mode_in, opened_forest, AreOrdered}
use Rattle.oss_access_lists.specs.declared.marks.Marks.{Marks}
use Rattle.oss_access_lists.specs.Wires.{Wires, IsBefore, wired}
use Rattle.oss_access_lists.specs.Flags.{MayRead, MayJoin, MayWrite, Given, Done, Clear, Means}
use Rattle.oss_access_lists.proofs.SoundLemmas.{same_folded}
use Rattle.oss_links.specs.Held.{AreHeld}
use Rattle.oss_links.specs.Readings.{AreTrue, TellOfTask}
use Rattle.oss_links.proofs.HeldLemmas.{held_matches}

module _ (opens : List Open) (given : ℕ → ℕ → Bool) (c : ℕ) (w : Wires) (entry : ℕ → ℕ → Type 0) (ord : AreOrdered opens) (are : AreHeld opens given c w entry) where
  pub same_as : (t v : ℕ) → entry t v → HaveSameFlags (opened_forest opens given c) (wired w) t v
  same_as t v r = same_flags (opened_forest opens given c) (wired w) entry (held_matches opens given c w entry ord are) t v r

  -- what stands before an access is of an earlier sibling
  clear_forth : (t v : ℕ) → entry t v → ((u : ℕ) → IsBefore w.place u v → IsDone (wired w) u) → (s : ℕ) → IsEarlier opens c s t → IsDone (opened_forest opens given c) s
  clear_forth t v r f s e =
      let q = (held_matches opens given c w entry ord are).forth t s v r (before e) in
      (same_as s q.0 q.1).done.1 (f q.0 (((held_matches opens given c w entry ord are).earlier s t q.0 v q.1 r).0 e))

  clear_back : (t v : ℕ) → entry t v → ((s : ℕ) → IsEarlier opens c s t → IsDone (opened_forest opens given c) s) → (u : ℕ) → IsBefore w.place u v → IsDone (wired w) u
  clear_back t v r f u b =
      let q = (held_matches opens given c w entry ord are).back t v u r (before b) in
      (same_as q.0 u q.1).done.0 (f q.0 (((held_matches opens given c w entry ord are).earlier q.0 t u v q.1 r).1 b))

  pub flags_tell : (t v : ℕ) (marks : Marks) → entry t v → AreTrue w v marks → TellOfTask opens given c t marks
  flags_tell t v marks r true_ones = record {
    reads = (λ h. s.read.1 ((true_ones MayRead).0 h), λ h. (true_ones MayRead).1 (s.read.0 h));
    writes = (λ h. s.write.1 ((true_ones MayWrite).0 h), λ h. (true_ones MayWrite).1 (s.write.0 h));
    joins = λ op m. (λ h. joined op m ((true_ones MayJoin).0 h), λ h. (true_ones MayJoin).1 (op, sym (are.mode t v r) ∙ m, (s.join op).0 h));
    given_up = (λ h. are.gave t v r ∙ (true_ones Given).0 h, λ h. (true_ones Given).1 (sym (are.gave t v r) ∙ h));
    done = (λ h. s.done.1 ((true_ones Done).0 h), λ h. (true_ones Done).1 (s.done.0 h));
    clear = (λ h. clear_forth t v r ((true_ones Clear).0 h), λ h. (true_ones Clear).1 (clear_back t v r h));
  }
    where
      s : HaveSameFlags (opened_forest opens given c) (wired w) t v
      s = same_as t v r

      joined : (op : Op) → mode_in opens c t ≡ Fold op → Means w MayJoin v → IsJoinSatisfied (opened_forest opens given c) op t
      joined op m j = subst (λ y. IsJoinSatisfied (opened_forest opens given c) y t) (same_folded j.0 op (sym j.1 ∙ (sym (are.mode t v r) ∙ m))) ((s.join j.0).1 j.2)
