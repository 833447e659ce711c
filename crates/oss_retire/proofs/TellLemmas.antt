-- What is told of an access by what is left.
use Rattle.std.proofs.Common.{◌≡◌, ℕ, refl, sym, ap, subst, ◌∙◌, List, ◌⊎◌, inl, inr, Bool, true, false, ◌↔◌}
use Rattle.oss_syntax.specs.declared.access.Mode.{Mode}
use Rattle.oss_syntax.specs.declared.access.Mode.TheVariants.{Read, Write, Fold}
use Rattle.oss_syntax.specs.declared.access.Op.{Op}
use Rattle.oss_model.specs.Rights.{covers}
use Rattle.oss_model.specs.Forest.{Forest, IsDone, IsRead, IsReadSatisfied, IsWriteSatisfied, IsJoinSatisfied, InRun, done, read_top, read_child, write_top, write_child, join_top, join_below_fold, join_below_write}
use Rattle.oss_model.proofs.JudgeLemmas.{op_eq_is}
use Rattle.oss_deps.specs.declared.opened.Open.{Open}
use Rattle.oss_deps.specs.Opens.{names, mode_at, mode_in, AreChildrenDone, AreCovered, AreOrdered, HasCover, HasOpened, IsChild, IsEarlier, opened_forest}
use Rattle.oss_deps.proofs.Basics.{bools, clash}
use Rattle.oss_deps.proofs.OpenLemmas.{mode_is, not_main, precedes_in}
use Rattle.oss_access_lists.specs.declared.marks.Marks.{Marks}
use Rattle.oss_links.specs.Readings.{TellOfTask}
use Rattle.oss_retire.specs.Retired.{AreRetired, left, left_of}
use Rattle.oss_retire.specs.Claims.{all_marks}
use Rattle.oss_retire.proofs.LeftLemmas.{child_left, earlier_left, in_left, left_child, left_earlier, left_in, left_named, left_top, mode_in_left, named_left, top_left}

-- an earlier sibling's access is one
pub earlier_opened : (opens : List Open) (c u v : ℕ) → IsEarlier opens c u v → HasOpened opens c u
earlier_opened opens c u v e = record { entry = e.before; listed = precedes_in e.order; number = e.number; named = e.named }

module _ (opens : List Open) (given : ℕ → ℕ → Bool) (c : ℕ) (r : ℕ → Bool) (are : AreRetired opens given c r) where
  abbrev whole : Forest ℕ
  whole = opened_forest opens given c

  abbrev kept : Forest ℕ
  kept = opened_forest (left_of r opens) given c

  -- the creator of what is left is left
  above_left : (p v : ℕ) → r v ≡ false → IsChild opens c p v → r p ≡ false
  above_left p v e h = go (bools (r p))
    where
      go : (r p ≡ true) ⊎ (r p ≡ false) → r p ≡ false
      go (inl t) = clash (r v) (are.below p v t h) e
      go (inr f) = f

  pub done_left : (v : ℕ) → IsDone whole v → IsDone kept v
  done_left v (done g f) = done g (λ w h. done_left w (f w (left_child r opens c v w h).0))

  pub left_done : (v : ℕ) → r v ≡ false → IsDone kept v → IsDone whole v
  left_done v e (done g f) = done g (λ w h. go w h (bools (r w)) (λ k. left_done w k (f w (child_left r opens c v w e k h))))
    where
      go : (w : ℕ) → IsChild opens c v w → (r w ≡ true) ⊎ (r w ≡ false) → (r w ≡ false → IsDone whole w) → IsDone whole w
      go w h (inl t) again = are.done w t h.opened
      go w h (inr k) again = again k

  -- each earlier sibling's access is done
  all_left : (v : ℕ) → ((u : ℕ) → IsEarlier opens c u v → IsDone whole u) → (u : ℕ) → IsEarlier (left_of r opens) c u v → IsDone kept u
  all_left v f u h = done_left u (f u (left_earlier r opens c u v h).0)

  left_all : (v : ℕ) → ((u : ℕ) → IsEarlier (left_of r opens) c u v → IsDone kept u) → (u : ℕ) → IsEarlier opens c u v → IsDone whole u
  left_all v f u h = go (bools (r u))
    where
      go : (r u ≡ true) ⊎ (r u ≡ false) → IsDone whole u
      go (inl t) = are.done u t (earlier_opened opens c u v h)
      go (inr k) = left_done u k (f u (earlier_left r opens c u v k h))

  write_left : (v : ℕ) → r v ≡ false → IsWriteSatisfied whole v → IsWriteSatisfied kept v
  write_left v e (write_top t f) = write_top (top_left r opens c v e t) (all_left v f)
  write_left v e (write_child {p = p} h s f) = let k = above_left p v e h in write_child (child_left r opens c p v k e h) (write_left p k s) (all_left v f)

  pub left_write : (v : ℕ) → IsWriteSatisfied kept v → IsWriteSatisfied whole v
  left_write v (write_top t f) = write_top (left_top r opens c v t) (left_all v f)
  left_write v (write_child {p = p} h s f) = write_child (left_child r opens c p v h).0 (left_write p s) (left_all v f)

  -- each that is no read
  reads_left : (v : ℕ) → ((u : ℕ) → IsEarlier opens c u v → (IsRead (mode_in opens c u) → ⊥) → IsDone whole u) → (u : ℕ) → IsEarlier (left_of r opens) c u v → (IsRead (mode_in (left_of r opens) c u) → ⊥) → IsDone kept u
  reads_left v f u h n = let k = left_earlier r opens c u v h in done_left u (f u k.0 (λ m. n (subst IsRead (sym (mode_in_left r c opens u k.1)) m)))

  left_reads : (v : ℕ) → ((u : ℕ) → IsEarlier (left_of r opens) c u v → (IsRead (mode_in (left_of r opens) c u) → ⊥) → IsDone kept u) → (u : ℕ) → IsEarlier opens c u v → (IsRead (mode_in opens c u) → ⊥) → IsDone whole u
  left_reads v f u h n = go (bools (r u))
    where
      go : (r u ≡ true) ⊎ (r u ≡ false) → IsDone whole u
      go (inl t) = are.done u t (earlier_opened opens c u v h)
      go (inr k) = left_done u k (f u (earlier_left r opens c u v k h) (λ m. n (subst IsRead (mode_in_left r c opens u k) m)))

  read_left : (v : ℕ) → r v ≡ false → IsReadSatisfied whole v → IsReadSatisfied kept v
  read_left v e (read_top t f) = read_top (top_left r opens c v e t) (reads_left v f)
  read_left v e (read_child {p = p} h s f) = let k = above_left p v e h in read_child (child_left r opens c p v k e h) (read_left p k s) (reads_left v f)

  left_read : (v : ℕ) → IsReadSatisfied kept v → IsReadSatisfied whole v
  left_read v (read_top t f) = read_top (left_top r opens c v t) (left_reads v f)
  left_read v (read_child {p = p} h s f) = read_child (left_child r opens c p v h).0 (left_read p s) (left_reads v f)

  -- each but for the run of the same reduction
  runs_left : (op : Op) (v : ℕ) → ((u : ℕ) → IsEarlier opens c u v → InRun whole op u v ⊎ IsDone whole u) → (u : ℕ) → IsEarlier (left_of r opens) c u v → InRun kept op u v ⊎ IsDone kept u
  runs_left op v f u h = go (f u k.0)
    where
      k : IsEarlier opens c u v × (r u ≡ false)
      k = left_earlier r opens c u v h

      go : InRun whole op u v ⊎ IsDone whole u → InRun kept op u v ⊎ IsDone kept u
      go (inr d) = inr (done_left u d)
      go (inl run) = inl (record {
        first = mode_in_left r c opens u k.1 ∙ run.first;
        between = λ w a b. let y = left_earlier r opens c w v b in mode_in_left r c opens w y.1 ∙ run.between w (left_earlier r opens c u w a).0 y.0;
      })

  left_runs : (op : Op) (v : ℕ) → ((u : ℕ) → IsEarlier (left_of r opens) c u v → InRun kept op u v ⊎ IsDone kept u) → (u : ℕ) → IsEarlier opens c u v → InRun whole op u v ⊎ IsDone whole u
  left_runs op v f u h = go (bools (r u))
    where
      left_between : (w : ℕ) → r u ≡ false → IsEarlier opens c u w → IsEarlier opens c w v → r w ≡ false
      left_between w k a b = pick (bools (r w))
        where
          pick : (r w ≡ true) ⊎ (r w ≡ false) → r w ≡ false
          pick (inl t) = clash (r u) (are.front u w t (earlier_opened opens c w v b) a) k
          pick (inr e) = e

      of_run : r u ≡ false → InRun kept op u v ⊎ IsDone kept u → InRun whole op u v ⊎ IsDone whole u
      of_run k (inr d) = inr (left_done u k d)
      of_run k (inl run) = inl (record {
        first = sym (mode_in_left r c opens u k) ∙ run.first;
        between = λ w a b. let e = left_between w k a b in sym (mode_in_left r c opens w e) ∙ run.between w (earlier_left r opens c u w k a) (earlier_left r opens c w v e b);
      })

      go : (r u ≡ true) ⊎ (r u ≡ false) → InRun whole op u v ⊎ IsDone whole u
      go (inl t) = inr (are.done u t (earlier_opened opens c u v h))
      go (inr k) = of_run k (f u (earlier_left r opens c u v k h))

  join_left : (op : Op) (v : ℕ) → r v ≡ false → IsJoinSatisfied whole op v → IsJoinSatisfied kept op v
  join_left op v e (join_top t f) = join_top (top_left r opens c v e t) (runs_left op v f)
  join_left op v e (join_below_fold {p = p} h m s f) =
      let k = above_left p v e h in join_below_fold (child_left r opens c p v k e h) (mode_in_left r c opens p k ∙ m) (join_left op p k s) (runs_left op v f)
  join_left op v e (join_below_write {p = p} h m s f) =
      let k = above_left p v e h in join_below_write (child_left r opens c p v k e h) (mode_in_left r c opens p k ∙ m) (write_left p k s) (runs_left op v f)

  left_join : (op : Op) (v : ℕ) → IsJoinSatisfied kept op v → IsJoinSatisfied whole op v
  left_join op v (join_top t f) = join_top (left_top r opens c v t) (left_runs op v f)
  left_join op v (join_below_fold {p = p} h m s f) =
      let k = left_child r opens c p v h in join_below_fold k.0 (sym (mode_in_left r c opens p k.1) ∙ m) (left_join op p s) (left_runs op v f)
  left_join op v (join_below_write {p = p} h m s f) =
      let k = left_child r opens c p v h in join_below_write k.0 (sym (mode_in_left r c opens p k.1) ∙ m) (left_write p s) (left_runs op v f)

  pub left_tell : (t : ℕ) (marks : Marks) → r t ≡ false → TellOfTask (left_of r opens) given c t marks → TellOfTask opens given c t marks
  left_tell t marks e tell = record {
    reads = (λ h. left_read t (tell.reads.0 h), λ s. tell.reads.1 (read_left t e s));
    writes = (λ h. left_write t (tell.writes.0 h), λ s. tell.writes.1 (write_left t e s));
    joins = λ op m. let j = tell.joins op (mode_in_left r c opens t e ∙ m) in (λ h. left_join op t (j.0 h), λ s. j.1 (join_left op t e s));
    given_up = tell.given_up;
    done = (λ h. left_done t e (tell.done.0 h), λ d. tell.done.1 (done_left t d));
    clear = (λ h. left_all t (tell.clear.0 h), λ f. tell.clear.1 (all_left t f));
  }

  pub done_by_left : (t : ℕ) → r t ≡ false → IsDone kept t ↔ IsDone whole t
  done_by_left t e = (left_done t e, done_left t)

  -- children
  pub children_by_left : (t : ℕ) → AreChildrenDone (left_of r opens) given t c ↔ AreChildrenDone opens given t c
  children_by_left t = (forth, back)
    where
      forth : AreChildrenDone (left_of r opens) given t c → AreChildrenDone opens given t c
      forth f o i p n = go (bools (r o.task))
        where
          go : (r o.task ≡ true) ⊎ (r o.task ≡ false) → IsDone whole o.task
          go (inl k) = are.done o.task k (record { entry = o; listed = i; number = refl; named = n })
          go (inr k) = left_done o.task k (f (left r o) (left_in r i) p (named_left r c o k n))

      back : AreChildrenDone opens given t c → AreChildrenDone (left_of r opens) given t c
      back f q i p n =
          let w = in_left r opens q i in
          let named = left_named r c w.entry (ap (λ (x : Open). names c x) (sym w.same) ∙ n) in
          subst (λ (x : Open). IsDone kept x.task) (sym w.same) (done_left w.entry.task (f w.entry w.listed (ap (λ (x : Open). x.parent) (sym w.same) ∙ p) named.1))

-- of an access that may write all is so, once it is done
module _ (opens : List Open) (given : ℕ → ℕ → Bool) (c : ℕ) where
  abbrev all : Forest ℕ
  all = opened_forest opens given c

  pub free_earlier : (v : ℕ) → IsWriteSatisfied all v → (u : ℕ) → IsEarlier opens c u v → IsDone all u
  free_earlier v (write_top t f) = f
  free_earlier v (write_child h s f) = f

  free_read : (v : ℕ) → IsWriteSatisfied all v → IsReadSatisfied all v
  free_read v (write_top t f) = read_top t (λ u h n. f u h)
  free_read v (write_child {p = p} h s f) = read_child h (free_read p s) (λ u k n. f u k)

  pub given_of : (v : ℕ) → IsDone all v → given v c ≡ true
  given_of v (done g f) = g

  free_join : (op : Op) → AreOrdered opens → AreCovered opens → (v : ℕ) → mode_in opens c v ≡ Fold op → IsWriteSatisfied all v → IsJoinSatisfied all op v
  free_join op ord cov v m (write_top t f) = join_top t (λ u h. inr (f u h))
  free_join op ord cov v m (write_child {p = p} h s f) = below (mode_in opens c p) refl covered (λ k. free_join op ord cov p k s)
    where
      mode_of_child : mode_at c h.opened.entry ≡ Fold op
      mode_of_child = sym (mode_is c ord h.opened.entry h.opened.listed) ∙ ap (mode_in opens c) h.opened.number ∙ m

      covered : covers (mode_in opens c p) (Fold op) ≡ true
      covered = go (cov c h.opened.entry h.opened.listed h.opened.named)
        where
          go : (h.opened.entry.parent ≡ 0) ⊎ HasCover opens c h.opened.entry → covers (mode_in opens c p) (Fold op) ≡ true
          go (inl z) = absurd (not_main ord h.above.entry h.above.listed (h.above.number ∙ sym h.parent ∙ z))
          go (inr k) =
              let mode : mode_at c k.above.entry ≡ mode_in opens c p = sym (mode_is c ord k.above.entry k.above.listed) ∙ ap (mode_in opens c) (k.above.number ∙ h.parent) in
              subst (λ (x : Mode). covers x (Fold op) ≡ true) mode (subst (λ (x : Mode). covers (mode_at c k.above.entry) x ≡ true) mode_of_child k.covered)

      below : (x : Mode) → mode_in opens c p ≡ x → covers x (Fold op) ≡ true → (mode_in opens c p ≡ Fold op → IsJoinSatisfied all op p) → IsJoinSatisfied all op v
      below Read e k again = absurd cc
      below Write e k again = join_below_write h e s (λ u b. inr (f u b))
      below (Fold other) e k again = let q = e ∙ ap Fold (op_eq_is other op k) in join_below_fold h q (again q) (λ u b. inr (f u b))

pub retired_tell : (opens : List Open) (given : ℕ → ℕ → Bool) (c : ℕ) (r : ℕ → Bool) (t : ℕ) → AreOrdered opens → AreCovered opens → AreRetired opens given c r → r t ≡ true → HasOpened opens c t → TellOfTask opens given c t all_marks
retired_tell opens given c r t ord cov are e h =
    let d = are.done t e h in
    let s = are.free t e h in
    record {
      reads = (λ k. free_read opens given c t s, λ k. refl);
      writes = (λ k. s, λ k. refl);
      joins = λ op m. (λ k. free_join opens given c op ord cov t m s, λ k. refl);
      given_up = (λ k. given_of opens given c t d, λ k. refl);
      done = (λ k. d, λ k. refl);
      clear = (λ k. free_earlier opens given c t s, λ k. refl);
    }
