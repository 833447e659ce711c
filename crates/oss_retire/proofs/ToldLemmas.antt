-- What a table from which retired accesses were left out tells of the opened tasks.
use Rattle.std.proofs.Common.{◌≡◌, ℕ, ◌<◌, ◌≤◌, refl, sym, subst, ap, ◌∙◌, List, ◌⊎◌, inl, inr, Bool, true, false, Some, ◌↔◌}
use Rattle.std.specs.Prelude.{◌||◌}
use Rattle.oss_syntax.specs.declared.access.Mode.{Mode}
use Rattle.oss_syntax.specs.declared.access.Mode.TheVariants.{Read, Write, Fold}
use Rattle.oss_model.specs.Forest.{IsDone}
use Rattle.oss_deps.specs.declared.opened.Open.{Open}
use Rattle.oss_deps.specs.Opens.{AreChildrenDone, AreCovered, AreOrdered, Asks, HasCover, HasOpened, IsEarlier, mode_at, mode_in, opened_forest}
use Rattle.oss_deps.specs.Hindrances.{HasUndoneChild, Hinders}
use Rattle.oss_deps.specs.Met.{IsBarred, IsBefore as StandsBefore, stands_above, stands_here}
use Rattle.oss_deps.specs.Wants.{is_read as reads, may_pass}
use Rattle.oss_deps.proofs.Basics.{bools}
use Rattle.oss_deps.proofs.HindranceLemmas.{read_hinders, write_hinders}
use Rattle.oss_deps.proofs.OpenLemmas.{mode_is, one_entry, precedes_in}
use Rattle.oss_access_lists.specs.declared.hang.Hang.{Hang}
use Rattle.oss_access_lists.specs.declared.marks.Marks.{Marks}
use Rattle.oss_access_lists.specs.Flags.{AreAtRest, is_over}
use Rattle.oss_access_lists.specs.Wires.{IsBelow}
use Rattle.oss_access_lists.specs.Tables.{marks_at, wires_of}
use Rattle.oss_access_lists.proofs.StepLemmas.{rest_exact}
use Rattle.oss_links.specs.Held.{AreHeld, IsAccessOf, IsAccessOrMain, IsUnder, under_main, under_task}
use Rattle.oss_links.specs.Numbers.{given_by, task_by}
use Rattle.oss_links.specs.Readings.{AreTrue, TellOfTask, is_list_done}
use Rattle.oss_links.specs.Search.{IsInTheWay, IsUndoneUpTo, passes}
use Rattle.oss_links.proofs.ChildLemmas.{is_child, last_child_tells}
use Rattle.oss_links.proofs.HeldLemmas.{list_of}
use Rattle.oss_links.proofs.ReadLemmas.{flags_tell}
use Rattle.oss_links.proofs.WayLemmas.{barred, undone_of, way_is_task}
use Rattle.oss_retire.specs.Claims.{all_marks}
use Rattle.oss_retire.specs.Retired.{AreRetired, left_of}
use Rattle.oss_retire.specs.Tables.{IsCellLeft, given_left, retired_by}
use Rattle.oss_retire.proofs.KeepLemmas.{gifts_keep}
use Rattle.oss_retire.proofs.LeftLemmas.{in_left, left_child, left_earlier, left_opened, left_ordered, mode_in_left}
use Rattle.oss_retire.proofs.TableLemmas.{entry_left, given_kept, left_entry, retired_is, task_kept}
use Rattle.oss_retire.proofs.TellLemmas.{children_by_left, done_left, left_tell, retired_tell}

-- what a read may not pass is no read
no_read : (n : Mode) (x : Marks) → passes Read n x ≡ false → reads n ≡ false
no_read Read x h = absurd cc
no_read Write x h = refl
no_read (Fold op) x h = refl

or_none : (a b : Bool) → b ≡ false → (a || b) ≡ a
or_none true b e = refl
or_none false b e = e

module _ (opens : List Open) (ord : AreOrdered opens) (given : ℕ → ℕ → Bool) (c : ℕ) (hangs : List Hang) (numbers : List ℕ) (is : IsCellLeft opens c hangs numbers) (told : (t : ℕ) → given t c ≡ given_left opens c hangs numbers t) where
  abbrev r : ℕ → Bool
  r = is.retired

  abbrev kept : List Open
  kept = left_of r opens

  are : AreRetired opens given c r
  are = gifts_keep opens (λ t k. given_left opens c hangs numbers t) given c (λ t h. told t ∙ h) r is.are

  abbrev entry : ℕ → ℕ → Type 0
  entry = IsAccessOf (task_by opens numbers)

  stays : (t v : ℕ) → entry t v → r t ≡ false
  stays t v e = (left_entry opens c hangs numbers ord r is.opened is.held t v e).1

  -- the lists of the table are those of what is left
  held : AreHeld kept given c (wires_of hangs) entry
  held = record {
    wired = old.wired;
    opened = λ t v e. old.opened t v (task_kept r opens numbers v ∙ e);
    one_number = λ t u v e f. old.one_number t u v (task_kept r opens numbers u ∙ e) (task_kept r opens numbers v ∙ f);
    one_task = λ t s v e f. old.one_task t s v (task_kept r opens numbers v ∙ e) (task_kept r opens numbers v ∙ f);
    held = λ t h. let k = old.held t h in (k.0, sym (task_kept r opens numbers k.0) ∙ k.1);
    not_main = λ t v e. old.not_main t v (task_kept r opens numbers v ∙ e);
    hung = λ p v b. let k = old.hung p v b in (k.0, sym (task_kept r opens numbers v) ∙ k.1);
    under = λ o v i n e. under_of o v (old.under o v i n (task_kept r opens numbers v ∙ e));
    order = λ a b u v p k n m e f. old.order a b u v p k n m (task_kept r opens numbers u ∙ e) (task_kept r opens numbers v ∙ f);
    mode = λ t v e. old.mode t v (task_kept r opens numbers v ∙ e);
    gave = λ t v e. gave_of t v e ∙ (sym (given_kept r opens hangs numbers t) ∙ old.gave t v (task_kept r opens numbers v ∙ e));
  }
    where
      old : AreHeld kept (λ t k. given_by kept hangs numbers t) c (wires_of hangs) (IsAccessOf (task_by kept numbers))
      old = is.held.held

      under_of : (o : Open) (v : ℕ) → IsUnder (IsAccessOf (task_by kept numbers)) (wires_of hangs) o.parent v → IsUnder entry (wires_of hangs) o.parent v
      under_of o v (under_main e b) = under_main e b
      under_of o v (under_task p q b) = under_task p (sym (task_kept r opens numbers p) ∙ q) b

      gave_of : (t v : ℕ) → entry t v → given t c ≡ given_by opens hangs numbers t
      gave_of t v e = told t ∙ or_none (given_by opens hangs numbers t) (retired_by opens numbers c t) (retired_is opens c hangs numbers ord r is.opened is.held t ∙ stays t v e)

  -- a task without an access in the table is retired
  gone : (t : ℕ) → HasOpened opens c t → ((v : ℕ) → task_by opens numbers v ≡ Some t → ⊥) → r t ≡ true
  gone t h none = go (bools (r t))
    where
      go : (r t ≡ true) ⊎ (r t ≡ false) → r t ≡ true
      go (inl e) = e
      go (inr e) = let k = entry_left opens c hangs numbers ord r is.opened is.held t e h in absurd (none k.0 k.1)

  -- all flags of its access stand
  pub gone_tells : AreCovered opens → (t : ℕ) → HasOpened opens c t → ((v : ℕ) → task_by opens numbers v ≡ Some t → ⊥) → TellOfTask opens given c t all_marks
  gone_tells covered t h none = retired_tell opens given c r t ord covered are (gone t h none) h

  -- its children's accesses are done, and so are those of a task that was not opened with the cell
  pub left_childless : AreCovered opens → (t : ℕ) → (t ≡ 0 → ⊥) → ((v : ℕ) → task_by opens numbers v ≡ Some t → ⊥) → AreChildrenDone opens given t c
  left_childless covered t main none o i e named = go (covered c o i named)
    where
      opened : HasOpened opens c o.task
      opened = record { entry = o; listed = i; number = refl; named = named }

      go : (o.parent ≡ 0) ⊎ HasCover opens c o → IsDone (opened_forest opens given c) o.task
      go (inl z) = absurd (main (sym e ∙ z))
      go (inr k) =
          let above : HasOpened opens c t = subst (λ (x : ℕ). HasOpened opens c x) e k.above in
          are.done o.task (are.below t o.task (gone t above none) (record { above = above; opened = opened; parent = e })) opened

  -- the number of an access that hangs is a task's
  pub left_hung : (p v : ℕ) → IsBelow (wires_of hangs).place p v → (t : ℕ) × (task_by opens numbers v ≡ Some t)
  left_hung p v b = held.hung p v b

  module _ (stand : List Marks) (rest : AreAtRest (wires_of hangs) (marks_at stand)) where
    -- the flags of an access in the table tell of its task
    pub left_tells : (v t : ℕ) → task_by opens numbers v ≡ Some t → TellOfTask opens given c t (marks_at stand v)
    left_tells v t e = left_tell opens given c r are t (marks_at stand v) (stays t v e) (flags_tell kept given c (wires_of hangs) entry (left_ordered r ord) held t v (marks_at stand v) e exact)
      where
        exact : AreTrue (wires_of hangs) v (marks_at stand v)
        exact f = let x = rest_exact (wires_of hangs) (marks_at stand) rest f v (list_of kept given c (wires_of hangs) entry (left_ordered r ord) held t v e) in (x.sound, x.complete)

    pub left_children : (t p : ℕ) → IsAccessOrMain entry t p → is_list_done (wires_of hangs) (marks_at stand) p ≡ true ↔ AreChildrenDone opens given t c
    left_children t p e =
        let k = last_child_tells kept given c (wires_of hangs) entry (left_ordered r ord) held t p e (marks_at stand) rest in
        let l = children_by_left opens given c r are t in (λ h. l.0 (k.0 h), λ f. k.1 (l.1 f))

    pub left_undone : (t s p x lo hi : ℕ) → IsAccessOrMain entry t p → entry s x → IsUndoneUpTo (wires_of hangs) (marks_at stand) p x → is_over (marks_at stand x) ≡ false → lo ≤ c → c < hi → HasUndoneChild opens given t lo hi s
    left_undone t s p x lo hi e f at h from before =
        let o = (left_entry opens c hangs numbers ord r is.opened is.held s x f).0 in
        let k = held.opened s x f in
        record {
          cell = c;
          from = from;
          before = before;
          entry = o.entry;
          listed = o.listed;
          number = o.number;
          parent = same_parent o k ∙ is_child kept given c (wires_of hangs) entry (left_ordered r ord) held t p e s x f at.below k;
          named = o.named;
          undone = λ d. undone_of kept given c (wires_of hangs) entry (left_ordered r ord) held (marks_at stand) rest s x f h (done_left opens given c r are s d);
        }
      where
        same_parent : (o : HasOpened opens c s) (k : HasOpened kept c s) → o.entry.parent ≡ k.entry.parent
        same_parent o k =
            let w = in_left r opens k.entry k.listed in
            ap (λ (y : Open). y.parent) (one_entry ord o.entry w.entry o.listed w.listed (o.number ∙ (sym k.number ∙ ap (λ (y : Open). y.task) w.same))) ∙ ap (λ (y : Open). y.parent) (sym w.same)

    -- what stands before an access among those that are left does so among all
    before_whole : (want : _) (s t : ℕ) → StandsBefore kept c want s t → StandsBefore opens c want s t
    before_whole want s t (stands_here e m) = let k = left_earlier r opens c s t e in stands_here k.0 (subst (λ (x : Mode). may_pass want x false ≡ false) (mode_of k.0 k.1) m)
      where
        mode_of : (k : IsEarlier opens c s t) → r s ≡ false → mode_at c e.before ≡ mode_at c k.before
        mode_of k f =
            sym (mode_is c (left_ordered r ord) e.before (precedes_in e.order))
            ∙ (ap (mode_in kept c) e.number ∙ (mode_in_left r c opens s f ∙ (ap (mode_in opens c) (sym k.number) ∙ mode_is c ord k.before (precedes_in k.order))))
    before_whole want s t (stands_above {p = p} h b) = stands_above (left_child r opens c p t h).0 (before_whole want s p b)

    barred_whole : (want : _) (s t : ℕ) → IsBarred kept given c want s t → IsBarred opens given c want s t
    barred_whole want s t b = record { opened = (left_opened r opens c s b.opened).0; undone = λ d. b.undone (done_left opens given c r are s d); before = before_whole want s t b.before }

    -- an access in the way hinders the task
    pub left_hinders : (m : Mode) (t s v u : ℕ) → entry t v → entry s u → Asks opens t c m → IsInTheWay (wires_of hangs) (marks_at stand) m v u → Hinders opens given t s
    left_hinders Read t s v u e f asks way =
        read_hinders opens given c t s asks (barred_whole _ s t (barred kept given c (wires_of hangs) entry (left_ordered r ord) held (marks_at stand) rest _ Read t s v u (λ n h. no_read n (marks_at stand u) h) e f way))
    left_hinders Write t s v u e f asks way =
        write_hinders opens given c t s asks (barred_whole _ s t (barred kept given c (wires_of hangs) entry (left_ordered r ord) held (marks_at stand) rest _ Write t s v u (λ n h. refl) e f way))
    left_hinders (Fold op) t s v u e f asks way = absurd (let h = way.stops in cc)

    pub left_way : (m : Mode) (t v u : ℕ) → entry t v → IsInTheWay (wires_of hangs) (marks_at stand) m v u → (s : ℕ) × (task_by opens numbers u ≡ Some s)
    left_way m t v u e way = way_is_task kept given c (wires_of hangs) entry (left_ordered r ord) held (marks_at stand) m t v u e way
