-- The book holds what was opened, also while a task is written into it.
use Rattle.std.proofs.Common.{◌≡◌, ℕ, suc, ◌<◌, ◌≤◌, ◌+◌, ◌⊎◌, inl, inr, refl, sym, ap, subst, ◌∙◌, Bool, true, false, List, [], ◌∷◌, ◌++◌, Option, Some, None, length, arith, eq-eqb, eqb-true, length-append}
use Rattle.std.specs.Prelude.{slice_get, ◌==◌}
use Rattle.oss_syntax.specs.declared.access.Access.{Access}
use Rattle.oss_syntax.specs.declared.access.Mode.{Mode}
use Rattle.oss_model.specs.Order.{IsIn}
use Rattle.oss_model.specs.Rights.{covers}
use Rattle.oss_deps.specs.declared.opened.Open.{Open}
use Rattle.oss_deps.specs.Opens.{AreOpens, AreOrdered, HasOpened, IsKnown, IsNested, IsOpened, access_at, child, main, mode_at, names}
use Rattle.oss_deps.specs.Seen.{CanOpen, Seen}
use Rattle.oss_deps.proofs.Basics.{some_is}
use Rattle.oss_deps.proofs.NewLemmas.{rising_once}
use Rattle.oss_deps.proofs.OpenLemmas.{bounds_in, get_in, named_at, not_main, one_entry}
use Rattle.oss_access_lists.specs.Wires.{IsBelow}
use Rattle.oss_access_lists.proofs.StepLemmas.{same_or}
use Rattle.oss_links.specs.Held.{AreHeld, IsAccessOf, IsAccessOrMain, with_task}
use Rattle.oss_links.proofs.ClaimLemmas.{alike_hold, creators_are_held, creators_hold, openings_hold}
use Rattle.oss_word_deps.specs.declared.entry.Entry.{Entry}
use Rattle.oss_word_deps.specs.declared.entry.Job.{Job}
use Rattle.oss_word_deps.specs.Asked.{IsRowOf}
use Rattle.oss_word_deps.specs.Booked.{AreJobs, IsJob, IsOfAccess, IsOfOpen}
use Rattle.oss_word_deps.specs.Growing.{HasNew, IsCreator, IsGrowing, IsOpening, IsParent, MayAdd, grown, new_entry, of_main, of_task}
use Rattle.oss_word_deps.specs.Ledger.{Ledger, entry_of, last_of, lists_of, row, task_in, task_of}
use Rattle.oss_word_deps.specs.Sound.{Fits, IsSound}
use Rattle.oss_word_deps.proofs.GrowLemmas.{IsParentRow, hung, others_alike, others_tasks}
use Rattle.oss_word_deps.proofs.LedgerLemmas.{entry_added, entry_end, entry_kept, entry_within, in_cell_is, last_length, main_length, none_not, row_entry, row_front, row_is}
use Rattle.oss_word_deps.proofs.SoundLemmas.{fits_kept, new_fits, row_below}

-- how deep a task is nested, in one way
nested_view : (opens : List Open) (t a : ℕ) → IsNested opens t a → ((t ≡ 0) × (a ≡ 0)) ⊎ ((o : Open) × IsIn o opens × (o.task ≡ t) × (d : ℕ) × (a ≡ suc d) × IsNested opens o.parent d)
nested_view opens t a main = inl (refl, refl)
nested_view opens t a (child o d i n) = inr (o, i, refl, d, refl, n)

pub one_depth : (opens : List Open) → AreOrdered opens → (t a b : ℕ) → IsNested opens t a → IsNested opens t b → a ≡ b
one_depth opens ord t a b main m = sym (go 0 refl (nested_view opens 0 b m))
  where
    go : (z : ℕ) → z ≡ 0 → ((z ≡ 0) × (b ≡ 0)) ⊎ ((o : Open) × IsIn o opens × (o.task ≡ z) × (d : ℕ) × (b ≡ suc d) × IsNested opens o.parent d) → b ≡ 0
    go z h (inl (_, e)) = e
    go z h (inr (o, i, k, _, _, _)) = absurd (not_main ord o i (k ∙ h))
one_depth opens ord t a b (child o d i n) m = go (λ (e : ℕ) r. one_depth opens ord o.parent d e n r) (nested_view opens o.task b m)
  where
    go : ((e : ℕ) → IsNested opens o.parent e → d ≡ e) → ((o.task ≡ 0) × (b ≡ 0)) ⊎ ((q : Open) × IsIn q opens × (q.task ≡ o.task) × (e : ℕ) × (b ≡ suc e) × IsNested opens q.parent e) → suc d ≡ b
    go again (inl (z, _)) = absurd (not_main ord o i z)
    go again (inr (q, j, s, e, k, r)) =
        let same : q ≡ o = one_entry ord q o j i s in
        ap suc (again e (subst (λ (p : Open). IsNested opens p.parent e) same r)) ∙ sym k

-- the entry of a task's access is a row of its cell
pub row_task : (entries : List Entry) (c t v : ℕ) → task_of entries c v ≡ Some t → IsRowOf entries c t v
row_task entries c t v h = go (row entries c v) refl
  where
    go : (r : Option Entry) → row entries c v ≡ r → IsRowOf entries c t v
    go None k = absurd (none_not (ap task_in k) h)
    go (Some e) k =
        let is = row_entry entries c v e k in
        record { entry = e; is = is.0; task = some_is (sym (ap task_in k) ∙ h); cell = is.1 }

pub task_row : (entries : List Entry) (c t v : ℕ) → IsRowOf entries c t v → task_of entries c v ≡ Some t
task_row entries c t v r = ap task_in (row_is entries c v r.entry r.is r.cell) ∙ ap (λ (x : ℕ). Some x) r.task

-- all that hangs is of the book
pub listed_within : (s : Seen) (c : ℕ) (l : Ledger) → IsSound l → (q v : ℕ) → IsBelow (lists_of l c).place q v → v ≤ length l.entries
listed_within s c l sound q v b = let y = row_below l sound c q v b in (entry_within l.entries v y.0 (row_entry l.entries c v y.0 y.1).0).1

-- a task that was opened is none that may be
pub fresh_task : (s : Seen) (o q : Open) → CanOpen s o → IsIn q s.opens → q.task ≡ o.task → ⊥
fresh_task s o q can i e = can.fresh (record { entry = q; listed = i; number = e })

-- an entry's access and those of another open
pub job_kept : (entries : List Entry) (x : Entry) (job : Job) → (x.task ≡ job.task → ⊥) → IsJob entries job → IsJob (entries ++ x ∷ []) job
job_kept entries x job n is = record {
  from = is.from;
  upto = is.upto;
  within = (let h : length (entries ++ x ∷ []) ≡ length entries + 1 = length-append entries (x ∷ []) in omega (arith, h, is.within));
  of_task = λ v e a b h. is.of_task v e a b (old v e b h);
  all = λ v e h t. all v e h t;
  rising = λ u v d e a b f g h. is.rising u v d e a b f (old u d (omega (arith, b, f)) g) (old v e f h);
}
  where
    old : (v : ℕ) (e : Entry) → v < job.end → entry_of (entries ++ x ∷ []) v ≡ Some e → entry_of entries v ≡ Some e
    old v e b h = go (entry_added entries x v e h)
      where
        go : (entry_of entries v ≡ Some e) ⊎ ((v ≡ suc (length entries)) × (e ≡ x)) → entry_of entries v ≡ Some e
        go (inl k) = k
        go (inr (z, _)) = absurd (omega (arith, z, b, is.within))

    all : (v : ℕ) (e : Entry) → entry_of (entries ++ x ∷ []) v ≡ Some e → e.task ≡ job.task → (job.first ≤ v) × (v < job.end)
    all v e h t = go (entry_added entries x v e h)
      where
        go : (entry_of entries v ≡ Some e) ⊎ ((v ≡ suc (length entries)) × (e ≡ x)) → (job.first ≤ v) × (v < job.end)
        go (inl k) = is.all v e k t
        go (inr (_, s)) = absurd (n (ap (λ (y : Entry). y.task) (sym s) ∙ t))

-- the task of a job was opened
pub job_opened : (opens : List Open) (l : Ledger) → AreJobs opens l → (n : ℕ) (job : Job) → slice_get l.jobs n ≡ Some job → (o : Open) × (slice_get opens n ≡ Some o) × (job.task ≡ o.task) × IsNested opens o.task job.depth
job_opened opens l jobs n job h =
    let w = Rattle.oss_word_deps.proofs.LedgerLemmas.get_within l.jobs n job h in
    let o = Rattle.oss_word_deps.proofs.LedgerLemmas.get_there opens n (omega (arith, w, jobs.size)) in
    let r = jobs.tasks n o.0 job o.1 h in
    (o.0, o.1, r.0, r.1)

module _ (s : Seen) (o : Open) (depth first upto : ℕ) (creator : Option Job) (access : Access) (cell : ℕ) (l : Ledger) (may : MayAdd s o depth first upto creator access cell l) where
  ord : AreOrdered s.opens
  ord = may.opening.opens_are.ordered

  -- the access names the cell
  at_cell : access_at o.accesses cell ≡ Some access
  at_cell = rising_once o.accesses may.opening.can.rising access cell may.listed (bounds_in access cell may.from may.before)

  pub named : names cell o ≡ true
  named = named_at o cell access at_cell

  mode_here : mode_at cell o ≡ access.mode
  mode_here = ap Rattle.oss_deps.specs.Opens.mode_of_access at_cell

  -- it has no entry yet
  pub is_new : HasNew l.entries first cell → ⊥
  is_new h = let r = (may.growing.of_new h.number h.entry h.from h.is).2 in omega (arith, r, h.cell, may.behind)

  pub held_here : AreHeld s.opens s.given cell (lists_of l cell) (IsAccessOf (task_of l.entries cell))
  held_here = may.growing.old cell is_new

  -- the parent, as it is found
  pub parent_none : creator ≡ None → IsParent l o.parent cell 0
  parent_none e = of_main (subst (λ (k : Option Job). IsCreator l.jobs k o.parent depth) e may.opening.creator_is).0

  pub parent_some : (job : Job) → creator ≡ Some job → (v : ℕ) → IsRowOf l.entries cell job.task v → IsParent l o.parent cell v
  parent_some job e v r =
      let k = subst (λ (k : Option Job). IsCreator l.jobs k o.parent depth) e may.opening.creator_is in
      of_task (task_row l.entries cell job.task v r ∙ ap (λ (x : ℕ). Some x) k.2)

  pub creator_job : (job : Job) → creator ≡ Some job → IsJob l.entries job
  creator_job job e = let k = subst (λ (k : Option Job). IsCreator l.jobs k o.parent depth) e may.opening.creator_is in may.growing.jobs.are k.0 job k.1

  pub parent_there : (job : Job) → creator ≡ Some job → ((v : ℕ) → IsRowOf l.entries cell job.task v → ⊥) → ⊥
  parent_there job e none = go (creators_are_held s cell (lists_of l cell) (task_of l.entries cell) o held_here may.opening.can named)
    where
      k : (n : ℕ) × (slice_get l.jobs n ≡ Some job) × (job.task ≡ o.parent) × (depth ≡ 1 + job.depth)
      k = subst (λ (k : Option Job). IsCreator l.jobs k o.parent depth) e may.opening.creator_is

      go : (p : ℕ) × IsAccessOrMain (IsAccessOf (task_of l.entries cell)) o.parent p → ⊥
      go (p, inl (z, _)) = let j = job_opened s.opens l may.growing.jobs k.0 job k.1 in not_main ord j.0 (get_in s.opens k.0 j.0 j.1) (sym j.2 ∙ (k.2 ∙ z))
      go (p, inr r) = none p (row_task l.entries cell job.task p (r ∙ ap (λ (x : ℕ). Some x) (sym k.2)))

  module _ (p : ℕ) (parent : IsParent l o.parent cell p) where
    abbrev pub x : Entry
    x = new_entry l o.task depth p first access cell

    abbrev pub n : Ledger
    n = grown l p x

    w : AreHeld s.opens s.given cell (lists_of l cell) (IsAccessOf (task_of l.entries cell))
    w = held_here

    parent_row : IsParentRow l cell p
    parent_row = go p parent
      where
        go : (q : ℕ) → IsParent l o.parent cell q → IsParentRow l cell q
        go q (of_main z) = inl refl
        go q (of_task h) = let r = row_task l.entries cell o.parent q h in inr (r.entry, row_is l.entries cell q r.entry r.is r.cell)

    under : IsAccessOrMain (IsAccessOf (task_of l.entries cell)) o.parent p
    under = go p parent
      where
        go : (q : ℕ) → IsParent l o.parent cell q → IsAccessOrMain (IsAccessOf (task_of l.entries cell)) o.parent q
        go q (of_main z) = inl (z, refl)
        go q (of_task h) = inr h

    lends : ((lists_of l cell).gave p ≡ false) × (covers ((lists_of l cell).mode p) (mode_at cell o) ≡ true)
    lends = creators_hold s cell (lists_of l cell) (task_of l.entries cell) o p ord w may.opening.can named under

    covered : covers ((lists_of l cell).mode p) access.mode ≡ true
    covered = subst (λ (m : Mode). covers ((lists_of l cell).mode p) m ≡ true) mode_here lends.1

    -- a job's task is not main
    not_main_job : (job : Job) (m : ℕ) → slice_get l.jobs m ≡ Some job → job.task ≡ 0 → ⊥
    not_main_job job m h z = let j = job_opened s.opens l may.growing.jobs m job h in not_main ord j.0 (get_in s.opens m j.0 j.1) (sym j.2 ∙ z)

    which : ((p ≡ 0) × (o.parent ≡ 0)) ⊎ (task_of l.entries cell p ≡ Some o.parent)
    which = go p parent
      where
        go : (q : ℕ) → IsParent l o.parent cell q → ((q ≡ 0) × (o.parent ≡ 0)) ⊎ (task_of l.entries cell q ≡ Some o.parent)
        go q (of_main m) = inl (refl, m)
        go q (of_task h) = inr h

    top : p ≡ 0 → depth ≡ 1
    top z = go which creator refl may.opening.creator_is
      where
        go : ((p ≡ 0) × (o.parent ≡ 0)) ⊎ (task_of l.entries cell p ≡ Some o.parent) → (k : Option Job) → creator ≡ k → IsCreator l.jobs k o.parent depth → depth ≡ 1
        go (inr h) k e is = absurd (none_not (ap (task_of l.entries cell) z) h)
        go (inl (_, m)) None e is = is.1
        go (inl (_, m)) (Some job) e is = absurd (not_main_job job is.0 is.1 (is.2 ∙ m))

    deep : (y : Entry) → row l.entries cell p ≡ Some y → depth ≡ 1 + y.info.depth
    deep y h = go which creator refl may.opening.creator_is
      where
        go : ((p ≡ 0) × (o.parent ≡ 0)) ⊎ (task_of l.entries cell p ≡ Some o.parent) → (k : Option Job) → creator ≡ k → IsCreator l.jobs k o.parent depth → depth ≡ 1 + y.info.depth
        go (inl (z, m)) k e is = absurd (none_not (ap (row l.entries cell) z) h)
        go (inr t) None e is = absurd ((w.not_main o.parent p t).0 is.0)
        go (inr t) (Some job) e is =
            let at = row_entry l.entries cell p y h in
            let task : y.task ≡ job.task = some_is (sym (ap task_in h) ∙ t) ∙ sym is.2 in
            let j = may.growing.jobs.are is.0 job is.1 in
            let a = j.all p y at.0 task in
            is.3 ∙ ap (λ (d : ℕ). 1 + d) (sym (j.of_task p y a.0 a.1 at.0).1)

    within : cell < length l.mains
    within = omega (arith, may.before, access.range.within, may.growing.sound.mains)

    hangs : Rattle.oss_access_lists.specs.Steps.IsHung (lists_of l cell) (lists_of n cell) p (suc (length l.entries))
    hangs = hung l may.growing.sound x p parent_row refl within w.wired (listed_within s cell l may.growing.sound) lends.0 covered

    fits : Fits n.entries (suc (length l.entries)) x
    fits = new_fits l may.growing.sound x p parent_row refl top deep may.opening.shallow may.few refl w.wired covered

    not_given : s.given o.task cell ≡ false
    not_given = go (s.given o.task cell) refl
      where
        go : (b : Bool) → s.given o.task cell ≡ b → b ≡ false
        go false e = refl
        go true e = let h = may.opening.given_by o.task cell e in absurd (fresh_task s o h.entry may.opening.can h.listed h.number)

    here : row n.entries cell (suc (length l.entries)) ≡ Some x
    here = row_is n.entries cell (suc (length l.entries)) x (entry_end l.entries x) refl

    tasks_new : (v : ℕ) → task_of n.entries cell v ≡ with_task (task_of l.entries cell) o.task (suc (length l.entries)) v
    tasks_new v = go (v == suc (length l.entries)) refl
      where
        go : (b : Bool) → (v == suc (length l.entries)) ≡ b → task_of n.entries cell v ≡ with_task (task_of l.entries cell) o.task (suc (length l.entries)) v
        go true e = rw e (subst (λ (u : ℕ). task_of n.entries cell u ≡ Some o.task) (sym (eqb-true v (suc (length l.entries)) e)) (ap task_in here))
        go false e = rw e (ap task_in (row_front l.entries x cell v (λ z. no e z)))
          where
            no : (v == suc (length l.entries)) ≡ false → v ≡ suc (length l.entries) → ⊥
            no f z = let h : true ≡ false = sym (eq-eqb v (suc (length l.entries)) z) ∙ f in cc

    new_held : AreHeld (s.opens ++ o ∷ []) s.given cell (lists_of n cell) (IsAccessOf (task_of n.entries cell))
    new_held =
        alike_hold (s.opens ++ o ∷ []) s.given s.given cell (lists_of n cell) (lists_of n cell) (with_task (task_of l.entries cell) o.task (suc (length l.entries))) (task_of n.entries cell)
        (openings_hold s.opens s.given cell (lists_of l cell) (lists_of n cell) (task_of l.entries cell) o p (suc (length l.entries)) w hangs is)
        (record { places = λ v. refl; lasts = λ v. refl; modes = λ v. refl; gave = λ v. refl }) (λ t. refl) tasks_new
      where
        is : Rattle.oss_links.specs.Held.IsNewAccess s.opens s.given cell (lists_of n cell) (IsAccessOf (task_of l.entries cell)) o p (suc (length l.entries))
        is = record { named = named; fresh = may.opening.can.fresh; not_main = may.opening.can.not_main; not_given = not_given; creator = under; mode = ap Rattle.oss_word_deps.specs.Ledger.mode_of here ∙ sym mode_here }

    other_held : (opens : List Open) (c : ℕ) → (cell ≡ c → ⊥) → AreHeld opens s.given c (lists_of l c) (IsAccessOf (task_of l.entries c)) → AreHeld opens s.given c (lists_of n c) (IsAccessOf (task_of n.entries c))
    other_held opens c d h =
        alike_hold opens s.given s.given c (lists_of l c) (lists_of n c) (task_of l.entries c) (task_of n.entries c) h (others_alike l may.growing.sound x p parent_row c d) (λ t. refl) (others_tasks l may.growing.sound x p parent_row c d)

    -- a new entry is one of before, or this
    new_before : (c : ℕ) → (cell ≡ c → ⊥) → HasNew n.entries first c → HasNew l.entries first c
    new_before c d h = go (entry_added l.entries x h.number h.entry h.is)
      where
        go : (entry_of l.entries h.number ≡ Some h.entry) ⊎ ((h.number ≡ suc (length l.entries)) × (h.entry ≡ x)) → HasNew l.entries first c
        go (inl k) = record { number = h.number; entry = h.entry; from = h.from; is = k; cell = h.cell }
        go (inr (_, k)) = absurd (d (ap (λ (y : Entry). y.cell) (sym k) ∙ h.cell))

    pub new_kept : (c : ℕ) → HasNew l.entries first c → HasNew n.entries first c
    new_kept c h = record { number = h.number; entry = h.entry; from = h.from; is = entry_kept l.entries x h.number h.entry h.is; cell = h.cell }

    pub new_here : HasNew n.entries first cell
    new_here = record { number = suc (length l.entries); entry = x; from = (let f = may.growing.from.1 in omega (arith, f)); is = entry_end l.entries x; cell = refl }

    held_new : (c : ℕ) → HasNew n.entries first c → AreHeld (s.opens ++ o ∷ []) s.given c (lists_of n c) (IsAccessOf (task_of n.entries c))
    held_new c h = go (same_or cell c)
      where
        go : (cell ≡ c) ⊎ (cell ≡ c → ⊥) → AreHeld (s.opens ++ o ∷ []) s.given c (lists_of n c) (IsAccessOf (task_of n.entries c))
        go (inl z) = subst (λ (c : ℕ). AreHeld (s.opens ++ o ∷ []) s.given c (lists_of n c) (IsAccessOf (task_of n.entries c))) z new_held
        go (inr d) = other_held (s.opens ++ o ∷ []) c d (may.growing.new c (new_before c d h))

    held_old : (c : ℕ) → (HasNew n.entries first c → ⊥) → AreHeld s.opens s.given c (lists_of n c) (IsAccessOf (task_of n.entries c))
    held_old c h = other_held s.opens c (λ z. h (subst (λ (c : ℕ). HasNew n.entries first c) z new_here)) (may.growing.old c (λ k. h (new_kept c k)))

    sound_now : IsSound n
    sound_now = record {
      fits = all;
      marks = (let a = length-append (Rattle.oss_word_deps.specs.Growing.with_last l.marks p (suc (length l.entries))) (Rattle.oss_word_deps.specs.Ledger.no_mark ∷ []) in let b = last_length l.marks p (suc (length l.entries)) in let c = length-append l.entries (x ∷ []) in omega (arith, a, b, c, may.growing.sound.marks));
      mains = main_length l.mains p cell (suc (length l.entries)) ∙ may.growing.sound.mains;
    }
      where
        all : (v : ℕ) (y : Entry) → entry_of n.entries v ≡ Some y → Fits n.entries v y
        all v y h = go (entry_added l.entries x v y h)
          where
            go : (entry_of l.entries v ≡ Some y) ⊎ ((v ≡ suc (length l.entries)) × (y ≡ x)) → Fits n.entries v y
            go (inl k) = fits_kept l.entries x v y (entry_within l.entries v y k).1 (may.growing.sound.fits v y k)
            go (inr (z, k)) = subst (λ (u : ℕ). Fits n.entries u y) (sym z) (subst (λ (y : Entry). Fits n.entries (suc (length l.entries)) y) (sym k) fits)

    of_now : (v : ℕ) (e : Entry) → first ≤ v → entry_of n.entries v ≡ Some e → IsOfAccess o e × (e.info.depth ≡ depth) × (e.cell < cell + 1)
    of_now v e f h = go (entry_added l.entries x v e h)
      where
        new : IsOfAccess o x × (x.info.depth ≡ depth) × (x.cell < cell + 1)
        new = (record { task = refl; access = access; at_ = at_cell; mode = refl; strong = refl }, refl, omega arith)

        go : (entry_of l.entries v ≡ Some e) ⊎ ((v ≡ suc (length l.entries)) × (e ≡ x)) → IsOfAccess o e × (e.info.depth ≡ depth) × (e.cell < cell + 1)
        go (inl k) = let r = may.growing.of_new v e f k in (r.0, r.1, (let s = r.2 in omega (arith, s, may.behind)))
        go (inr (_, k)) = subst (λ (y : Entry). IsOfAccess o y × (y.info.depth ≡ depth) × (y.cell < cell + 1)) (sym k) new

    rising_now : (u v : ℕ) (d e : Entry) → first ≤ u → u < v → entry_of n.entries u ≡ Some d → entry_of n.entries v ≡ Some e → d.cell < e.cell
    rising_now u v d e f less g h = go (entry_added l.entries x u d g) (entry_added l.entries x v e h)
      where
        go : (entry_of l.entries u ≡ Some d) ⊎ ((u ≡ suc (length l.entries)) × (d ≡ x)) → (entry_of l.entries v ≡ Some e) ⊎ ((v ≡ suc (length l.entries)) × (e ≡ x)) → d.cell < e.cell
        go (inl a) (inl b) = may.growing.rising u v d e f less a b
        go (inl a) (inr (_, b)) = subst (λ (y : Entry). d.cell < y.cell) (sym b) (let r = (may.growing.of_new u d f a).2 in omega (arith, r, may.behind))
        go (inr (z, _)) (inl b) = let r = (entry_within l.entries v e b).1 in absurd (omega (arith, r, less, z))
        go (inr (z, _)) (inr (y, _)) = absurd (omega (arith, less, z, y))

    of_before : (v : ℕ) (e : Entry) → v < first → entry_of n.entries v ≡ Some e → IsOfOpen s.opens e
    of_before v e f h = go (entry_added l.entries x v e h)
      where
        go : (entry_of l.entries v ≡ Some e) ⊎ ((v ≡ suc (length l.entries)) × (e ≡ x)) → IsOfOpen s.opens e
        go (inl k) = may.growing.of_old v e f k
        go (inr (z, _)) = let b = may.growing.from.1 in absurd (omega (arith, z, f, b))

    jobs_now : AreJobs s.opens n
    jobs_now = record {
      size = may.growing.jobs.size;
      tasks = may.growing.jobs.tasks;
      are = λ m job h. job_kept l.entries x job (other m job h) (may.growing.jobs.are m job h);
    }
      where
        other : (m : ℕ) (job : Job) → slice_get l.jobs m ≡ Some job → o.task ≡ job.task → ⊥
        other m job h z = let j = job_opened s.opens l may.growing.jobs m job h in fresh_task s o j.0 may.opening.can (get_in s.opens m j.0 j.1) (sym j.2 ∙ sym z)

    pub grows : IsGrowing s o depth first (cell + 1) n
    grows = record {
      sound = sound_now;
      new = held_new;
      old = held_old;
      of_old = of_before;
      of_new = of_now;
      rising = rising_now;
      jobs = jobs_now;
      from = (may.growing.from.0, (let f = may.growing.from.1 in let c = length-append l.entries (x ∷ []) in omega (arith, f, c)));
    }
