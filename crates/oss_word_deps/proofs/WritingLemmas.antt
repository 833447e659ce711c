-- A task is written into the book, a cell and an access at a time.
use Rattle.std.proofs.Common.{◌≡◌, ℕ, suc, ◌<◌, ◌≤◌, ◌+◌, ◌⊎◌, inl, inr, refl, sym, ap, subst, ◌∙◌, true, false, List, [], ◌∷◌, ◌++◌, Option, Some, None, length, arith, length-append}
use Rattle.std.specs.Prelude.{slice_get}
use Rattle.oss_syntax.specs.declared.access.Access.{Access}
use Rattle.oss_model.specs.Order.{IsIn}
use Rattle.oss_deps.specs.declared.opened.Open.{Open}
use Rattle.oss_deps.specs.Opens.{AreOpens, AreOrdered, HasOpened, IsNested, IsRising, access_at, child, main, names}
use Rattle.oss_deps.specs.Seen.{Opens, Seen}
use Rattle.oss_deps.proofs.Basics.{bools, clash, compared, some_is}
use Rattle.oss_deps.proofs.NewLemmas.{opens_added}
use Rattle.oss_deps.proofs.OpenLemmas.{access_found, in_bounds, in_front, in_last, named_at}
use Rattle.oss_access_lists.proofs.StepLemmas.{same_or}
use Rattle.oss_links.specs.Held.{AreHeld, IsAccessOf}
use Rattle.oss_links.proofs.AlikeLemmas.{held_told}
use Rattle.oss_links.proofs.GrowLemmas.{held_aside}
use Rattle.oss_word_deps.specs.declared.entry.Entry.{Entry}
use Rattle.oss_word_deps.specs.declared.entry.Job.{Job}
use Rattle.oss_word_deps.specs.Booked.{AreJobs, IsBooked, IsJob, IsOfOpen}
use Rattle.oss_word_deps.specs.Growing.{HasAdded, HasNew, IsCreator, IsFrontOf, IsGrowing, IsOpening, IsParent, MayAdd, MayExtend, grown, new_entry}
use Rattle.oss_word_deps.specs.Ledger.{Ledger, entry_of, lists_of, task_of}
use Rattle.oss_word_deps.specs.Sound.{IsSound}
use Rattle.oss_word_deps.proofs.BookedLemmas.{fresh_task, grows, job_opened, new_here, new_kept, one_depth, parent_there}
use Rattle.oss_word_deps.proofs.LedgerLemmas.{entry_added, entry_end, entry_kept, entry_within, get_end, get_front, get_there, get_within, grown_given, none_not}

-- the same from a later cell on
pub growing_later : (s : Seen) (o : Open) (depth first u v : ℕ) (l : Ledger) → u ≤ v → IsGrowing s o depth first u l → IsGrowing s o depth first v l
growing_later s o depth first u v l h g = record {
  sound = g.sound;
  new = g.new;
  old = g.old;
  of_old = g.of_old;
  of_new = λ w e a b. let r = g.of_new w e a b in (r.0, r.1, (let q = r.2 in omega (arith, q, h)));
  rising = g.rising;
  jobs = g.jobs;
  from = g.from;
}

pub front_refl : (l : Ledger) → IsFrontOf l l
front_refl l = record { entries = λ v e h. h; back = λ v e h k. k; given = λ v. refl }

-- a book in front of another has no more entries
pub front_length : (l n : Ledger) → IsFrontOf l n → length l.entries ≤ length n.entries
front_length l n f = go (compared (length n.entries) (length l.entries))
  where
    go : (length n.entries < length l.entries) ⊎ ((length n.entries ≡ length l.entries) ⊎ (length l.entries < length n.entries)) → length l.entries ≤ length n.entries
    go (inr (inl h)) = omega (arith, h)
    go (inr (inr h)) = omega (arith, h)
    go (inl h) =
        let e = Rattle.oss_word_deps.proofs.LedgerLemmas.entry_there l.entries (length l.entries) (omega (arith, h)) (omega arith) in
        let k = (entry_within n.entries (length l.entries) e.0 (f.entries (length l.entries) e.0 e.1)).1 in
        absurd (omega (arith, h, k))

-- before the first cell
pub none_added : (first : ℕ) (access : Access) (l : Ledger) → HasAdded first access access.range.lo l l
none_added first access l = record {
  front = front_refl l;
  jobs = refl;
  added = λ c a b. absurd (omega (arith, a, b));
  kept = λ c h. h;
  count = refl;
}

-- the next cell
pub may_on : (s : Seen) (o : Open) (depth first lo cell : ℕ) (creator : Option Job) (access : Access) (l n : Ledger) → MayAdd s o depth first lo creator access access.range.lo l
    → IsGrowing s o depth first cell n → HasAdded first access cell l n → access.range.lo ≤ cell → cell < access.range.hi → MayAdd s o depth first cell creator access cell n
may_on s o depth first lo cell creator access l n may growing added from before = record {
  opening = record {
    opens_are = may.opening.opens_are;
    can = may.opening.can;
    given_by = may.opening.given_by;
    shallow = may.opening.shallow;
    creator_is = subst (λ (jobs : List Job). IsCreator jobs creator o.parent depth) (sym added.jobs) may.opening.creator_is;
  };
  growing = growing;
  few = may.few;
  listed = may.listed;
  from = from;
  before = before;
  behind = omega arith;
}

pub added_on : (s : Seen) (o : Open) (depth first cell : ℕ) (creator : Option Job) (access : Access) (l n : Ledger) (p : ℕ) (may : MayAdd s o depth first cell creator access cell n)
    → HasAdded first access cell l n → access.range.lo ≤ cell → (parent : IsParent n o.parent cell p) → HasAdded first access (cell + 1) l (grown n p (new_entry n o.task depth p first access cell))
added_on s o depth first cell creator access l n p may added from parent = record {
  front = record {
    entries = λ v e h. entry_kept n.entries x v e (added.front.entries v e h);
    back = back;
    given = λ v. grown_given n.marks p (suc (length n.entries)) v p_within ∙ added.front.given v;
  };
  jobs = added.jobs;
  added = cells;
  kept = λ c h. new_kept s o depth first cell creator access cell n may p parent c (added.kept c h);
  count = (let a = length-append n.entries (x ∷ []) in omega (arith, a, added.count));
}
  where
    x : Entry
    x = new_entry n o.task depth p first access cell

    p_within : p ≤ length n.marks
    p_within = go p parent
      where
        go : (q : ℕ) → IsParent n o.parent cell q → q ≤ length n.marks
        go q (Rattle.oss_word_deps.specs.Growing.of_main z) = omega arith
        go q (Rattle.oss_word_deps.specs.Growing.of_task h) =
            let r = Rattle.oss_word_deps.proofs.BookedLemmas.row_task n.entries cell o.parent q h in
            let w = (entry_within n.entries q r.entry r.is).1 in
            omega (arith, w, may.growing.sound.marks)

    back : (v : ℕ) (e : Entry) → v ≤ length l.entries → entry_of (n.entries ++ x ∷ []) v ≡ Some e → entry_of l.entries v ≡ Some e
    back v e within h = go (entry_added n.entries x v e h)
      where
        go : (entry_of n.entries v ≡ Some e) ⊎ ((v ≡ suc (length n.entries)) × (e ≡ x)) → entry_of l.entries v ≡ Some e
        go (inl k) = added.front.back v e within k
        go (inr (z, _)) = let f = front_length l n added.front in absurd (omega (arith, z, f, within))

    cells : (c : ℕ) → access.range.lo ≤ c → c < cell + 1 → HasNew (n.entries ++ x ∷ []) first c
    cells c a b = go (compared c cell)
      where
        go : (c < cell) ⊎ ((c ≡ cell) ⊎ (cell < c)) → HasNew (n.entries ++ x ∷ []) first c
        go (inl h) = new_kept s o depth first cell creator access cell n may p parent c (added.added c a h)
        go (inr (inl h)) = subst (λ (c : ℕ). HasNew (n.entries ++ x ∷ []) first c) (sym h) (new_here s o depth first cell creator access cell n may p parent)
        go (inr (inr h)) = absurd (omega (arith, h, b))

-- both together
pub cell_added : (s : Seen) (o : Open) (depth first cell task : ℕ) (creator : Option Job) (access : Access) (l n m : Ledger) (p : ℕ) → MayAdd s o depth first access.range.lo creator access access.range.lo l → o.task ≡ task
    → access.range.lo ≤ cell → cell < access.range.hi → IsGrowing s o depth first cell n × HasAdded first access cell l n → IsParent n o.parent cell p → m ≡ grown n p (new_entry n task depth p first access cell)
    → IsGrowing s o depth first (cell + 1) m × HasAdded first access (cell + 1) l m
cell_added s o depth first cell task creator access l n m p may same from before so parent now =
    let may_now = may_on s o depth first access.range.lo cell creator access l n may so.0 so.1 from before in
    let is : grown n p (new_entry n o.task depth p first access cell) ≡ m = ap (λ (t : ℕ). grown n p (new_entry n t depth p first access cell)) same ∙ sym now in
    subst (λ (m : Ledger). IsGrowing s o depth first (cell + 1) m × HasAdded first access (cell + 1) l m) is (grows s o depth first cell creator access cell n may_now p parent, added_on s o depth first cell creator access l n p may_now so.1 from parent)

-- a task may be written into the book
pub nested_added : (opens : List Open) (o : Open) (t d : ℕ) → IsNested opens t d → IsNested (opens ++ o ∷ []) t d
nested_added opens o t d main = main
nested_added opens o t d (child q e i n) = child q e (in_front opens (o ∷ []) i) (nested_added opens o q.parent e n)

module _ (s : Seen) (o : Open) (creator : Option Job) (l : Ledger) (may : MayExtend s o creator l) where
  nested_parent : (job : Job) → creator ≡ Some job → IsNested s.opens o.parent job.depth
  nested_parent job e =
      let k = may.creator_is.1 job e in
      let j = job_opened s.opens l may.booked.jobs k.0 job k.1 in
      subst (λ (t : ℕ). IsNested s.opens t job.depth) (sym j.2 ∙ k.2) j.3

  pub depth_less : (job : Job) → creator ≡ Some job → job.depth < 64
  depth_less job e =
      let d = may.can.shallow in
      let same = one_depth s.opens may.booked.opens_are.ordered o.parent job.depth d.0 (nested_parent job e) d.1 in
      omega (arith, same, d.2)

  module _ (depth : ℕ) (top : creator ≡ None → depth ≡ 1) (deep : (job : Job) → creator ≡ Some job → depth ≡ 1 + job.depth) where
    pub opening : IsOpening s o depth (length l.entries + 1) creator l.jobs
    opening = record {
      opens_are = may.booked.opens_are;
      can = may.can;
      given_by = may.booked.given_by;
      shallow = go creator refl;
      creator_is = is creator refl;
    }
      where
        go : (k : Option Job) → creator ≡ k → depth ≤ 64
        go None e = let d = top e in omega (arith, d)
        go (Some job) e = let d = deep job e in let h = depth_less job e in omega (arith, d, h)

        is : (k : Option Job) → creator ≡ k → IsCreator l.jobs creator o.parent depth
        is None e = subst (λ (k : Option Job). IsCreator l.jobs k o.parent depth) (sym e) (may.creator_is.0 e, top e)
        is (Some job) e = let k = may.creator_is.1 job e in subst (λ (k : Option Job). IsCreator l.jobs k o.parent depth) (sym e) (k.0, k.1, k.2, deep job e)

    nested_new : IsNested (s.opens ++ o ∷ []) o.task depth
    nested_new = go creator refl
      where
        step : (d : ℕ) → depth ≡ 1 + d → IsNested s.opens o.parent d → IsNested (s.opens ++ o ∷ []) o.task depth
        step d e n = subst (λ (x : ℕ). IsNested (s.opens ++ o ∷ []) o.task x) (let f : suc d ≡ depth = omega (arith, e) in f) (child o d (in_last s.opens o) (nested_added s.opens o o.parent d n))

        go : (k : Option Job) → creator ≡ k → IsNested (s.opens ++ o ∷ []) o.task depth
        go None e = step 0 (top e) (subst (λ (t : ℕ). IsNested s.opens t 0) (sym (may.creator_is.0 e)) main)
        go (Some job) e = step job.depth (deep job e) (nested_parent job e)

    -- at the beginning
    pub begins : IsGrowing s o depth (length l.entries + 1) 0 l
    begins = record {
      sound = may.sound;
      new = λ c h. absurd (none (length l.entries + 1) h.number h.entry h.from (omega arith) h.is);
      old = λ c h. may.booked.held c;
      of_old = λ v e h k. may.booked.of_open v e k;
      of_new = λ v e h k. absurd (none (length l.entries + 1) v e h (omega arith) k);
      rising = λ u v d e h k f g. absurd (none (length l.entries + 1) u d h (omega arith) f);
      jobs = may.booked.jobs;
      from = (omega arith, omega arith);
    }
      where
        none : (first v : ℕ) (e : Entry) → first ≤ v → length l.entries < first → entry_of l.entries v ≡ Some e → ⊥
        none first v e h k is = let w = (entry_within l.entries v e is).1 in omega (arith, w, h, k)

    -- at the end
    module _ (t : Seen) (now : Opens o s t) (n m : Ledger) (u : ℕ) (growing : IsGrowing s o depth (length l.entries + 1) u n) (jobs_are : n.jobs ≡ l.jobs)
        (written : (a : Access) (c : ℕ) → IsIn a o.accesses → a.range.lo ≤ c → c < a.range.hi → HasNew n.entries (length l.entries + 1) c)
        (entries : m.entries ≡ n.entries) (marks : m.marks ≡ n.marks) (mains : m.mains ≡ n.mains) (job : Job) (jobs : m.jobs ≡ n.jobs ++ job ∷ [])
        (task : job.task ≡ o.task) (depth_is : job.depth ≡ depth) (from : job.first ≡ length l.entries + 1) (upto : job.end ≡ length n.entries + 1) where
      first : ℕ
      first = length l.entries + 1

      new_or : (c : ℕ) → (HasNew n.entries (length l.entries + 1) c × (names c o ≡ true)) ⊎ ((HasNew n.entries (length l.entries + 1) c → ⊥) × (names c o ≡ false))
      new_or c = go (bools (names c o))
        where
          some_named : (x : Option Access) → access_at o.accesses c ≡ x → names c o ≡ true → HasNew n.entries (length l.entries + 1) c
          some_named None e h = clash (names c o) h (ap Rattle.oss_deps.specs.Opens.is_some_access e)
          some_named (Some a) e h = let k = access_found o.accesses c a e in let b = in_bounds a c k.1 in written a c k.0 b.0 b.1

          go : (names c o ≡ true) ⊎ (names c o ≡ false) → (HasNew n.entries (length l.entries + 1) c × (names c o ≡ true)) ⊎ ((HasNew n.entries (length l.entries + 1) c → ⊥) × (names c o ≡ false))
          go (inl h) = inl (some_named (access_at o.accesses c) refl h, h)
          go (inr h) =
              inr (
                λ k. let r = (growing.of_new k.number k.entry k.from k.is).0 in
                    clash (names c o) (named_at o c r.access (subst (λ (x : ℕ). access_at o.accesses x ≡ Some r.access) k.cell r.at_)) h,
                h,
              )

      held_n : (c : ℕ) → AreHeld (s.opens ++ o ∷ []) s.given c (lists_of n c) (IsAccessOf (task_of n.entries c))
      held_n c = go (new_or c)
        where
          go : (HasNew n.entries (length l.entries + 1) c × (names c o ≡ true)) ⊎ ((HasNew n.entries (length l.entries + 1) c → ⊥) × (names c o ≡ false)) → AreHeld (s.opens ++ o ∷ []) s.given c (lists_of n c) (IsAccessOf (task_of n.entries c))
          go (inl h) = growing.new c h.0
          go (inr h) = held_aside s.opens s.given c (lists_of n c) (IsAccessOf (task_of n.entries c)) o (growing.old c h.0) h.1 may.can.fresh

      of_now : (v : ℕ) (e : Entry) → entry_of n.entries v ≡ Some e → IsOfOpen (s.opens ++ o ∷ []) e
      of_now v e h = go (compared v (length l.entries + 1))
        where
          new : length l.entries + 1 ≤ v → IsOfOpen (s.opens ++ o ∷ []) e
          new k = record { entry = o; listed = in_last s.opens o; of = (growing.of_new v e k h).0 }

          go : (v < length l.entries + 1) ⊎ ((v ≡ length l.entries + 1) ⊎ (length l.entries + 1 < v)) → IsOfOpen (s.opens ++ o ∷ []) e
          go (inl k) = let r = growing.of_old v e k h in record { entry = r.entry; listed = in_front s.opens (o ∷ []) r.listed; of = r.of }
          go (inr (inl k)) = new (omega (arith, k))
          go (inr (inr k)) = new (omega (arith, k))

      new_job : IsJob n.entries job
      new_job = record {
        from = omega (arith, from);
        upto = (let f = growing.from.1 in omega (arith, from, upto, f));
        within = omega (arith, upto);
        of_task = λ v e a b h. let r = growing.of_new v e (omega (arith, a, from)) h in (sym r.0.task ∙ sym task, r.1 ∙ sym depth_is);
        all = λ v e h k. (all v e h k, (let w = (entry_within n.entries v e h).1 in omega (arith, w, upto)));
        rising = λ a b d e f g h i j. growing.rising a b d e (omega (arith, f, from)) g i j;
      }
        where
          all : (v : ℕ) (e : Entry) → entry_of n.entries v ≡ Some e → e.task ≡ job.task → job.first ≤ v
          all v e h k = go (compared v (length l.entries + 1))
            where
              go : (v < length l.entries + 1) ⊎ ((v ≡ length l.entries + 1) ⊎ (length l.entries + 1 < v)) → job.first ≤ v
              go (inl a) = let r = growing.of_old v e a h in absurd (fresh_task s o r.entry may.can r.listed (r.of.task ∙ (k ∙ task)))
              go (inr (inl a)) = omega (arith, a, from)
              go (inr (inr a)) = omega (arith, a, from)

      jobs_n : AreJobs (s.opens ++ o ∷ []) m
      jobs_n = record {
        size = (let a = length-append n.jobs (job ∷ []) in let b = length-append s.opens (o ∷ []) in let c = growing.jobs.size in ap (λ (js : List Job). length js) jobs ∙ (let r : length (n.jobs ++ job ∷ []) ≡ length (s.opens ++ o ∷ []) = omega (arith, a, b, c) in r));
        tasks = λ i q j h k. tasks i q j h (subst (λ (js : List Job). slice_get js i ≡ Some j) jobs k);
        are = λ i j h. subst (λ (es : List Entry). IsJob es j) (sym entries) (are i j (subst (λ (js : List Job). slice_get js i ≡ Some j) jobs h));
      }
        where
          last_place : (i : ℕ) → i ≡ length n.jobs → i ≡ length s.opens
          last_place i e = omega (arith, e, growing.jobs.size)

          tasks : (i : ℕ) (q : Open) (j : Job) → slice_get (s.opens ++ o ∷ []) i ≡ Some q → slice_get (n.jobs ++ job ∷ []) i ≡ Some j → (j.task ≡ q.task) × IsNested (s.opens ++ o ∷ []) q.task j.depth
          tasks i q j h k = go (same_or i (length n.jobs))
            where
              go : (i ≡ length n.jobs) ⊎ (i ≡ length n.jobs → ⊥) → (j.task ≡ q.task) × IsNested (s.opens ++ o ∷ []) q.task j.depth
              go (inr d) =
                  let r = growing.jobs.tasks i q j (sym (get_front s.opens o i (λ z. d (omega (arith, z, growing.jobs.size)))) ∙ h) (sym (get_front n.jobs job i d) ∙ k) in
                  (r.0, nested_added s.opens o q.task j.depth r.1)
              go (inl d) =
                  let a : job ≡ j = some_is (sym (get_end n.jobs job i d) ∙ k) in
                  let b : o ≡ q = some_is (sym (get_end s.opens o i (last_place i d)) ∙ h) in
                  subst (λ (j : Job). (j.task ≡ q.task) × IsNested (s.opens ++ o ∷ []) q.task j.depth) a
                  (subst (λ (q : Open). (job.task ≡ q.task) × IsNested (s.opens ++ o ∷ []) q.task job.depth) b (task, subst (λ (d : ℕ). IsNested (s.opens ++ o ∷ []) o.task d) (sym depth_is) nested_new))

          are : (i : ℕ) (j : Job) → slice_get (n.jobs ++ job ∷ []) i ≡ Some j → IsJob n.entries j
          are i j h = go (same_or i (length n.jobs))
            where
              go : (i ≡ length n.jobs) ⊎ (i ≡ length n.jobs → ⊥) → IsJob n.entries j
              go (inr d) = growing.jobs.are i j (sym (get_front n.jobs job i d) ∙ h)
              go (inl d) = subst (λ (j : Job). IsJob n.entries j) (some_is (sym (get_end n.jobs job i d) ∙ h)) new_job

      lists_m : (c : ℕ) → AreHeld (s.opens ++ o ∷ []) s.given c (lists_of m c) (IsAccessOf (task_of m.entries c))
      lists_m c = subst (λ (k : Ledger). AreHeld (s.opens ++ o ∷ []) s.given c (lists_of k c) (IsAccessOf (task_of k.entries c))) same (held_n c)
        where
          same : record { entries = n.entries; marks = n.marks; jobs = m.jobs; mains = n.mains } ≡ m
          same = λ i. record { entries = sym entries i; marks = sym marks i; jobs = m.jobs; mains = sym mains i }

      pub booked_now : IsBooked t m
      booked_now = record {
        opens_are = subst AreOpens (sym now.opens) (opens_added s o may.booked.opens_are may.can);
        held = λ c. subst (λ (os : List Open). AreHeld os t.given c (lists_of m c) (IsAccessOf (task_of m.entries c))) (sym now.opens) (held_told (s.opens ++ o ∷ []) s.given t.given c (lists_of m c) (IsAccessOf (task_of m.entries c)) (λ q. now.given q c) (lists_m c));
        of_open = λ v e h. subst (λ (os : List Open). IsOfOpen os e) (sym now.opens) (of_now v e (subst (λ (es : List Entry). entry_of es v ≡ Some e) entries h));
        jobs = subst (λ (os : List Open). AreJobs os m) (sym now.opens) jobs_n;
        given_by = λ q c h. subst (λ (os : List Open). HasOpened os c q) (sym now.opens) (more (may.booked.given_by q c (sym (now.given q c) ∙ h)));
      }
        where
          more : {c q : ℕ} → HasOpened s.opens c q → HasOpened (s.opens ++ o ∷ []) c q
          more h = record { entry = h.entry; listed = in_front s.opens (o ∷ []) h.listed; number = h.number; named = h.named }

      pub sound_m : IsSound m
      sound_m = subst IsSound same (record { fits = growing.sound.fits; marks = growing.sound.marks; mains = growing.sound.mains })
        where
          same : record { entries = n.entries; marks = n.marks; jobs = m.jobs; mains = n.mains } ≡ m
          same = λ i. record { entries = sym entries i; marks = sym marks i; jobs = m.jobs; mains = sym mains i }
