-- Entries of a task are given up, one after the other.
use Rattle.std.proofs.Common.{◌≡◌, ℕ, zero, suc, ◌<◌, ◌≤◌, ◌+◌, ◌⊎◌, inl, inr, refl, sym, ap, subst, ◌∙◌, Bool, true, false, List, ◌∷◌, Option, Some, None, length, arith, ◌&&◌, ◌||◌, eqb-true}
use Rattle.std.specs.Prelude.{slice_get, ◌==◌}
use Rattle.oss_syntax.specs.declared.access.Range.{Range}
use Rattle.oss_deps.specs.declared.opened.Open.{Open}
use Rattle.oss_deps.specs.Opens.{AreOpens, HasOpened}
use Rattle.oss_deps.specs.Seen.{Gives, Seen, in_range}
use Rattle.oss_deps.proofs.Basics.{both, bools, clash, compared, or_cases, some_is}
use Rattle.oss_words.specs.Views.{Among, among_first, among_later}
use Rattle.oss_access_lists.specs.Steps.{IsGift}
use Rattle.oss_access_lists.proofs.StepLemmas.{same_or}
use Rattle.oss_links.specs.Held.{AreAlike, AreHeld, IsAccessOf}
use Rattle.oss_links.proofs.AlikeLemmas.{held_told}
use Rattle.oss_links.proofs.ClaimLemmas.{alike_hold, gifts_hold}
use Rattle.oss_word_net.specs.Known.{Known}
use Rattle.oss_word_net.specs.Calls.{MayRelease}
use Rattle.oss_word_deps.specs.declared.entry.Entry.{Entry}
use Rattle.oss_word_deps.specs.declared.entry.Job.{Job}
use Rattle.oss_word_deps.specs.declared.entry.Mark.{Mark}
use Rattle.oss_word_deps.specs.Booked.{AreJobs, IsBooked, IsJob, IsOfOpen}
use Rattle.oss_word_deps.specs.Known.{Follows, Frees}
use Rattle.oss_word_deps.specs.Ledger.{Ledger, entry_of, given_in, last_of, lists_of, mark_of, or_none, row, task_in, task_of}
use Rattle.oss_word_deps.specs.Shelved.{HasSameRows, MayFree, MayGiveOver, freed, freed_at}
use Rattle.oss_word_deps.specs.Sound.{IsSound}
use Rattle.oss_word_deps.proofs.BookedLemmas.{row_task}
use Rattle.oss_word_deps.proofs.FollowLemmas.{alone_kept, linked_frees, may_release}
use Rattle.oss_word_deps.proofs.LedgerLemmas.{entry_there, entry_within, get_set_other, get_set_same, last_alike, row_is, row_not, set_length}

-- the marks once an entry is given up
pub freed_length : (marks : List Mark) (v : ℕ) → length (freed_at marks v) ≡ length marks
freed_length marks zero = refl
freed_length marks (suc n) = set_length marks n (record { last = (or_none (slice_get marks n)).last; given = true })

freed_same : (marks : List Mark) (n : ℕ) → n < length marks → mark_of (freed_at marks (suc n)) (suc n) ≡ record { last = (mark_of marks (suc n)).last; given = true }
freed_same marks n h = ap or_none (get_set_same marks n (record { last = (or_none (slice_get marks n)).last; given = true }) h)

pub freed_here : (marks : List Mark) (v : ℕ) → 0 < v → v ≤ length marks → (mark_of (freed_at marks v) v).given ≡ true
freed_here marks zero h k = absurd (omega (arith, h))
freed_here marks (suc n) h k = ap (λ (m : Mark). m.given) (freed_same marks n (omega (arith, k)))

pub freed_other : (marks : List Mark) (v u : ℕ) → (u ≡ v → ⊥) → mark_of (freed_at marks v) u ≡ mark_of marks u
freed_other marks zero u n = refl
freed_other marks (suc i) zero n = refl
freed_other marks (suc i) (suc j) n = ap or_none (get_set_other marks i j (record { last = (or_none (slice_get marks i)).last; given = true }) (λ z. n (ap suc z)))

pub freed_last : (marks : List Mark) (v u : ℕ) → v ≤ length marks → (mark_of (freed_at marks v) u).last ≡ (mark_of marks u).last
freed_last marks zero u h = refl
freed_last marks (suc n) u h = go (same_or u (suc n))
  where
    go : (u ≡ suc n) ⊎ (u ≡ suc n → ⊥) → (mark_of (freed_at marks (suc n)) u).last ≡ (mark_of marks u).last
    go (inr d) = ap (λ (m : Mark). m.last) (freed_other marks (suc n) u d)
    go (inl z) = subst (λ (w : ℕ). (mark_of (freed_at marks (suc n)) w).last ≡ (mark_of marks w).last) (sym z) (ap (λ (m : Mark). m.last) (freed_same marks n (omega (arith, h))))

-- the net follows
pub free_within : (l : Ledger) (sound : IsSound l) (v : ℕ) → MayFree l v → (0 < v) × (v ≤ length l.entries) × (v ≤ length l.marks)
free_within l sound v may = let w = entry_within l.entries v may.entry may.is in (w.0, w.1, (let k = w.1 in omega (arith, k, sound.marks)))

pub release : (l : Ledger) (sound : IsSound l) (k : Known) (size v : ℕ) → Follows k size l → MayFree l v → MayRelease k v
release l sound k size v f may =
    let w = free_within l sound v may in
    may_release l.entries k size (length l.entries) v may.entry f.alone f.empty f.linked w.1 (let a = w.1 in omega (arith, a, f.within)) may.is (λ m. clash (mark_of l.marks v).given (f.given.gives v m).0 may.held)

pub freed_follows : (l : Ledger) (sound : IsSound l) (a b : Known) (size v : ℕ) → Follows a size l → MayFree l v → Frees v a b → Follows b size (freed l v)
freed_follows l sound a b size v f may frees = record {
  alone = alone_kept a b size frees.keeps f.alone;
  empty = frees.empty;
  linked = linked_frees l.entries a b (length l.entries) v f.linked frees;
  given = record { gives = gives; given = given };
  within = f.within;
  most = f.most;
}
  where
    w : (0 < v) × (v ≤ length l.entries) × (v ≤ length l.marks)
    w = free_within l sound v may

    size_same : length (freed_at l.marks v) ≡ length l.marks
    size_same = freed_length l.marks v

    old : (u : ℕ) → (mark_of l.marks u).given ≡ true → (mark_of (freed_at l.marks v) u).given ≡ true
    old u h = go (same_or u v)
      where
        go : (u ≡ v) ⊎ (u ≡ v → ⊥) → (mark_of (freed_at l.marks v) u).given ≡ true
        go (inl z) = subst (λ (x : ℕ). (mark_of (freed_at l.marks v) x).given ≡ true) (sym z) (freed_here l.marks v w.0 w.2)
        go (inr d) = ap (λ (m : Mark). m.given) (freed_other l.marks v u d) ∙ h

    gives : (u : ℕ) → Among u b.view.gives → ((mark_of (freed_at l.marks v) u).given ≡ true) × (u ≤ length (freed_at l.marks v))
    gives u h = go (subst (λ (xs : List ℕ). Among u xs) frees.gives h)
      where
        go : Among u (v ∷ a.view.gives) → ((mark_of (freed_at l.marks v) u).given ≡ true) × (u ≤ length (freed_at l.marks v))
        go (among_first z) = (subst (λ (x : ℕ). (mark_of (freed_at l.marks v) x).given ≡ true) z (freed_here l.marks v w.0 w.2), (let k = w.2 in omega (arith, z, k, size_same)))
        go (among_later m) = let r = f.given.gives u m in (old u r.0, (let k = r.1 in omega (arith, k, size_same)))

    given : (u : ℕ) → u ≤ length (freed_at l.marks v) → (mark_of (freed_at l.marks v) u).given ≡ true → Among u b.view.gives
    given u k h = subst (λ (xs : List ℕ). Among u xs) (sym frees.gives) (go (same_or u v))
      where
        go : (u ≡ v) ⊎ (u ≡ v → ⊥) → Among u (v ∷ a.view.gives)
        go (inl z) = among_first (sym z)
        go (inr d) = among_later (f.given.given u (omega (arith, k, size_same)) (ap (λ (m : Mark). m.given) (sym (freed_other l.marks v u d)) ∙ h))

pub freed_sound : (l : Ledger) (v : ℕ) → IsSound l → IsSound (freed l v)
freed_sound l v s = record { fits = s.fits; marks = freed_length l.marks v ∙ s.marks; mains = s.mains }

-- in the lists of the cell it is a gift, and the other lists are the same
module _ (l : Ledger) (sound : IsSound l) (v : ℕ) (may : MayFree l v) where
  within : v ≤ length l.marks
  within = (free_within l sound v may).2

  last_same : (c u : ℕ) → last_of (freed l v) c u ≡ last_of l c u
  last_same c zero = refl
  last_same c (suc n) = last_alike (row l.entries c (suc n)) (mark_of (freed_at l.marks v) (suc n)) (mark_of l.marks (suc n)) (freed_last l.marks v (suc n) within)

  pub gift : (c : ℕ) → may.entry.cell ≡ c → IsGift (lists_of l c) (lists_of (freed l v) c) v
  gift c z = record {
    not_main = (λ w. let k = (free_within l sound v may).0 in omega (arith, k, w));
    places = λ u. refl;
    modes = λ u. refl;
    lasts = last_same c;
    given = ap (λ (r : Option Entry). given_in r (mark_of (freed_at l.marks v) v)) (row_is l.entries c v may.entry may.is z) ∙ freed_here l.marks v (free_within l sound v may).0 within;
    others = λ u d. ap (given_in (row l.entries c u)) (freed_other l.marks v u d);
  }

  pub aside : (c : ℕ) → (may.entry.cell ≡ c → ⊥) → AreAlike (lists_of l c) (lists_of (freed l v) c)
  aside c n = record { places = λ u. refl; lasts = λ u. sym (last_same c u); modes = λ u. refl; gave = gave }
    where
      gave : (u : ℕ) → given_in (row l.entries c u) (mark_of l.marks u) ≡ given_in (row l.entries c u) (mark_of (freed_at l.marks v) u)
      gave u = go (same_or u v)
        where
          go : (u ≡ v) ⊎ (u ≡ v → ⊥) → given_in (row l.entries c u) (mark_of l.marks u) ≡ given_in (row l.entries c u) (mark_of (freed_at l.marks v) u)
          go (inr d) = ap (given_in (row l.entries c u)) (sym (freed_other l.marks v u d))
          go (inl z) =
              let none : row l.entries c u ≡ None = ap (row l.entries c) z ∙ row_not l.entries c v may.entry may.is n in
              ap (λ (r : Option Entry). given_in r (mark_of l.marks u)) none ∙ sym (ap (λ (r : Option Entry). given_in r (mark_of (freed_at l.marks v) u)) none)

-- the task has given up the cell too
abbrev pub given_too : Seen → ℕ → ℕ → ℕ → Bool
given_too s t u c = s.given u c || (t == u)

-- one of the entries from `from` up to `upto` is of the cell
pub record HasFreed (entries : List Entry) (from upto c : ℕ) : Type 0 where
  pub number : ℕ
  pub entry : Entry
  pub at_least : from ≤ number
  pub less : number < upto
  pub is : entry_of entries number ≡ Some entry
  pub cell : entry.cell ≡ c

-- those are given up, and no other since
pub record IsFreeing (s : Seen) (t from upto : ℕ) (l : Ledger) : Type 0 where
  pub done : (c : ℕ) → HasFreed l.entries from upto c → AreHeld s.opens (given_too s t) c (lists_of l c) (IsAccessOf (task_of l.entries c))
  pub undone : (c : ℕ) → (HasFreed l.entries from upto c → ⊥) → AreHeld s.opens s.given c (lists_of l c) (IsAccessOf (task_of l.entries c))

pub freeing_begins : (s : Seen) (t from : ℕ) (l : Ledger) → IsBooked s l → IsFreeing s t from from l
freeing_begins s t from l booked = record { done = λ c h. absurd (let a = h.at_least in let b = h.less in omega (arith, a, b)); undone = λ c h. booked.held c }

-- what lies from one entry on up to another are the cells of the range
pub record AreEnds (entries : List Entry) (job : Job) (range : Range) (from upto : ℕ) : Type 0 where
  pub from_in : job.first ≤ from
  pub upto_in : upto ≤ job.end
  pub below : (v : ℕ) (e : Entry) → job.first ≤ v → v < from → entry_of entries v ≡ Some e → e.cell < range.lo
  pub at_least : (v : ℕ) (e : Entry) → from ≤ v → v < job.end → entry_of entries v ≡ Some e → range.lo ≤ e.cell
  pub less : (v : ℕ) (e : Entry) → job.first ≤ v → v < upto → entry_of entries v ≡ Some e → e.cell < range.hi
  pub behind : (v : ℕ) (e : Entry) → upto ≤ v → v < job.end → entry_of entries v ≡ Some e → range.hi ≤ e.cell

module _ (s : Seen) (job : Job) (range : Range) (l : Ledger) (may : MayGiveOver s job range l) (from upto : ℕ) (ends : AreEnds l.entries job range from upto) (n : Ledger) (rows : HasSameRows l n) where
  entry_n : (v : ℕ) → job.first ≤ v → v < job.end → (e : Entry) × (entry_of n.entries v ≡ Some e)
  entry_n v a b =
      let r = entry_there l.entries v (let f = may.is_job.from in omega (arith, a, f)) (let w = may.is_job.within in omega (arith, b, w)) in
      (r.0, ap (λ (es : List Entry). entry_of es v) rows.entries ∙ r.1)

  entry_l : (v : ℕ) (e : Entry) → entry_of n.entries v ≡ Some e → entry_of l.entries v ≡ Some e
  entry_l v e h = ap (λ (es : List Entry). entry_of es v) (sym rows.entries) ∙ h

  -- the next may be given up
  pub may_free : (at : ℕ) → from ≤ at → at < upto → IsFreeing s job.task from at n → MayFree n at
  may_free at a b freeing = record { entry = e.0; is = e.1; held = held }
    where
      first : job.first ≤ at
      first = (let f = ends.from_in in omega (arith, a, f))

      end : at < job.end
      end = (let u = ends.upto_in in omega (arith, b, u))

      e : (e : Entry) × (entry_of n.entries at ≡ Some e)
      e = entry_n at first end

      fresh : HasFreed n.entries from at e.0.cell → ⊥
      fresh h =
          let r = may.is_job.rising h.number at h.entry e.0 (let x = h.at_least in let f = ends.from_in in omega (arith, x, f)) h.less end (entry_l h.number h.entry h.is) (entry_l at e.0 e.1) in
          omega (arith, r, h.cell)

      is : AreHeld s.opens s.given e.0.cell (lists_of n e.0.cell) (IsAccessOf (task_of n.entries e.0.cell))
      is = freeing.undone e.0.cell fresh

      row_here : row n.entries e.0.cell at ≡ Some e.0
      row_here = row_is n.entries e.0.cell at e.0 e.1 refl

      task_here : task_of n.entries e.0.cell at ≡ Some job.task
      task_here = ap task_in row_here ∙ ap (λ (x : ℕ). Some x) (may.is_job.of_task at e.0 first end (entry_l at e.0 e.1)).0

      held : (mark_of n.marks at).given ≡ false
      held =
          sym (ap (λ (r : Option Entry). given_in r (mark_of n.marks at)) row_here)
          ∙ (sym (is.gave job.task at task_here) ∙ may.can.held e.0.cell (ends.at_least at e.0 a end (entry_l at e.0 e.1)) (ends.less at e.0 first b (entry_l at e.0 e.1)))

  -- and then it is
  pub freeing_next : (at : ℕ) → from ≤ at → at < upto → IsSound n → (freeing : IsFreeing s job.task from at n) → IsFreeing s job.task from (at + 1) (freed n at)
  freeing_next at a b sound freeing = record { done = done; undone = undone }
    where
      m : MayFree n at
      m = may_free at a b freeing

      first : job.first ≤ at
      first = (let f = ends.from_in in omega (arith, a, f))

      end : at < job.end
      end = (let u = ends.upto_in in omega (arith, b, u))

      earlier : (c : ℕ) → (m.entry.cell ≡ c → ⊥) → HasFreed n.entries from (at + 1) c → HasFreed n.entries from at c
      earlier c d h = go (compared h.number at)
        where
          go : (h.number < at) ⊎ ((h.number ≡ at) ⊎ (at < h.number)) → HasFreed n.entries from at c
          go (inl x) = record { number = h.number; entry = h.entry; at_least = h.at_least; less = x; is = h.is; cell = h.cell }
          go (inr (inl x)) = absurd (d (ap (λ (y : Entry). y.cell) (some_is (sym m.is ∙ (ap (entry_of n.entries) (sym x) ∙ h.is))) ∙ h.cell))
          go (inr (inr x)) = absurd (let y = h.less in omega (arith, x, y))

      later : (c : ℕ) → HasFreed n.entries from at c → HasFreed n.entries from (at + 1) c
      later c h = record { number = h.number; entry = h.entry; at_least = h.at_least; less = (let y = h.less in omega (arith, y)); is = h.is; cell = h.cell }

      here : HasFreed n.entries from (at + 1) m.entry.cell
      here = record { number = at; entry = m.entry; at_least = a; less = omega arith; is = m.is; cell = refl }

      fresh : HasFreed n.entries from at m.entry.cell → ⊥
      fresh h =
          let r = may.is_job.rising h.number at h.entry m.entry (let x = h.at_least in let f = ends.from_in in omega (arith, x, f)) h.less end (entry_l h.number h.entry h.is) (entry_l at m.entry m.is) in
          omega (arith, r, h.cell)

      moved : (given : ℕ → ℕ → Bool) (c : ℕ) → (m.entry.cell ≡ c → ⊥) → AreHeld s.opens given c (lists_of n c) (IsAccessOf (task_of n.entries c)) → AreHeld s.opens given c (lists_of (freed n at) c) (IsAccessOf (task_of n.entries c))
      moved given c d h = alike_hold s.opens given given c (lists_of n c) (lists_of (freed n at) c) (task_of n.entries c) (task_of n.entries c) h (aside n sound at m c d) (λ u. refl) (λ u. refl)

      new : AreHeld s.opens (given_too s job.task) m.entry.cell (lists_of (freed n at) m.entry.cell) (IsAccessOf (task_of n.entries m.entry.cell))
      new =
          gifts_hold s.opens s.given (given_too s job.task) m.entry.cell (lists_of n m.entry.cell) (lists_of (freed n at) m.entry.cell) (task_of n.entries m.entry.cell) job.task at (freeing.undone m.entry.cell fresh) (gift n sound at m m.entry.cell refl)
          (ap task_in (row_is n.entries m.entry.cell at m.entry m.is refl) ∙ ap (λ (x : ℕ). Some x) (may.is_job.of_task at m.entry first end (entry_l at m.entry m.is)).0) (λ u. refl)

      done : (c : ℕ) → HasFreed n.entries from (at + 1) c → AreHeld s.opens (given_too s job.task) c (lists_of (freed n at) c) (IsAccessOf (task_of n.entries c))
      done c h = go (same_or m.entry.cell c)
        where
          go : (m.entry.cell ≡ c) ⊎ (m.entry.cell ≡ c → ⊥) → AreHeld s.opens (given_too s job.task) c (lists_of (freed n at) c) (IsAccessOf (task_of n.entries c))
          go (inl z) = subst (λ (c : ℕ). AreHeld s.opens (given_too s job.task) c (lists_of (freed n at) c) (IsAccessOf (task_of n.entries c))) z new
          go (inr d) = moved (given_too s job.task) c d (freeing.done c (earlier c d h))

      undone : (c : ℕ) → (HasFreed n.entries from (at + 1) c → ⊥) → AreHeld s.opens s.given c (lists_of (freed n at) c) (IsAccessOf (task_of n.entries c))
      undone c h = moved s.given c (λ z. h (subst (λ (c : ℕ). HasFreed n.entries from (at + 1) c) z here)) (freeing.undone c (λ k. h (later c k)))

  -- in the end
  pub freed_booked : (t : Seen) → Gives job.task range s t → IsFreeing s job.task from upto n → IsBooked t n
  freed_booked t gives freeing = record {
    opens_are = subst AreOpens (sym gives.opens) may.booked.opens_are;
    held = λ c. subst (λ (os : List Open). AreHeld os t.given c (lists_of n c) (IsAccessOf (task_of n.entries c))) (sym gives.opens) (held c);
    of_open = λ v e h. subst (λ (os : List Open). IsOfOpen os e) (sym gives.opens) (may.booked.of_open v e (entry_l v e h));
    jobs = subst (λ (os : List Open). AreJobs os n) (sym gives.opens) jobs;
    given_by = λ u c h. subst (λ (os : List Open). HasOpened os c u) (sym gives.opens) (given_by u c (or_cases (s.given u c) ((job.task == u) && in_range range c) (sym (gives.given u c) ∙ h)));
  }
    where
      jobs : AreJobs s.opens n
      jobs = record {
        size = ap (λ (js : List Job). length js) rows.jobs ∙ may.booked.jobs.size;
        tasks = λ i o j h k. may.booked.jobs.tasks i o j h (ap (λ (js : List Job). slice_get js i) (sym rows.jobs) ∙ k);
        are = λ i j h. subst (λ (es : List Entry). IsJob es j) (sym rows.entries) (may.booked.jobs.are i j (ap (λ (js : List Job). slice_get js i) (sym rows.jobs) ∙ h));
      }

      in_bounds : (c : ℕ) → in_range range c ≡ true → (range.lo ≤ c) × (c < range.hi)
      in_bounds c h = Rattle.oss_deps.proofs.OpenLemmas.in_bounds (record { range = range; mode = Rattle.oss_syntax.specs.declared.access.Mode.TheVariants.Write; strong = true; fresh = true }) c h

      bounds_in : (c : ℕ) → range.lo ≤ c → c < range.hi → in_range range c ≡ true
      bounds_in c a b = Rattle.oss_deps.proofs.OpenLemmas.bounds_in (record { range = range; mode = Rattle.oss_syntax.specs.declared.access.Mode.TheVariants.Write; strong = true; fresh = true }) c a b

      given_by : (u c : ℕ) → (s.given u c ≡ true) ⊎ (((job.task == u) && in_range range c) ≡ true) → HasOpened s.opens c u
      given_by u c (inl h) = may.booked.given_by u c h
      given_by u c (inr h) =
          let b = both (job.task == u) (in_range range c) h in
          let r = in_bounds c b.1 in
          subst (λ (x : ℕ). HasOpened s.opens c x) (eqb-true job.task u b.0) (may.can.named c r.0 r.1)

      -- the cells of the range have their entries between the ends
      freed_in : (c : ℕ) → in_range range c ≡ true → HasFreed n.entries from upto c
      freed_in c h =
          let r = in_bounds c h in
          let is = (may.booked.held c).held job.task (may.can.named c r.0 r.1) in
          let x = row_task l.entries c job.task is.0 is.1 in
          let a = may.is_job.all is.0 x.entry x.is x.task in
          record {
            number = is.0;
            entry = x.entry;
            at_least = low is.0 x.entry a.0 x.is (λ z. let q = r.0 in omega (arith, q, z, x.cell)) (compared is.0 from);
            less = high is.0 x.entry a.1 x.is (λ z. let q = r.1 in omega (arith, q, z, x.cell)) (compared is.0 upto);
            is = ap (λ (es : List Entry). entry_of es is.0) rows.entries ∙ x.is;
            cell = x.cell;
          }
        where
          low : (v : ℕ) (e : Entry) → job.first ≤ v → entry_of l.entries v ≡ Some e → (e.cell < range.lo → ⊥) → (v < from) ⊎ ((v ≡ from) ⊎ (from < v)) → from ≤ v
          low v e f g d (inl k) = absurd (d (ends.below v e f k g))
          low v e f g d (inr (inl k)) = omega (arith, k)
          low v e f g d (inr (inr k)) = omega (arith, k)

          high : (v : ℕ) (e : Entry) → v < job.end → entry_of l.entries v ≡ Some e → (range.hi ≤ e.cell → ⊥) → (v < upto) ⊎ ((v ≡ upto) ⊎ (upto < v)) → v < upto
          high v e f g d (inl k) = k
          high v e f g d (inr (inl k)) = absurd (d (ends.behind v e (omega (arith, k)) f g))
          high v e f g d (inr (inr k)) = absurd (d (ends.behind v e (omega (arith, k)) f g))

      freed_out : (c : ℕ) → in_range range c ≡ false → HasFreed n.entries from upto c → ⊥
      freed_out c h k =
          let is = entry_l k.number k.entry k.is in
          let first : job.first ≤ k.number = (let f = ends.from_in in let g = k.at_least in omega (arith, f, g)) in
          let end : k.number < job.end = (let f = ends.upto_in in let g = k.less in omega (arith, f, g)) in
          let a = ends.at_least k.number k.entry k.at_least end is in
          let b = ends.less k.number k.entry first k.less is in
          clash (in_range range c) (bounds_in c (omega (arith, a, k.cell)) (omega (arith, b, k.cell))) h

      and_true : (x y : Bool) → y ≡ true → (x && y) ≡ x
      and_true true y e = e
      and_true false y e = refl

      or_false : (x y z : Bool) → z ≡ false → (x || (y && z)) ≡ x
      or_false true y z e = refl
      or_false false true z e = e
      or_false false false z e = refl

      held : (c : ℕ) → AreHeld s.opens t.given c (lists_of n c) (IsAccessOf (task_of n.entries c))
      held c = go (bools (in_range range c))
        where
          go : (in_range range c ≡ true) ⊎ (in_range range c ≡ false) → AreHeld s.opens t.given c (lists_of n c) (IsAccessOf (task_of n.entries c))
          go (inl h) = held_told s.opens (given_too s job.task) t.given c (lists_of n c) (IsAccessOf (task_of n.entries c)) (λ u. gives.given u c ∙ ap (λ (b : Bool). s.given u c || b) (and_true (job.task == u) (in_range range c) h)) (freeing.done c (freed_in c h))
          go (inr h) = held_told s.opens s.given t.given c (lists_of n c) (IsAccessOf (task_of n.entries c)) (λ u. gives.given u c ∙ or_false (s.given u c) (job.task == u) (in_range range c) h) (freeing.undone c (freed_out c h))

-- the ends, as they are looked up
pub ends_of : (entries xs ys : List Entry) (job : Job) (range : Range) (from upto : ℕ) → xs ≡ entries → ys ≡ entries → (job.first ≤ from) × (from ≤ job.end)
    → ((v : ℕ) (e : Entry) → job.first ≤ v → v < from → entry_of xs v ≡ Some e → e.cell < range.lo) → ((v : ℕ) (e : Entry) → from ≤ v → v < job.end → entry_of xs v ≡ Some e → range.lo ≤ e.cell) → (job.first ≤ upto) × (upto ≤ job.end)
    → ((v : ℕ) (e : Entry) → job.first ≤ v → v < upto → entry_of ys v ≡ Some e → e.cell < range.hi) → ((v : ℕ) (e : Entry) → upto ≤ v → v < job.end → entry_of ys v ≡ Some e → range.hi ≤ e.cell) → AreEnds entries job range from upto
ends_of entries xs ys job range from upto p q a b c d e f = record {
  from_in = a.0;
  upto_in = d.1;
  below = λ v x g h k. b v x g h (ap (λ (es : List Entry). entry_of es v) p ∙ k);
  at_least = λ v x g h k. c v x g h (ap (λ (es : List Entry). entry_of es v) p ∙ k);
  less = λ v x g h k. e v x g h (ap (λ (es : List Entry). entry_of es v) q ∙ k);
  behind = λ v x g h k. f v x g h (ap (λ (es : List Entry). entry_of es v) q ∙ k);
}

pub rows_refl : (l : Ledger) → HasSameRows l l
rows_refl l = record { entries = refl; jobs = refl }

pub rows_freed : (l n m : Ledger) (v : ℕ) → HasSameRows l n → m ≡ freed n v → HasSameRows l m
rows_freed l n m v r e = record { entries = ap (λ (x : Ledger). x.entries) e ∙ r.entries; jobs = ap (λ (x : Ledger). x.jobs) e ∙ r.jobs }

pub freeing_on : (s : Seen) (job : Job) (range : Range) (l : Ledger) (may : MayGiveOver s job range l) (from upto : ℕ) (ends : AreEnds l.entries job range from upto) (n m : Ledger) (rows : HasSameRows l n) (at : ℕ) → from ≤ at → at < upto → IsSound n → IsFreeing s job.task from at n → m ≡ freed n at
    → IsFreeing s job.task from (at + 1) m
freeing_on s job range l may from upto ends n m rows at a b sound f e = subst (λ (x : Ledger). IsFreeing s job.task from (at + 1) x) (sym e) (freeing_next s job range l may from upto ends n rows at a b sound f)

-- the first end is not behind the second
pub ends_rise : (entries : List Entry) (job : Job) (range : Range) (from upto : ℕ) → IsJob entries job → AreEnds entries job range from upto → job.first ≤ upto → from ≤ job.end → from ≤ upto
ends_rise entries job range from upto is ends a b = go (compared upto from)
  where
    go : (upto < from) ⊎ ((upto ≡ from) ⊎ (from < upto)) → from ≤ upto
    go (inr (inl h)) = omega (arith, h)
    go (inr (inr h)) = omega (arith, h)
    go (inl h) =
        let e = entry_there entries upto (let f = is.from in omega (arith, f, a)) (let w = is.within in omega (arith, w, b, h)) in
        let low = ends.below upto e.0 a h e.1 in
        let high = ends.behind upto e.0 (omega arith) (omega (arith, b, h)) e.1 in
        absurd (omega (arith, low, high, range.ordered))
