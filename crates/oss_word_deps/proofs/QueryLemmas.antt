-- What is asked of a book with its net.
use Rattle.std.proofs.Common.{◌≡◌, ◌↔◌, ℕ, zero, suc, ◌<◌, ◌≤◌, ◌+◌, ◌-◌, ◌⊎◌, inl, inr, refl, sym, ap, subst, ◌∙◌, Bool, true, false, List, Option, Some, length, arith, ◌&&◌}
use Rattle.std.specs.Prelude.{IsTrue, slice_get}
use Rattle.std.proofs.Math.ListN.{get_or}
use Rattle.oss_syntax.specs.declared.access.Access.{Access}
use Rattle.oss_syntax.specs.declared.access.Range.{Range}
use Rattle.oss_syntax.specs.declared.access.Mode.{Mode}
use Rattle.oss_syntax.specs.declared.access.Op.{Op}
use Rattle.oss_syntax.specs.declared.access.Mode.TheVariants.{Read, Write, Fold}
use Rattle.oss_model.specs.Order.{IsIn}
use Rattle.oss_model.specs.Forest.{IsDone, IsJoinSatisfied, IsReadSatisfied, IsWriteSatisfied}
use Rattle.oss_deps.specs.declared.opened.Open.{Open}
use Rattle.oss_deps.specs.Opens.{AreChildrenDone, Asks, IsKnown, IsMet, IsOpened, access_at, mode_in, names, opened_forest}
use Rattle.oss_deps.specs.Seen.{Seen}
use Rattle.oss_deps.proofs.Basics.{both, compared, some_is, some_none}
use Rattle.oss_deps.proofs.OpenLemmas.{get_in, in_get, named_at, one_entry}
use Rattle.oss_words.specs.declared.entry.EntryState.{EntryState}
use Rattle.oss_access_lists.specs.Flags.{Clear, Done, is_fold}
use Rattle.oss_access_lists.specs.Wires.{IsBefore, wired}
use Rattle.oss_access_lists.proofs.StepLemmas.{same_or}
use Rattle.oss_links.specs.Held.{IsAccessOf, IsAccessOrMain}
use Rattle.oss_links.specs.Readings.{TellOfTask}
use Rattle.oss_links.proofs.ChildLemmas.{children_are}
use Rattle.oss_links.proofs.ConditionLemmas.{no_child}
use Rattle.oss_word_net.specs.Known.{Known, Rests}
use Rattle.oss_word_deps.specs.declared.entry.Entry.{Entry}
use Rattle.oss_word_deps.specs.declared.entry.Job.{Job}
use Rattle.oss_word_deps.specs.declared.entry.Mark.{Mark}
use Rattle.oss_word_deps.specs.Asked.{IsJobOf, IsLet}
use Rattle.oss_word_deps.specs.Booked.{IsBooked, IsJob}
use Rattle.oss_word_deps.specs.Known.{Follows}
use Rattle.oss_word_deps.specs.Ledger.{Ledger, entry_of, last_in, last_of, lists_of, mark_of, mode_of, or_zero, row, task_in, task_of}
use Rattle.oss_word_deps.specs.Shelved.{IsListDone}
use Rattle.oss_word_deps.specs.Sound.{IsSound}
use Rattle.oss_word_deps.proofs.BookedLemmas.{row_task}
use Rattle.oss_word_deps.proofs.LedgerLemmas.{entry_within, get_there, get_within, row_entry, row_is}
use Rattle.oss_word_deps.proofs.LookupLemmas.{entry_is}
use Rattle.oss_word_deps.proofs.SoundLemmas.{row_below}
use Rattle.oss_word_deps.proofs.TellLemmas.{are_true, marks_at, tells}

pub to_true : (b : Bool) → IsTrue b → b ≡ true
to_true b h = h

pub of_true : (b : Bool) → b ≡ true → IsTrue b
of_true b e = e

-- the entry that is read at a place
pub entry_read : (entries : List Entry) (v : ℕ) (item : Entry) → (0 < v) × (v ≤ length entries) → item ≡ get_or entries (v - 1) item → entry_of entries v ≡ Some item
entry_read entries v item h is = entry_is entries v item h.0 h.1 ∙ ap (λ (x : Entry). Some x) (sym is)

-- an entry, and the open of which it is
of_one : (s : Seen) (l : Ledger) → IsBooked s l → (v : ℕ) (e : Entry) → entry_of l.entries v ≡ Some e → (q : Open) → IsIn q s.opens → q.task ≡ e.task → (a : Access) → access_at q.accesses e.cell ≡ Some a → (a.mode ≡ e.info.mode) × (a.strong ≡ e.info.strong)
of_one s l booked v e is q i t a at =
    let r = booked.of_open v e is in
    let same : r.entry ≡ q = one_entry booked.opens_are.ordered r.entry q r.listed i (r.of.task ∙ sym t) in
    let one : r.of.access ≡ a = some_is (sym r.of.at_ ∙ (ap (λ (o : Open). access_at o.accesses e.cell) same ∙ at)) in
    (sym (ap (λ (x : Access). x.mode) one) ∙ r.of.mode, sym (ap (λ (x : Access). x.strong) one) ∙ r.of.strong)

module _ (l : Ledger) (sound : IsSound l) (k : Known) (size : ℕ) (follows : Follows k size l) (v : ℕ) (state : EntryState) (r : Rests k v state) (s : Seen) (booked : IsBooked s l) (e : Entry) (is : entry_of l.entries v ≡ Some e) where
  tell : TellOfTask s.opens s.given e.cell e.task (marks_at e.info.mode state)
  tell = tells l sound k size follows v state r s booked e is

  pub let_reads : e.info.mode ≡ Read → e.info.strong ≡ true → (IsTrue state.reads → IsLet s.opens s.given e) × (IsLet s.opens s.given e → IsTrue state.reads)
  let_reads m t = (λ h. record { reads = λ _ _. tell.reads.0 (to_true state.reads h); writes = λ _ n. absurd (let q : Read ≡ Write = sym m ∙ n in cc) }, λ h. of_true state.reads (tell.reads.1 (h.reads t m)))

  pub let_writes : e.info.mode ≡ Write → e.info.strong ≡ true → (IsTrue state.writes → IsLet s.opens s.given e) × (IsLet s.opens s.given e → IsTrue state.writes)
  let_writes m t = (λ h. record { reads = λ _ n. absurd (let q : Write ≡ Read = sym m ∙ n in cc); writes = λ _ _. tell.writes.0 (to_true state.writes h) }, λ h. of_true state.writes (tell.writes.1 (h.writes t m)))

  -- a reduction may be joined where its flag stands
  pub joins : (op : Op) → mode_in s.opens e.cell e.task ≡ Fold op → (IsTrue state.folds → IsJoinSatisfied (opened_forest s.opens s.given e.cell) op e.task) × (IsJoinSatisfied (opened_forest s.opens s.given e.cell) op e.task → IsTrue state.folds)
  joins op m = (λ h. (tell.joins op m).0 (rw (to_true state.folds h) (ap is_fold fold)), λ h. of_true state.folds (both state.folds (is_fold e.info.mode) ((tell.joins op m).1 h)).0)
    where
      fold : e.info.mode ≡ Fold op
      fold =
          let at = row_is l.entries e.cell v e is refl in
          sym (ap mode_of at) ∙ (sym ((booked.held e.cell).mode e.task v (ap task_in at)) ∙ m)
      -- the flags of an access and whether it and those before it are done

pub list_done : (l : Ledger) (sound : IsSound l) (k : Known) (size : ℕ) (follows : Follows k size l) (v : ℕ) (state : EntryState) (r : Rests k v state) (e : Entry) (is : entry_of l.entries v ≡ Some e)
    → (IsTrue (state.clear && state.done) → IsListDone (lists_of l e.cell) v) × (IsListDone (lists_of l e.cell) v → IsTrue (state.clear && state.done))
list_done l sound k size follows v state r e is = (forth, back)
  where
    flags : Rattle.oss_links.specs.Readings.AreTrue (lists_of l e.cell) v (marks_at e.info.mode state)
    flags = are_true l sound k size follows v state r e.cell e (row_is l.entries e.cell v e is refl)

    forth : IsTrue (state.clear && state.done) → IsListDone (lists_of l e.cell) v
    forth h = let b = both state.clear state.done (to_true (state.clear && state.done) h) in record { last = (flags Done).0 b.1; before = (flags Clear).0 b.0 }

    back : IsListDone (lists_of l e.cell) v → IsTrue (state.clear && state.done)
    back d = of_true (state.clear && state.done) (rw ((flags Clear).1 d.before) ((flags Done).1 d.last))

-- a weak access and a reduction wait for nothing
pub let_weak : (opens : List Open) (given : ℕ → ℕ → Bool) (e : Entry) → e.info.strong ≡ false → IsLet opens given e
let_weak opens given e h = record { reads = λ t m. absurd (let q : true ≡ false = sym t ∙ h in cc); writes = λ t m. absurd (let q : true ≡ false = sym t ∙ h in cc) }

pub let_fold : (opens : List Open) (given : ℕ → ℕ → Bool) (e : Entry) (op : Op) → e.info.mode ≡ Fold op → IsLet opens given e
let_fold opens given e op h = record { reads = λ t m. absurd (let q : Fold op ≡ Read = sym h ∙ m in cc); writes = λ t m. absurd (let q : Fold op ≡ Write = sym h ∙ m in cc) }

-- a task is met where all its entries are let
pub met_forth : (s : Seen) (l : Ledger) (job : Job) → IsBooked s l → IsJob l.entries job → ((v : ℕ) (e : Entry) → job.first ≤ v → v < job.end → entry_of l.entries v ≡ Some e → IsLet s.opens s.given e) → IsMet s.opens s.given job.task
met_forth s l job booked is f = record { reads = λ c a. reads c a (found c a); writes = λ c a. writes c a (found c a) }
  where
    found : {m : Mode} (c : ℕ) (a : Asks s.opens job.task c m) → (v : ℕ) × (e : Entry) × (entry_of l.entries v ≡ Some e) × (e.cell ≡ c) × (e.task ≡ job.task)
    found c a =
        let h = (booked.held c).held job.task (record { entry = a.entry; listed = a.listed; number = a.number; named = named_at a.entry c a.access a.at_ }) in
        let r = row_task l.entries c job.task h.0 h.1 in
        (h.0, r.entry, r.is, r.cell, r.task)

    lets : (v : ℕ) (e : Entry) → entry_of l.entries v ≡ Some e → e.task ≡ job.task → IsLet s.opens s.given e
    lets v e h t = let a = is.all v e h t in f v e a.0 a.1 h

    reads : (c : ℕ) (a : Asks s.opens job.task c Read) → (v : ℕ) × (e : Entry) × (entry_of l.entries v ≡ Some e) × (e.cell ≡ c) × (e.task ≡ job.task) → IsReadSatisfied (opened_forest s.opens s.given c) job.task
    reads c a (v, e, h, k, t) =
        let o = of_one s l booked v e h a.entry a.listed (a.number ∙ sym t) a.access (subst (λ (x : ℕ). access_at a.entry.accesses x ≡ Some a.access) (sym k) a.at_) in
        subst (λ (x : ℕ). IsReadSatisfied (opened_forest s.opens s.given x) job.task) k (subst (λ (x : ℕ). IsReadSatisfied (opened_forest s.opens s.given e.cell) x) t ((lets v e h t).reads (sym o.1 ∙ a.strong) (sym o.0 ∙ a.mode_is)))

    writes : (c : ℕ) (a : Asks s.opens job.task c Write) → (v : ℕ) × (e : Entry) × (entry_of l.entries v ≡ Some e) × (e.cell ≡ c) × (e.task ≡ job.task) → IsWriteSatisfied (opened_forest s.opens s.given c) job.task
    writes c a (v, e, h, k, t) =
        let o = of_one s l booked v e h a.entry a.listed (a.number ∙ sym t) a.access (subst (λ (x : ℕ). access_at a.entry.accesses x ≡ Some a.access) (sym k) a.at_) in
        subst (λ (x : ℕ). IsWriteSatisfied (opened_forest s.opens s.given x) job.task) k (subst (λ (x : ℕ). IsWriteSatisfied (opened_forest s.opens s.given e.cell) x) t ((lets v e h t).writes (sym o.1 ∙ a.strong) (sym o.0 ∙ a.mode_is)))

pub met_back : (s : Seen) (l : Ledger) (t : ℕ) → IsBooked s l → (v : ℕ) (e : Entry) → entry_of l.entries v ≡ Some e → e.task ≡ t → IsMet s.opens s.given t → IsLet s.opens s.given e
met_back s l t booked v e is same met = record {
  reads = λ strong mode. subst (λ (x : ℕ). IsReadSatisfied (opened_forest s.opens s.given e.cell) x) (sym same) (met.reads e.cell (asks Read strong mode));
  writes = λ strong mode. subst (λ (x : ℕ). IsWriteSatisfied (opened_forest s.opens s.given e.cell) x) (sym same) (met.writes e.cell (asks Write strong mode));
}
  where
    asks : (m : Mode) → e.info.strong ≡ true → e.info.mode ≡ m → Asks s.opens t e.cell m
    asks m strong mode =
        let r = booked.of_open v e is in
        record { entry = r.entry; listed = r.listed; number = r.of.task ∙ same; access = r.of.access; at_ = r.of.at_; mode_is = r.of.mode ∙ mode; strong = r.of.strong ∙ strong }

-- the children of an entry, or of main, by the last of the list
module _ (s : Seen) (l : Ledger) (sound : IsSound l) (booked : IsBooked s l) (c t p : ℕ) (at : IsAccessOrMain (IsAccessOf (task_of l.entries c)) t p) where
  are : Rattle.oss_links.specs.Held.AreHeld s.opens s.given c (lists_of l c) (IsAccessOf (task_of l.entries c))
  are = booked.held c

  all : AreChildrenDone s.opens s.given t c ↔ Rattle.oss_access_lists.specs.Flags.AreBelowDone (lists_of l c) p
  all = children_are s.opens s.given c (lists_of l c) (IsAccessOf (task_of l.entries c)) booked.opens_are.ordered are t p at

  pub none_below : last_of l c p ≡ 0 → AreChildrenDone s.opens s.given t c
  none_below z = all.1 (λ u b. absurd (are.wired.empty p u z b))

  pub last_row : (last_of l c p ≡ 0 → ⊥) → (x : Entry) × (row l.entries c (last_of l c p) ≡ Some x)
  last_row n = row_below l sound c p (last_of l c p) (are.wired.listed p (last_of l c p) refl n)

  pub last_forth : (last_of l c p ≡ 0 → ⊥) → IsListDone (lists_of l c) (last_of l c p) → AreChildrenDone s.opens s.given t c
  last_forth n d = all.1 (λ u b. go u (are.wired.all_before p u (last_of l c p) refl b))
    where
      go : (u : ℕ) → (u ≡ last_of l c p) ⊎ IsBefore (lists_of l c).place u (last_of l c p) → IsDone (wired (lists_of l c)) u
      go u (inl e) = subst (λ (x : ℕ). IsDone (wired (lists_of l c)) x) (sym e) d.last
      go u (inr b) = d.before u b

  pub last_back : (last_of l c p ≡ 0 → ⊥) → AreChildrenDone s.opens s.given t c → IsListDone (lists_of l c) (last_of l c p)
  last_back n d = record {
    last = all.0 d (last_of l c p) (are.wired.listed p (last_of l c p) refl n);
    before = λ u b. all.0 d u (Rattle.oss_access_lists.proofs.CompleteLemmas.listed_before (lists_of l c).place p u (last_of l c p) (are.wired.listed p (last_of l c p) refl n) b);
  }

-- the job of a task
pub job_there : (s : Seen) (l : Ledger) (t : ℕ) → IsBooked s l → IsKnown s.opens t → (t ≡ 0 → ⊥) → (n : ℕ) × IsJobOf l.jobs n t
job_there s l t booked (inl z) n = absurd (n z)
job_there s l t booked (inr o) n =
    let i = in_get s.opens o.listed in
    let w = get_within s.opens i.0 o.entry i.1 in
    let j = get_there l.jobs i.0 (omega (arith, w, booked.jobs.size)) in
    (i.0, record { job = j.0; is = j.1; task = (booked.jobs.tasks i.0 o.entry j.0 i.1 j.1).0 ∙ o.number })

pub job_for : (s : Seen) (l : Ledger) (t n : ℕ) (job : Job) → IsBooked s l → IsJobOf l.jobs n t → slice_get l.jobs n ≡ Some job → (m : ℕ) × (slice_get l.jobs m ≡ Some job) × (job.task ≡ t) × IsJob l.entries job
job_for s l t n job booked is at = (n, at, ap (λ (j : Job). j.task) (some_is (sym at ∙ is.is)) ∙ is.task, booked.jobs.are n job at)

-- what is read of the last of a list tells of the children
module _ (s : Seen) (l : Ledger) (sound : IsSound l) (booked : IsBooked s l) (c t p : ℕ) (at : IsAccessOrMain (IsAccessOf (task_of l.entries c)) t p) (last : ℕ) (is : last ≡ last_of l c p) where
  nonzero : (last ≡ 0 → ⊥) → last_of l c p ≡ 0 → ⊥
  nonzero n z = n (is ∙ z)

  row_of : (last ≡ 0 → ⊥) → (x : Entry) × (entry_of l.entries last ≡ Some x) × (x.cell ≡ c)
  row_of n =
      let x = last_row s l sound booked c t p at (nonzero n) in
      let e = row_entry l.entries c (last_of l c p) x.0 x.1 in
      (x.0, ap (entry_of l.entries) is ∙ e.0, e.1)

  pub last_within : last ≤ length l.entries
  last_within = go (same_or last 0)
    where
      go : (last ≡ 0) ⊎ (last ≡ 0 → ⊥) → last ≤ length l.entries
      go (inl z) = omega (arith, z)
      go (inr n) = let x = row_of n in (entry_within l.entries last x.0 x.1).1

  pub done_is : (b : Bool) → (last ≡ 0 → IsTrue b) → ((e : Entry) → entry_of l.entries last ≡ Some e → (IsTrue b → IsListDone (lists_of l e.cell) last) × (IsListDone (lists_of l e.cell) last → IsTrue b))
      → (IsTrue b → AreChildrenDone s.opens s.given t c) × (AreChildrenDone s.opens s.given t c → IsTrue b)
  done_is b none done = go (same_or last 0)
    where
      go : (last ≡ 0) ⊎ (last ≡ 0 → ⊥) → (IsTrue b → AreChildrenDone s.opens s.given t c) × (AreChildrenDone s.opens s.given t c → IsTrue b)
      go (inl z) = (λ h. none_below s l sound booked c t p at (sym is ∙ z), λ h. none z)
      go (inr n) =
          let x = row_of n in
          let d = done x.0 x.1 in (
            λ h. last_forth s l sound booked c t p at (nonzero n) (subst (λ (v : ℕ). IsListDone (lists_of l c) v) is (subst (λ (k : ℕ). IsListDone (lists_of l k) last) x.2 (d.0 h))),
            λ h. d.1 (subst (λ (k : ℕ). IsListDone (lists_of l k) last) (sym x.2) (subst (λ (v : ℕ). IsListDone (lists_of l c) v) (sym is) (last_back s l sound booked c t p at (nonzero n) h))),
          )

-- where the last is read
pub main_last : (l : Ledger) → IsSound l → (c last : ℕ) → c < 1048576 → last ≡ get_or l.mains c last → last ≡ last_of l c 0
main_last l sound c last less is = is ∙ sym (ap or_zero (Rattle.oss_word_deps.proofs.LookupLemmas.get_is l.mains c last (omega (arith, less, sound.mains))))

pub task_last : (l : Ledger) → IsSound l → (v : ℕ) (e : Entry) (mark : Mark) → entry_of l.entries v ≡ Some e → mark ≡ get_or l.marks (v - 1) mark → mark.last ≡ last_of l e.cell v
task_last l sound zero e mark h is = absurd (some_none (sym h))
task_last l sound (suc n) e mark h is =
    let w = (entry_within l.entries (suc n) e h).1 in
    let k : suc n - 1 ≡ n = omega arith in
    let at : mark_of l.marks (suc n) ≡ mark = ap Rattle.oss_word_deps.specs.Ledger.or_none (Rattle.oss_word_deps.proofs.LookupLemmas.get_is l.marks n mark (omega (arith, w, sound.marks))) ∙ sym (is ∙ ap (λ (i : ℕ). get_or l.marks i mark) k) in
    sym (ap (λ (r : Option Entry). last_in r (mark_of l.marks (suc n))) (row_is l.entries e.cell (suc n) e h refl) ∙ ap (λ (m : Mark). m.last) at)

pub task_at : (l : Ledger) (job : Job) → IsJob l.entries job → (v : ℕ) (e : Entry) → job.first ≤ v → v < job.end → entry_of l.entries v ≡ Some e → IsAccessOrMain (IsAccessOf (task_of l.entries e.cell)) job.task v
task_at l job is v e a b h = inr (ap task_in (row_is l.entries e.cell v e h refl) ∙ ap (λ (x : ℕ). Some x) (is.of_task v e a b h).0)

-- a loop over numbers
pub next_case : (v n : ℕ) (P : Type 0) → v < n + 1 → (v < n → P) → (v ≡ n → P) → P
next_case v n P k f g = go (compared v n)
  where
    go : (v < n) ⊎ ((v ≡ n) ⊎ (n < v)) → P
    go (inl h) = f h
    go (inr (inl h)) = g h
    go (inr (inr h)) = absurd (omega (arith, h, k))

-- all cells of a range, by the entries of a task between its ends
pub between : (entries : List Entry) (job : Job) (range : Range) (from upto : ℕ) → Rattle.oss_word_deps.proofs.GiveLemmas.AreEnds entries job range from upto → (v : ℕ) (e : Entry) → job.first ≤ v → v < job.end → entry_of entries v ≡ Some e → range.lo ≤ e.cell → e.cell < range.hi → (from ≤ v) × (v < upto)
between entries job range from upto ends v e a b h lo hi = (low (compared v from), high (compared v upto))
  where
    low : (v < from) ⊎ ((v ≡ from) ⊎ (from < v)) → from ≤ v
    low (inl k) = let x = ends.below v e a k h in absurd (omega (arith, x, lo))
    low (inr (inl k)) = omega (arith, k)
    low (inr (inr k)) = omega (arith, k)

    high : (v < upto) ⊎ ((v ≡ upto) ⊎ (upto < v)) → v < upto
    high (inl k) = k
    high (inr (inl k)) = let x = ends.behind v e (omega (arith, k)) b h in absurd (omega (arith, x, hi))
    high (inr (inr k)) = let x = ends.behind v e (omega (arith, k)) b h in absurd (omega (arith, x, hi))

pub all_done : (s : Seen) (l : Ledger) (job : Job) (range : Range) (from upto : ℕ) → IsBooked s l → IsJob l.entries job → IsOpened s.opens job.task → Rattle.oss_word_deps.proofs.GiveLemmas.AreEnds l.entries job range from upto
    → ((v : ℕ) (e : Entry) → from ≤ v → v < upto → entry_of l.entries v ≡ Some e → AreChildrenDone s.opens s.given job.task e.cell) → (c : ℕ) → range.lo ≤ c → c < range.hi → AreChildrenDone s.opens s.given job.task c
all_done s l job range from upto booked is opened ends f c lo hi = go (Rattle.oss_deps.proofs.Basics.bools (names c opened.entry))
  where
    go : (names c opened.entry ≡ true) ⊎ (names c opened.entry ≡ false) → AreChildrenDone s.opens s.given job.task c
    go (inl h) =
        let v = (booked.held c).held job.task (record { entry = opened.entry; listed = opened.listed; number = opened.number; named = h }) in
        let r = row_task l.entries c job.task v.0 v.1 in
        let a = is.all v.0 r.entry r.is r.task in
        let b = between l.entries job range from upto ends v.0 r.entry a.0 a.1 r.is (omega (arith, lo, r.cell)) (omega (arith, hi, r.cell)) in
        subst (λ (k : ℕ). AreChildrenDone s.opens s.given job.task k) r.cell (f v.0 r.entry b.0 b.1 r.is)
    go (inr h) = no_child s.opens s.given c (lists_of l c) (IsAccessOf (task_of l.entries c)) job.task booked.opens_are.covered (booked.held c) (λ z. Rattle.oss_deps.proofs.OpenLemmas.not_main booked.opens_are.ordered opened.entry opened.listed (opened.number ∙ z)) none
      where
        none : (v : ℕ) → task_of l.entries c v ≡ Some job.task → ⊥
        none v q =
            let o = (booked.held c).opened job.task v q in
            let one : o.entry ≡ opened.entry = one_entry booked.opens_are.ordered o.entry opened.entry o.listed opened.listed (o.number ∙ sym opened.number) in
            Rattle.oss_deps.proofs.Basics.clash (names c opened.entry) (subst (λ (x : Open). names c x ≡ true) one o.named) h
