-- A task is opened in a book with its net, and a book is empty.
use Rattle.std.proofs.Common.{◌≡◌, ℕ, zero, suc, ◌<◌, ◌≤◌, ◌⊎◌, inl, inr, refl, sym, ap, subst, ◌∙◌, true, false, List, [], ◌∷◌, ◌++◌, Option, Some, None, length, arith, ◌||◌}
use Rattle.std.specs.Prelude.{slice_get, slice_index}
use Rattle.oss_syntax.specs.declared.access.Access.{Access}
use Rattle.oss_deps.specs.declared.opened.Open.{Open}
use Rattle.oss_deps.specs.Opens.{AreOpens, names, none}
use Rattle.oss_deps.specs.Seen.{CanOpen, HasHeldCover, IsNew, Opens, Seen, is_access_end}
use Rattle.oss_deps.proofs.Basics.{clash, compared, some_is, some_none}
use Rattle.oss_deps.proofs.OpenLemmas.{in_last, named_at, one_entry}
use Rattle.oss_words.specs.Views.{Among}
use Rattle.oss_links.specs.Held.{AreEmpty, AreHeld, IsAccessOf, IsUnder, under_main, under_task}
use Rattle.oss_links.proofs.ClaimLemmas.{empty_lists_hold}
use Rattle.oss_word_net.specs.Known.{Known}
use Rattle.oss_word_deps.specs.declared.entry.Entry.{Entry}
use Rattle.oss_word_deps.specs.declared.entry.Job.{Job}
use Rattle.oss_word_deps.specs.declared.entry.Mark.{Mark}
use Rattle.oss_word_deps.specs.Booked.{IsBooked}
use Rattle.oss_word_deps.specs.Growing.{IsFrontOf, MayExtend}
use Rattle.oss_word_deps.specs.Known.{Follows, HasGiven, HasLinked, IsAlone}
use Rattle.oss_word_deps.specs.Ledger.{Ledger, entry_of, given_in, last_of, lists_of, mark_of, or_zero, row, task_in, task_of}
use Rattle.oss_word_deps.specs.Shelved.{IsJobFor, MayOpenAs}
use Rattle.oss_word_deps.specs.Sound.{IsSound}
use Rattle.oss_word_deps.proofs.BookedLemmas.{row_task}
use Rattle.oss_word_deps.proofs.LedgerLemmas.{mark_beyond, row_entry, row_is}
use Rattle.oss_word_deps.proofs.SoundLemmas.{parent_below}

-- what a system is seen as once a task is opened
pub opened : Seen → Open → Seen
opened s o = record { opens = s.opens ++ o ∷ []; given = s.given; cut = λ k. s.cut k || is_access_end o.accesses k; reserved = None }

pub opened_is : (s : Seen) (o : Open) → Opens o s (opened s o)
unfolding opened
opened_is s o = record { opens = refl; given = λ t c. refl; cuts = λ k. refl; reserved = refl }

-- the creator as its book has it
pub may_extend : (s : Seen) (o : Open) (task parent : ℕ) (accesses : List Access) (l : Ledger) (creator : Option Job) → IsSound l → MayOpenAs s o task parent accesses l → IsJobFor l parent creator → MayExtend s o creator l
may_extend s o task parent accesses l creator sound may job = record { booked = may.booked; sound = sound; can = may.can; creator_is = (none_is creator job, some_job creator job) }
  where
    none_is : (k : Option Job) → IsJobFor l parent k → k ≡ None → o.parent ≡ 0
    none_is None j e = may.parent_is ∙ j
    none_is (Some x) j e = absurd (some_none e)

    some_job : (k : Option Job) → IsJobFor l parent k → (j : Job) → k ≡ Some j → (n : ℕ) × (slice_get l.jobs n ≡ Some j) × (j.task ≡ o.parent)
    some_job None j x e = absurd (some_none (sym e))
    some_job (Some y) j x e = let one = some_is e in (j.0, subst (λ (z : Job). slice_get l.jobs j.0 ≡ Some z) one j.1, ap (λ (z : Job). z.task) (sym one) ∙ (j.2 ∙ sym may.parent_is))

-- the parent of a new entry holds the cell
pub parents_hold : (s t : Seen) (o : Open) (m : Ledger) → CanOpen s o → Opens o s t → IsBooked t m → IsSound m → (v : ℕ) (e : Entry) → entry_of m.entries v ≡ Some e → e.task ≡ o.task → (mark_of m.marks e.info.parent).given ≡ false
parents_hold s t o m can now booked sound v e is same = go (are.under o v listed named entry)
  where
    c : ℕ
    c = e.cell

    are : AreHeld t.opens t.given e.cell (lists_of m e.cell) (IsAccessOf (task_of m.entries e.cell))
    are = booked.held e.cell

    here : row m.entries e.cell v ≡ Some e
    here = row_is m.entries e.cell v e is refl

    entry : task_of m.entries e.cell v ≡ Some o.task
    entry = ap task_in here ∙ ap (λ (x : ℕ). Some x) same

    listed : Rattle.oss_model.specs.Order.IsIn o t.opens
    listed = subst (λ (os : List Open). Rattle.oss_model.specs.Order.IsIn o os) (sym now.opens) (in_last s.opens o)

    named : names e.cell o ≡ true
    named =
        let r = booked.of_open v e is in
        let one : r.entry ≡ o = one_entry booked.opens_are.ordered r.entry o r.listed listed (r.of.task ∙ same) in
        subst (λ (q : Open). names e.cell q ≡ true) one (named_at r.entry e.cell r.of.access r.of.at_)

    not_main : o.parent ≡ 0 → (p : ℕ) → task_of m.entries e.cell p ≡ Some o.parent → ⊥
    not_main z p q = (are.not_main o.parent p q).0 z

    held : (p : ℕ) → task_of m.entries e.cell p ≡ Some o.parent → (o.parent ≡ 0) ⊎ HasHeldCover s e.cell o → (mark_of m.marks p).given ≡ false
    held p q (inl z) = absurd (not_main z p q)
    held p q (inr h) =
        let x = row_task m.entries e.cell o.parent p q in
        let at = row_is m.entries e.cell p x.entry x.is x.cell in
        sym (ap (λ (r : Option Entry). given_in r (mark_of m.marks p)) at) ∙ (sym (are.gave o.parent p q) ∙ (now.given o.parent e.cell ∙ h.held))

    go : IsUnder (IsAccessOf (task_of m.entries e.cell)) (lists_of m e.cell) o.parent v → (mark_of m.marks e.info.parent).given ≡ false
    go (under_main z b) = ap (λ (x : ℕ). (mark_of m.marks x).given) (parent_below m sound e.cell 0 v e here b)
    go (under_task p q b) = ap (λ (x : ℕ). (mark_of m.marks x).given) (parent_below m sound e.cell p v e here b) ∙ held p q (can.covered e.cell named)

-- what was given up before is not the parent
pub parent_free : (l m : Ledger) (k : Known) (size p : ℕ) → Follows k size l → IsFrontOf l m → (mark_of m.marks p).given ≡ false → Among p k.view.gives → ⊥
parent_free l m k size p f front h g = clash (mark_of l.marks p).given (f.given.gives p g).0 (sym (front.given p) ∙ h)

-- the net follows the longer book
pub follows_on : (l m : Ledger) (a b : Known) (size : ℕ) → Follows a size l → IsSound l → IsSound m → IsFrontOf l m → IsAlone b size → b.view.held ≡ [] → HasLinked b m.entries (length m.entries) → b.view.gives ≡ a.view.gives → length m.entries < size → Follows b size m
follows_on l m a b size f sound_l sound_m front alone empty linked same within = record {
  alone = alone;
  empty = empty;
  linked = linked;
  given = record { gives = gives; given = given };
  within = within;
  most = f.most;
}
  where
    longer : length l.marks ≤ length m.marks
    longer = let k = Rattle.oss_word_deps.proofs.WritingLemmas.front_length l m front in omega (arith, k, sound_l.marks, sound_m.marks)

    gives : (v : ℕ) → Among v b.view.gives → ((mark_of m.marks v).given ≡ true) × (v ≤ length m.marks)
    gives v h = let r = f.given.gives v (subst (λ (xs : List ℕ). Among v xs) same h) in (front.given v ∙ r.0, (let k = r.1 in omega (arith, k, longer)))

    given : (v : ℕ) → v ≤ length m.marks → (mark_of m.marks v).given ≡ true → Among v b.view.gives
    given v k h = subst (λ (xs : List ℕ). Among v xs) (sym same) (go (compared v (length l.marks)))
      where
        old : (mark_of l.marks v).given ≡ true
        old = sym (front.given v) ∙ h

        go : (v < length l.marks) ⊎ ((v ≡ length l.marks) ⊎ (length l.marks < v)) → Among v a.view.gives
        go (inl x) = f.given.given v (omega (arith, x)) old
        go (inr (inl x)) = f.given.given v (omega (arith, x)) old
        go (inr (inr x)) = clash (mark_of l.marks v).given old (ap (λ (y : Mark). y.given) (mark_beyond l.marks v x))

-- nothing is written yet
nothing : {A : Type 0} (i : ℕ) (x : A) → slice_get [] i ≡ Some x → ⊥
nothing i x h = some_none (sym h)

no_entry : (v : ℕ) (e : Entry) → entry_of [] v ≡ Some e → ⊥
no_entry zero e h = some_none (sym h)
no_entry (suc n) e h = nothing n e h

pub empty_sound : (l : Ledger) → l.entries ≡ [] → l.marks ≡ [] → length l.mains ≡ 1048576 → IsSound l
empty_sound l entries marks mains = record {
  fits = λ v e h. absurd (no_entry v e (ap (λ (es : List Entry). entry_of es v) (sym entries) ∙ h));
  marks = ap (λ (ms : List Mark). length ms) marks ∙ sym (ap (λ (es : List Entry). length es) entries);
  mains = mains;
}

pub empty_booked : (l : Ledger) → l.entries ≡ [] → l.jobs ≡ [] → ((c : ℕ) → or_zero (slice_get l.mains c) ≡ 0) → (s : Seen) → IsNew s → IsBooked s l
empty_booked l entries jobs mains s new = record {
  opens_are = subst AreOpens (sym new.opens) (record { ordered = none; covered = λ c o i. elim i [ ]; rooted = λ o i. elim i [ ]; once = λ o i. elim i [ ] });
  held = λ c. subst (λ (os : List Open). AreHeld os s.given c (lists_of l c) (IsAccessOf (task_of l.entries c))) (sym new.opens) (empty_lists_hold s.given c (lists_of l c) (task_of l.entries c) (empty c) (λ v. ap task_in (no_row c v)));
  of_open = λ v e h. absurd (no_entry v e (ap (λ (es : List Entry). entry_of es v) (sym entries) ∙ h));
  jobs = record {
    size = ap (λ (js : List Job). length js) jobs ∙ sym (ap (λ (os : List Open). length os) new.opens);
    tasks = λ n o j h k. absurd (nothing n j (ap (λ (js : List Job). slice_get js n) (sym jobs) ∙ k));
    are = λ n j h. absurd (nothing n j (ap (λ (js : List Job). slice_get js n) (sym jobs) ∙ h));
  };
  given_by = λ t c h. clash (s.given t c) h (new.given t c);
}
  where
    no_row : (c v : ℕ) → row l.entries c v ≡ None
    no_row c v = go (Rattle.oss_deps.proofs.Basics.options (row l.entries c v))
      where
        go : (row l.entries c v ≡ None) ⊎ ((e : Entry) × (row l.entries c v ≡ Some e)) → row l.entries c v ≡ None
        go (inl h) = h
        go (inr (e, h)) = absurd (no_entry v e (ap (λ (es : List Entry). entry_of es v) (sym entries) ∙ (row_entry l.entries c v e h).0))

    empty : (c : ℕ) → AreEmpty (lists_of l c)
    empty c = record { places = λ v. ap Rattle.oss_word_deps.specs.Ledger.place_in (no_row c v); lasts = lasts; main_mode = refl; main_holds = refl }
      where
        lasts : (v : ℕ) → last_of l c v ≡ 0
        lasts zero = mains c
        lasts (suc n) = ap (λ (r : Option Entry). Rattle.oss_word_deps.specs.Ledger.last_in r (mark_of l.marks (suc n))) (no_row c (suc n))

pub empty_follows : (l : Ledger) (k : Known) (size : ℕ) → l.entries ≡ [] → l.marks ≡ [] → 2 ≤ size → size ≤ 16777216 → IsAlone k size → k.view.held ≡ [] → k.view.links ≡ [] → k.view.gives ≡ [] → Follows k size l
empty_follows l k size entries marks two most alone empty links gives = record {
  alone = alone;
  empty = empty;
  linked = subst (λ (n : ℕ). HasLinked k l.entries n) (sym (ap (λ (es : List Entry). length es) entries)) (Rattle.oss_word_deps.proofs.FollowLemmas.none_linked l.entries k links);
  given = subst (λ (n : ℕ). HasGiven k l.marks n) (sym (ap (λ (ms : List Mark). length ms) marks)) (Rattle.oss_word_deps.proofs.FollowLemmas.none_given l.marks k gives);
  within = (let e = ap (λ (es : List Entry). length es) entries in omega (arith, e, two));
  most = most;
}

-- a row of zeros
pub zero_at : (xs : List ℕ) → ((k : ℕ) → slice_index xs k ≡ 0) → (k : ℕ) → or_zero (slice_get xs k) ≡ 0
zero_at [] h k = refl
zero_at (x ∷ xs) h zero = h 0
zero_at (x ∷ xs) h (suc k) = zero_at xs (λ i. h (suc i)) k
