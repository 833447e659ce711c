-- What the flags of a net at rest tell of the tasks that were opened.
use Rattle.std.proofs.Common.{◌≡◌, ◌≢◌, ℕ, ◌<◌, ◌⊎◌, inl, inr, refl, sym, ap, subst, ◌∙◌, true, false, Option, Some, length, arith, ◌&&◌}
use Rattle.oss_syntax.specs.declared.access.Mode.{Mode}
use Rattle.oss_syntax.specs.declared.access.Op.{Op}
use Rattle.oss_syntax.specs.declared.access.Mode.TheVariants.{Read, Write, Fold}
use Rattle.oss_model.specs.Forest.{Forest, IsDone, IsJoinSatisfied}
use Rattle.oss_model.specs.Matching.{HaveSameFlags, IsNear, Matches, above, before, below}
use Rattle.oss_model.proofs.MatchingLemmas.{same_flags}
use Rattle.oss_deps.specs.Seen.{Seen}
use Rattle.oss_deps.proofs.Basics.{both, clash, compared, some_is}
use Rattle.oss_words.specs.declared.entry.After.{After}
use Rattle.oss_words.specs.declared.entry.After.TheVariants.{FirstOf, FirstOfMain, Sibling}
use Rattle.oss_words.specs.declared.entry.EntryState.{EntryState}
use Rattle.oss_words.specs.Net.{Child, Earlier, Place, Top, after, apart, first, top}
use Rattle.oss_words.specs.Net as net_of
use Rattle.oss_words.specs.Quiet.{Exact, forest_told}
use Rattle.oss_access_lists.specs.declared.marks.Marks.{Marks}
use Rattle.oss_access_lists.specs.Flags.{Clear, Done, Given, MayJoin, MayRead, MayWrite, is_fold}
use Rattle.oss_access_lists.specs.Wires.{IsBefore, IsBelow, Wires, wired}
use Rattle.oss_access_lists.specs.Wires as wires_of
use Rattle.oss_links.specs.Readings.{AreTrue, TellOfTask}
use Rattle.oss_links.proofs.ReadLemmas.{flags_tell}
use Rattle.oss_word_net.specs.Calls.{place_of}
use Rattle.oss_word_net.specs.Known.{Known, Rests}
use Rattle.oss_word_deps.specs.declared.entry.Entry.{Entry}
use Rattle.oss_word_deps.specs.Booked.{IsBooked}
use Rattle.oss_word_deps.specs.Known.{Follows}
use Rattle.oss_word_deps.specs.Ledger.{Ledger, entry_of, hangs_at, lists_of, mark_of, mode_of, row, task_in}
use Rattle.oss_word_deps.specs.Sound.{IsPlaced, IsSound}
use Rattle.oss_word_deps.proofs.LedgerLemmas.{entry_within, mark_beyond, row_entry, row_is}
use Rattle.oss_word_deps.proofs.SoundLemmas.{hung_row, parent_below, row_below, sibling_of}

-- the flags of a state word, where that of a join counts for a reduction alone
abbrev pub marks_at : Mode → EntryState → Marks
marks_at m c = record { reads = c.reads; joins = c.folds && is_fold m; writes = c.writes; given = c.given; done = c.done; clear = c.clear }

-- the place tells where an entry is linked
at_top : (a : After) → place_of a ≡ top → a ≡ FirstOfMain
at_top FirstOfMain h = refl
at_top (FirstOf p) h = absurd cc
at_top (Sibling o) h = absurd cc

at_first : (a : After) (p : ℕ) → place_of a ≡ first p → a ≡ FirstOf p
at_first FirstOfMain p h = absurd cc
at_first (FirstOf q) p h = ap FirstOf (let e : q ≡ p = cc in e)
at_first (Sibling o) p h = absurd cc

at_after : (a : After) (o : ℕ) → place_of a ≡ after o → a ≡ Sibling o
at_after FirstOfMain o h = absurd cc
at_after (FirstOf q) o h = absurd cc
at_after (Sibling u) o h = ap Sibling (let e : u ≡ o = cc in e)

somewhere : (p : Place) → (p ≢ apart → ⊥) → p ≡ apart
somewhere apart n = refl
somewhere top n = absurd (n (λ e. cc))
somewhere (first q) n = absurd (n (λ e. cc))
somewhere (after q) n = absurd (n (λ e. cc))

module _ (l : Ledger) (sound : IsSound l) (k : Known) (size : ℕ) (follows : Follows k size l) (v : ℕ) (state : EntryState) (r : Rests k v state) where
  abbrev pub F : Forest ℕ
  F = forest_told r.place r.gave r.info

  -- what hangs is an entry
  hangs : (u : ℕ) → r.place u ≢ apart → (x : Entry) × (entry_of l.entries u ≡ Some x)
  hangs u h = let i = follows.linked.links u (r.place u) (r.links u h) in (i.entry, i.is)

  place_is : (u : ℕ) (x : Entry) → entry_of l.entries u ≡ Some x → r.place u ≡ place_of x.after
  place_is u x h = (r.linked u (place_of x.after) (follows.linked.linked u x (entry_within l.entries u x h).1 h)).0

  info_is : (u : ℕ) (x : Entry) → entry_of l.entries u ≡ Some x → r.info u ≡ x.info
  info_is u x h = r.told (record { entry = u; info = x.info }) (follows.linked.told u x (entry_within l.entries u x h).1 h)

  gave_forth : (u : ℕ) → (mark_of l.marks u).given ≡ true → r.gave u ≡ true
  gave_forth u h = r.given u (go (compared u (length l.marks)))
    where
      go : (u < length l.marks) ⊎ ((u ≡ length l.marks) ⊎ (length l.marks < u)) → Rattle.oss_words.specs.Views.Among u k.view.gives
      go (inl m) = follows.given.given u (omega (arith, m)) h
      go (inr (inl m)) = follows.given.given u (omega (arith, m)) h
      go (inr (inr m)) = clash (mark_of l.marks u).given h (ap (λ (x : Rattle.oss_word_deps.specs.declared.entry.Mark.Mark). x.given) (mark_beyond l.marks u m))

  gave_back : (u : ℕ) → r.gave u ≡ true → (mark_of l.marks u).given ≡ true
  gave_back u h = (follows.given.gives u (r.gives u h)).0

  module _ (c : ℕ) where
    abbrev pub W : Wires
    W = lists_of l c

    -- the rows of the cell
    at_row : (u : ℕ) (x : Entry) → row l.entries c u ≡ Some x → entry_of l.entries u ≡ Some x
    at_row u x h = (row_entry l.entries c u x h).0

    placed : (u : ℕ) (x : Entry) (a : After) → row l.entries c u ≡ Some x → x.after ≡ a → IsPlaced l.entries u x a
    placed u x a h s = subst (λ (b : After). IsPlaced l.entries u x b) s (sound.fits u x (at_row u x h)).placed

    place_row : (u : ℕ) (x : Entry) → row l.entries c u ≡ Some x → W.place u ≡ hangs_at x.after
    place_row u x h = ap Rattle.oss_word_deps.specs.Ledger.place_in h

    place_here : (u : ℕ) (x : Entry) → row l.entries c u ≡ Some x → r.place u ≡ place_of x.after
    place_here u x h = place_is u x (at_row u x h)

    -- the sibling before and the entry above are rows too
    sibling_row : (u o : ℕ) (x : Entry) → row l.entries c u ≡ Some x → x.after ≡ Sibling o → (y : Entry) × (row l.entries c o ≡ Some y)
    sibling_row u o x h s = let b = placed u x (Sibling o) h s in (b.sibling, row_is l.entries c o b.sibling b.is (b.cell ∙ (row_entry l.entries c u x h).1))

    above_row : (u p : ℕ) (x : Entry) → row l.entries c u ≡ Some x → x.info.parent ≡ p → (p ≡ 0 → ⊥) → (y : Entry) × (row l.entries c p ≡ Some y)
    above_row u p x h s n =
        let b = (sound.fits u x (at_row u x h)).below (λ z. n (sym s ∙ z)) in
        (b.above, row_is l.entries c p b.above (ap (entry_of l.entries) (sym s) ∙ b.is) (b.cell ∙ (row_entry l.entries c u x h).1))

    -- main's list
    top_forth : (u : ℕ) → IsBelow W.place 0 u → Top r.place u
    top_forth u (wires_of.head h) = go (hung_row l sound c u (wires_of.first 0) h (λ z. cc))
      where
        at : (x : Entry) → row l.entries c u ≡ Some x → (a : After) → x.after ≡ a → hangs_at a ≡ wires_of.first 0 → Top r.place u
        at x g FirstOfMain s q = net_of.top_first (place_here u x g ∙ ap place_of s)
        at x g (FirstOf p) s q = absurd ((placed u x (FirstOf p) g s).1 (let e : p ≡ 0 = cc in e))
        at x g (Sibling o) s q = absurd cc

        go : (x : Entry) × (row l.entries c u ≡ Some x) → Top r.place u
        go (x, g) = at x g x.after refl (sym (place_row u x g) ∙ h)
    top_forth u (wires_of.tail {u = o} h b) =
        let x = hung_row l sound c u (wires_of.after o) h (λ z. cc) in
        net_of.top_after (place_here u x.0 x.1 ∙ ap place_of (sibling_of l sound c u o x.0 x.1 h)) (top_forth o b)

    top_back : (u : ℕ) (x : Entry) → row l.entries c u ≡ Some x → Top r.place u → IsBelow W.place 0 u
    top_back u x h (net_of.top_first e) = wires_of.head (place_row u x h ∙ ap hangs_at (at_top x.after (sym (place_here u x h) ∙ e)))
    top_back u x h (net_of.top_after {s = o} e t) =
        let s = at_after x.after o (sym (place_here u x h) ∙ e) in
        let y = sibling_row u o x h s in
        wires_of.tail (place_row u x h ∙ ap hangs_at s) (top_back o y.0 y.1 t)

    -- the list of an entry
    child_forth : (p u : ℕ) → (p ≡ 0 → ⊥) → IsBelow W.place p u → Child r.place p u
    child_forth p u n (wires_of.head h) = go (hung_row l sound c u (wires_of.first p) h (λ z. cc))
      where
        at : (x : Entry) → row l.entries c u ≡ Some x → (a : After) → x.after ≡ a → hangs_at a ≡ wires_of.first p → Child r.place p u
        at x g FirstOfMain s q = absurd (n (let e : 0 ≡ p = cc in sym e))
        at x g (FirstOf w) s q = net_of.eldest (place_here u x g ∙ (ap place_of s ∙ ap first (let e : w ≡ p = cc in e)))
        at x g (Sibling o) s q = absurd cc

        go : (x : Entry) × (row l.entries c u ≡ Some x) → Child r.place p u
        go (x, g) = at x g x.after refl (sym (place_row u x g) ∙ h)
    child_forth p u n (wires_of.tail {u = o} h b) =
        let x = hung_row l sound c u (wires_of.after o) h (λ z. cc) in
        net_of.younger (place_here u x.0 x.1 ∙ ap place_of (sibling_of l sound c u o x.0 x.1 h)) (child_forth p o n b)

    child_back : (p u : ℕ) (x : Entry) → row l.entries c u ≡ Some x → Child r.place p u → (p ≡ 0 → ⊥) × IsBelow W.place p u
    child_back p u x h (net_of.eldest e) =
        let s = at_first x.after p (sym (place_here u x h) ∙ e) in
        ((placed u x (FirstOf p) h s).1, wires_of.head (place_row u x h ∙ ap hangs_at s))
    child_back p u x h (net_of.younger {s = o} e t) =
        let s = at_after x.after o (sym (place_here u x h) ∙ e) in
        let y = sibling_row u o x h s in
        let b = child_back p o y.0 y.1 t in
        (b.0, wires_of.tail (place_row u x h ∙ ap hangs_at s) b.1)

    -- siblings
    before_forth : (o u : ℕ) (x : Entry) → row l.entries c u ≡ Some x → IsBefore W.place o u → Earlier r.place o u
    before_forth o u x h (wires_of.next e) = net_of.next (place_here u x h ∙ ap place_of (sibling_of l sound c u o x h e))
    before_forth o u x h (wires_of.later {t = t} e b) =
        let s = sibling_of l sound c u t x h e in
        let y = sibling_row u t x h s in
        net_of.back (place_here u x h ∙ ap place_of s) (before_forth o t y.0 y.1 b)

    before_back : (o u : ℕ) (x : Entry) → row l.entries c u ≡ Some x → Earlier r.place o u → IsBefore W.place o u
    before_back o u x h (net_of.next e) = wires_of.next (place_row u x h ∙ ap hangs_at (at_after x.after o (sym (place_here u x h) ∙ e)))
    before_back o u x h (net_of.back {t = t} e b) =
        let s = at_after x.after t (sym (place_here u x h) ∙ e) in
        let y = sibling_row u t x h s in
        wires_of.later (place_row u x h ∙ ap hangs_at s) (before_back o t y.0 y.1 b)

    -- who is near a row is one
    row_before : (o u : ℕ) (x : Entry) → row l.entries c u ≡ Some x → Earlier r.place o u → (y : Entry) × (row l.entries c o ≡ Some y)
    row_before o u x h (net_of.next e) = sibling_row u o x h (at_after x.after o (sym (place_here u x h) ∙ e))
    row_before o u x h (net_of.back {t = t} e b) = let y = sibling_row u t x h (at_after x.after t (sym (place_here u x h) ∙ e)) in row_before o t y.0 y.1 b

    row_above : (p u : ℕ) (x : Entry) → row l.entries c u ≡ Some x → Child r.place p u → (y : Entry) × (row l.entries c p ≡ Some y)
    row_above p u x h t = let b = child_back p u x h t in above_row u p x h (parent_below l sound c p u x h b.1) b.0

    row_child : (p u : ℕ) (y : Entry) → row l.entries c p ≡ Some y → Child r.place p u → (x : Entry) × (row l.entries c u ≡ Some x)
    row_child p u y h (net_of.eldest e) =
        let x = hangs u (λ z. let q : first p ≡ apart = sym e ∙ z in cc) in
        let s = at_first x.0.after p (sym (place_is u x.0 x.1) ∙ e) in
        let f = sound.fits u x.0 x.1 in
        let q = subst (λ (b : After). IsPlaced l.entries u x.0 b) s f.placed in
        let b = f.below (λ z. q.1 (sym q.0 ∙ z)) in
        let one : b.above ≡ y = some_is (sym b.is ∙ (ap (entry_of l.entries) q.0 ∙ at_row p y h)) in
        (x.0, row_is l.entries c u x.0 x.1 (sym b.cell ∙ (ap (λ (i : Entry). i.cell) one ∙ (row_entry l.entries c p y h).1)))
    row_child p u y h (net_of.younger {s = o} e t) =
        let z = row_child p o y h t in
        let x = hangs u (λ z. let q : after o ≡ apart = sym e ∙ z in cc) in
        let s = at_after x.0.after o (sym (place_is u x.0 x.1) ∙ e) in
        let b = subst (λ (b : After). IsPlaced l.entries u x.0 b) s (sound.fits u x.0 x.1).placed in
        let one : b.sibling ≡ z.0 = some_is (sym b.is ∙ at_row o z.0 z.1) in
        (x.0, row_is l.entries c u x.0 x.1 (sym b.cell ∙ (ap (λ (i : Entry). i.cell) one ∙ (row_entry l.entries c o z.0 z.1).1)))

    abbrev pub Same : ℕ → ℕ → Type 0
    Same u w = (u ≡ w) × (x : Entry) × (row l.entries c u ≡ Some x)

    same_row : (u : ℕ) → (x : Entry) × (row l.entries c u ≡ Some x) → Same u u
    same_row u y = (refl, y.0, y.1)

    moved : (P : ℕ → Type 0) (u w : ℕ) → u ≡ w → P u → P w
    moved P u w e p = subst P e p

    matches : Matches (wired W) F Same
    matches = record {
      top = λ u w s. (λ b. moved (Top r.place) u w s.0 (top_forth u b), λ t. top_back u s.1 s.2 (moved (Top r.place) w u (sym s.0) t));
      child = λ u x w y s t. (λ b. subst (λ (q : ℕ). Child r.place q y) s.0 (subst (λ (q : ℕ). Child r.place u q) t.0 (child_forth u x b.0 b.1)), λ h. child_back u x t.1 t.2 (subst (λ (q : ℕ). Child r.place q x) (sym s.0) (subst (λ (q : ℕ). Child r.place w q) (sym t.0) h)));
      earlier = λ u x w y s t. (λ b. subst (λ (q : ℕ). Earlier r.place q y) s.0 (subst (λ (q : ℕ). Earlier r.place u q) t.0 (before_forth u x t.1 t.2 b)), λ h. before_back u x t.1 t.2 (subst (λ (q : ℕ). Earlier r.place q x) (sym s.0) (subst (λ (q : ℕ). Earlier r.place w q) (sym t.0) h)));
      mode = λ u w s. ap mode_of s.2 ∙ (sym (ap (λ (i : Rattle.oss_words.specs.declared.entry.EntryInfo.EntryInfo). i.mode) (info_is u s.1 (at_row u s.1 s.2))) ∙ ap (λ (q : ℕ). (r.info q).mode) s.0);
      given = λ u w s. (λ b. subst (λ (q : ℕ). r.gave q ≡ true) s.0 (gave_forth u (sym (gave_row u s.1 s.2) ∙ b)), λ h. gave_row u s.1 s.2 ∙ gave_back u (subst (λ (q : ℕ). r.gave q ≡ true) (sym s.0) h));
      forth = forth;
      back = back;
    }
      where
        gave_row : (u : ℕ) (x : Entry) → row l.entries c u ≡ Some x → W.gave u ≡ (mark_of l.marks u).given
        gave_row u x h = ap (λ (o : Option Entry). Rattle.oss_word_deps.specs.Ledger.given_in o (mark_of l.marks u)) h

        forth : (u x w : ℕ) → Same u w → IsNear (wired W) u x → (y : ℕ) × Same x y
        forth u x w s (above b) = (x, same_row x (above_row u x s.1 s.2 (parent_below l sound c x u s.1 s.2 b.1) b.0))
        forth u x w s (below b) = (x, same_row x (row_below l sound c u x b.1))
        forth u x w s (before b) = (x, same_row x (row_before x u s.1 s.2 (before_forth x u s.1 s.2 b)))

        back : (u w y : ℕ) → Same u w → IsNear F w y → (x : ℕ) × Same x y
        back u w y s (above b) = (y, same_row y (row_above y u s.1 s.2 (subst (λ (q : ℕ). Child r.place y q) (sym s.0) b)))
        back u w y s (below b) = (y, same_row y (row_child u y s.1 s.2 (subst (λ (q : ℕ). Child r.place q y) (sym s.0) b)))
        back u w y s (before b) = (y, same_row y (row_before y u s.1 s.2 (subst (λ (q : ℕ). Earlier r.place y q) (sym s.0) b)))

    module _ (e : Entry) (is : row l.entries c v ≡ Some e) where
      same : HaveSameFlags (wired W) F v v
      same = same_flags (wired W) F Same matches v v (refl, e, is)

      exact : Exact F v state
      exact = r.exact (λ z. no_apart e.after (sym (place_here v e is) ∙ z))
        where
          no_apart : (a : After) → place_of a ≡ apart → ⊥
          no_apart FirstOfMain h = cc
          no_apart (FirstOf p) h = cc
          no_apart (Sibling o) h = cc

      mode_here : F.mode v ≡ e.info.mode
      mode_here = ap (λ (i : Rattle.oss_words.specs.declared.entry.EntryInfo.EntryInfo). i.mode) (info_is v e (at_row v e is))

      true_flags : AreTrue W v (marks_at e.info.mode state)
      true_flags MayRead = (λ h. same.read.1 (exact.reads.0 h), λ h. exact.reads.1 (same.read.0 h))
      true_flags MayWrite = (λ h. same.write.1 (exact.writes.0 h), λ h. exact.writes.1 (same.write.0 h))
      true_flags Given = (λ h. gave_now (exact.given.0 h), λ h. exact.given.1 (gave_then h))
        where
          gave_now : r.gave v ≡ true → W.gave v ≡ true
          gave_now h = (matches.given v v (refl, e, is)).1 h

          gave_then : W.gave v ≡ true → r.gave v ≡ true
          gave_then h = (matches.given v v (refl, e, is)).0 h
      true_flags Done = (λ h. same.done.1 (exact.done.0 h), λ h. exact.done.1 (same.done.0 h))
      true_flags Clear = (λ h. forth (exact.clear.0 h), λ h. exact.clear.1 (back h))
        where
          forth : ((u : ℕ) → Earlier r.place u v → IsDone F u) → (u : ℕ) → IsBefore W.place u v → IsDone (wired W) u
          forth f u b = let y = row_before u v e is (before_forth u v e is b) in (same_flags (wired W) F Same matches u u (same_row u y)).done.1 (f u (before_forth u v e is b))

          back : ((u : ℕ) → IsBefore W.place u v → IsDone (wired W) u) → (u : ℕ) → Earlier r.place u v → IsDone F u
          back f u b = let y = row_before u v e is b in (same_flags (wired W) F Same matches u u (same_row u y)).done.0 (f u (before_back u v e is b))
      true_flags MayJoin = (λ h. forth e.info.mode refl h, λ h. back h)
        where
          mode_w : W.mode v ≡ e.info.mode
          mode_w = ap mode_of is

          forth : (m : Mode) → e.info.mode ≡ m → (state.folds && is_fold m) ≡ true → (op : Op) × (W.mode v ≡ Fold op) × IsJoinSatisfied (wired W) op v
          forth Read s h = absurd (let b = (both state.folds false h).1 in let q : false ≡ true = b in cc)
          forth Write s h = absurd (let b = (both state.folds false h).1 in let q : false ≡ true = b in cc)
          forth (Fold op) s h = (op, mode_w ∙ s, (same.join op).1 ((exact.folds op (mode_here ∙ s)).0 (both state.folds true h).0))

          back : (op : Op) × (W.mode v ≡ Fold op) × IsJoinSatisfied (wired W) op v → (state.folds && is_fold e.info.mode) ≡ true
          back (op, m, j) =
              let s : e.info.mode ≡ Fold op = sym mode_w ∙ m in
              let f : state.folds ≡ true = (exact.folds op (mode_here ∙ s)).1 ((same.join op).0 j) in
              let g : is_fold e.info.mode ≡ true = ap is_fold s in
              rw f g

  pub are_true : (c : ℕ) (e : Entry) → row l.entries c v ≡ Some e → AreTrue (lists_of l c) v (marks_at e.info.mode state)
  are_true c e is = true_flags c e is

  -- the flags of an entry tell of its task's access
  pub tells : (s : Seen) → IsBooked s l → (e : Entry) → entry_of l.entries v ≡ Some e → TellOfTask s.opens s.given e.cell e.task (marks_at e.info.mode state)
  tells s booked e is =
      let at = row_is l.entries e.cell v e is refl in
      flags_tell s.opens s.given e.cell (lists_of l e.cell) (Rattle.oss_links.specs.Held.IsAccessOf (Rattle.oss_word_deps.specs.Ledger.task_of l.entries e.cell)) booked.opens_are.ordered (booked.held e.cell) e.task v (marks_at e.info.mode state) (ap task_in at) (true_flags e.cell e at)
