-- One more access in a list.
use Rattle.std.proofs.Common.{◌≡◌, ℕ, ◌+◌, ◌<◌, ◌≤◌, zero, suc, refl, sym, ap, subst, ◌∙◌, List, [], ◌∷◌, ◌++◌, ◌⊎◌, inl, inr, Bool, true, false, Option, Some, None, arith, length, get_or, set}
use Rattle.std.proofs.lemmas.List.{length-set, length_push}
use Rattle.std.proofs.lemmas.Option.{slice_get_within, slice_get-get_or}
use Rattle.std.specs.Prelude.{slice_get}
use Rattle.oss_deps.specs.declared.frame.Frame.{Frame}
use Rattle.oss_deps.specs.declared.frame.Mark.{Mark}
use Rattle.oss_deps.specs.Kept.{given_by}
use Rattle.oss_deps.specs.Places.{closed_at, given_mark, IsBelow, IsLast, IsNext, IsFirst, AreLinked, AreMarked, IsOldFrame, IsOldMark, AreGrown, AreMarksGrown, with_next, first_or, blank, unmarked}
use Rattle.oss_deps.specs.Columns.{IsTaskAt}
use Rattle.oss_deps.proofs.Basics.{clash, some_is, some_none, same_at, options, value_within, compared}
use Rattle.oss_deps.proofs.DoneLemmas.{closed_is, closed_of, below_within}
use Rattle.oss_deps.proofs.MatchLemmas.{IsGivenAt, given_found, given_told}
use Rattle.oss_deps.proofs.CloseLemmas.{same_number, get_set_same, get_set_other}

same_bools : (a b : Bool) → (a ≡ true → b ≡ true) → (b ≡ true → a ≡ true) → a ≡ b
same_bools true b f g = sym (f refl)
same_bools false true f g = absurd (let h : false ≡ true = g refl in cc)
same_bools false false f g = refl

module _ (old new : List Frame) (up : ℕ) (last : Option ℕ) (added : Frame) (linked : AreLinked old) (grown : AreGrown old new up last added) (within : up < length old) (above : added.up ≡ up) where
  abbrev n : ℕ
  n = length old

  split_place : (k : ℕ) → k < length new → (k < n) ⊎ (k ≡ n)
  split_place k h = go (compared k n)
    where
      go : (k < n) ⊎ ((k ≡ n) ⊎ (n < k)) → (k < n) ⊎ (k ≡ n)
      go (inl l) = inl l
      go (inr (inl e)) = inr e
      go (inr (inr l)) = absurd (omega (arith, h, grown.size, l))

  -- a frame of the new list is an old one, or the added
  pub record IsOld (k : ℕ) (f : Frame) : Type 0 where
    pub frame : Frame
    pub is : slice_get old k ≡ Some frame
    pub kept : IsOldFrame n up last k frame (slice_get new k)
    pub same : kept.frame ≡ f

  pub old_or_new : (k : ℕ) (f : Frame) → slice_get new k ≡ Some f → IsOld k f ⊎ ((k ≡ n) × (added ≡ f))
  old_or_new k f is = go (split_place k (slice_get_within new k f is))
    where
      go : (k < n) ⊎ (k ≡ n) → IsOld k f ⊎ ((k ≡ n) × (added ≡ f))
      go (inl l) = let o = value_within old k l in let r = grown.frame k o.0 o.1 in inl (record { frame = o.0; is = o.1; kept = r; same = same_at r.is is })
      go (inr e) = inr (e, same_at (subst (λ (j : ℕ). slice_get new j ≡ Some added) (sym e) grown.here) is)

  pub below_old : (u j : ℕ) → IsBelow old u j → IsBelow new u j
  below_old u j b = let r = grown.frame j b.frame b.is in record { frame = r.frame; is = r.is; not_main = b.not_main; up_is = r.up_is ∙ b.up_is }

  below_new : IsBelow new up n
  below_new = record { frame = added; is = grown.here; not_main = λ z. omega (arith, z, within); up_is = above }

  pub below_back : (u j : ℕ) → IsBelow new u j → (IsBelow old u j × (j < n)) ⊎ ((j ≡ n) × (u ≡ up))
  below_back u j b = go (old_or_new j b.frame b.is)
    where
      go : IsOld j b.frame ⊎ ((j ≡ n) × (added ≡ b.frame)) → (IsBelow old u j × (j < n)) ⊎ ((j ≡ n) × (u ≡ up))
      go (inl o) = inl (record { frame = o.frame; is = o.is; not_main = b.not_main; up_is = sym o.kept.up_is ∙ ap (λ (f : Frame). f.up) o.same ∙ b.up_is }, slice_get_within old j o.frame o.is)
      go (inr (e, s)) = inr (e, sym b.up_is ∙ ap (λ (f : Frame). f.up) (sym s) ∙ above)

  below_less : (u j : ℕ) → IsBelow old u j → u < j
  below_less u j b = omega (arith, linked.above j b.frame b.is b.not_main, b.up_is)

  none_above_new : (j : ℕ) → IsBelow new n j → ⊥
  none_above_new j b = go (below_back n j b)
    where
      go : (IsBelow old n j × (j < n)) ⊎ ((j ≡ n) × (n ≡ up)) → ⊥
      go (inl (o, l)) = omega (arith, below_less n j o, l)
      go (inr (e, s)) = omega (arith, s, within)

  last_kept : (k : ℕ) → (k ≡ up → ⊥) → (o : Option ℕ) → IsLast old k o → IsLast new k o
  last_kept k other None h = λ j b. go j (below_back k j b)
    where
      go : (j : ℕ) → (IsBelow old k j × (j < n)) ⊎ ((j ≡ n) × (k ≡ up)) → ⊥
      go j (inl (o, l)) = h j o
      go j (inr (e, s)) = other s
  last_kept k other (Some l) h = (below_old k l h.0, λ j b. go j (below_back k j b))
    where
      go : (j : ℕ) → (IsBelow old k j × (j < n)) ⊎ ((j ≡ n) × (k ≡ up)) → j ≤ l
      go j (inl (o, less)) = h.1 j o
      go j (inr (e, s)) = absurd (other s)

  last_new : IsLast new up (Some n)
  last_new = (below_new, λ j b. go j (below_back up j b))
    where
      go : (j : ℕ) → (IsBelow old up j × (j < n)) ⊎ ((j ≡ n) × (up ≡ up)) → j ≤ n
      go j (inl (o, less)) = omega (arith, less)
      go j (inr (e, s)) = omega (arith, e)

  module _ (parent : Frame) (parent_is : slice_get old up ≡ Some parent) (last_is : parent.last ≡ last) where
    old_last : IsLast old up last
    old_last = subst (λ (o : Option ℕ). IsLast old up o) last_is (linked.last up parent parent_is)

    -- where the new one is a sibling behind, the old one is not the last, and so has a next one
    next_kept : (k : ℕ) (f : Frame) → slice_get old k ≡ Some f → (k ≡ 0 → ⊥) → (last ≡ Some k → ⊥) → (o : Option ℕ) → IsNext old f.up k o → IsNext new f.up k o
    next_kept k f is some other None h = λ j b. go j (below_back f.up j b)
      where
        own : f.up ≡ up → IsBelow old up k
        own e = record { frame = f; is = is; not_main = some; up_is = e }

        behind : f.up ≡ up → (o : Option ℕ) → last ≡ o → ⊥
        behind e None l = (subst (λ (x : Option ℕ). IsLast old up x) l old_last) k (own e)
        behind e (Some l) s =
            let a = subst (λ (x : Option ℕ). IsLast old up x) s old_last in
            let b = h l (subst (λ (j : ℕ). IsBelow old j l) (sym e) a.0) in
            let c = a.1 k (own e) in
            other (s ∙ ap Some (omega (arith, b, c)))

        go : (j : ℕ) → (IsBelow old f.up j × (j < n)) ⊎ ((j ≡ n) × (f.up ≡ up)) → j ≤ k
        go j (inl (o, less)) = h j o
        go j (inr (e, s)) = absurd (behind s last refl)
    next_kept k f is some other (Some l) h = (below_old f.up l h.0, h.1, λ j b more. go j more (below_back f.up j b))
      where
        go : (j : ℕ) → k < j → (IsBelow old f.up j × (j < n)) ⊎ ((j ≡ n) × (f.up ≡ up)) → l ≤ j
        go j more (inl (o, less)) = h.2 j o more
        go j more (inr (e, s)) = omega (arith, e, (below_within old f.up l h.0).1)

    next_new : (k : ℕ) (f : Frame) → slice_get old k ≡ Some f → last ≡ Some k → IsNext new f.up k (Some n)
    next_new k f is e =
        let a = subst (λ (x : Option ℕ). IsLast old up x) e old_last in
        let same : f.up ≡ up = ap (λ (x : Frame). x.up) (same_at is a.0.is) ∙ a.0.up_is in
        (subst (λ (j : ℕ). IsBelow new j n) (sym same) below_new, slice_get_within old k f is, λ j b more. go j more a (below_back f.up j b) same)
      where
        go : (j : ℕ) → k < j → IsLast old up (Some k) → (IsBelow old f.up j × (j < n)) ⊎ ((j ≡ n) × (f.up ≡ up)) → f.up ≡ up → n ≤ j
        go j more a (inl (o, less)) same = absurd (omega (arith, a.1 j (subst (λ (x : ℕ). IsBelow old x j) same o), more))
        go j more a (inr (e, s)) same = omega (arith, e)

    some_or : (k : ℕ) → (last ≡ Some k) ⊎ (last ≡ Some k → ⊥)
    some_or k = go (options last)
      where
        go : (last ≡ None) ⊎ ((l : ℕ) × (last ≡ Some l)) → (last ≡ Some k) ⊎ (last ≡ Some k → ⊥)
        go (inl e) = inr (λ h. some_none (sym h ∙ e))
        go (inr (l, e)) = in_two (same_number l k)
          where
            in_two : (l ≡ k) ⊎ (l ≡ k → ⊥) → (last ≡ Some k) ⊎ (last ≡ Some k → ⊥)
            in_two (inl s) = inl (e ∙ ap Some s)
            in_two (inr d) = inr (λ h. d (some_is (sym e ∙ h)))

    pub grown_linked : added.last ≡ None → added.next ≡ None → ((k : ℕ) (f : Frame) → slice_get old k ≡ Some f → f.number < added.number) → AreLinked new
    grown_linked no_last no_next greater =
        record {
          main = let r = grown.frame 0 linked.main.0 linked.main.1 in (r.frame, r.is, r.number ∙ linked.main.2);
          above = λ k f is some. above_of k f some (old_or_new k f is);
          rising = λ j k f g is js less. rising_of j k f g less (old_or_new j f is) (old_or_new k g js);
          last = λ k f is. last_of k f (old_or_new k f is);
          next = λ k f is some. next_of k f some (old_or_new k f is);
        }
      where
        above_of : (k : ℕ) (f : Frame) → (k ≡ 0 → ⊥) → IsOld k f ⊎ ((k ≡ n) × (added ≡ f)) → f.up < k
        above_of k f some (inl o) = omega (arith, linked.above k o.frame o.is some, o.kept.up_is, ap (λ (x : Frame). x.up) o.same)
        above_of k f some (inr (e, s)) = omega (arith, e, ap (λ (x : Frame). x.up) s, above, within)

        rising_of : (j k : ℕ) (f g : Frame) → j < k → IsOld j f ⊎ ((j ≡ n) × (added ≡ f)) → IsOld k g ⊎ ((k ≡ n) × (added ≡ g)) → f.number < g.number
        rising_of j k f g less (inl o) (inl q) = omega (arith, linked.rising j k o.frame q.frame o.is q.is less, o.kept.number, ap (λ (x : Frame). x.number) o.same, q.kept.number, ap (λ (x : Frame). x.number) q.same)
        rising_of j k f g less (inl o) (inr (e, s)) = omega (arith, greater j o.frame o.is, o.kept.number, ap (λ (x : Frame). x.number) o.same, ap (λ (x : Frame). x.number) s)
        rising_of j k f g less (inr (e, s)) (inl q) = absurd (omega (arith, e, less, slice_get_within old k q.frame q.is))
        rising_of j k f g less (inr (e, s)) (inr (d, t)) = absurd (omega (arith, e, d, less))

        last_of : (k : ℕ) (f : Frame) → IsOld k f ⊎ ((k ≡ n) × (added ≡ f)) → IsLast new k f.last
        last_of k f (inl o) = go (same_number k up)
          where
            go : (k ≡ up) ⊎ (k ≡ up → ⊥) → IsLast new k f.last
            go (inl e) = subst (λ (x : Option ℕ). IsLast new k x) (sym (o.kept.last_here e) ∙ ap (λ (x : Frame). x.last) o.same) (subst (λ (j : ℕ). IsLast new j (Some n)) (sym e) last_new)
            go (inr d) = subst (λ (x : Option ℕ). IsLast new k x) (sym (o.kept.last_other d) ∙ ap (λ (x : Frame). x.last) o.same) (last_kept k d o.frame.last (linked.last k o.frame o.is))
        last_of k f (inr (e, s)) = subst (λ (x : Option ℕ). IsLast new k x) (sym no_last ∙ ap (λ (x : Frame). x.last) s) (λ j b. none_above_new j (subst (λ (x : ℕ). IsBelow new x j) e b))

        next_of : (k : ℕ) (f : Frame) → (k ≡ 0 → ⊥) → IsOld k f ⊎ ((k ≡ n) × (added ≡ f)) → IsNext new f.up k f.next
        next_of k f some (inl o) = subst (λ (x : ℕ). IsNext new x k f.next) (sym o.kept.up_is ∙ ap (λ (x : Frame). x.up) o.same) (go (some_or k))
          where
            go : (last ≡ Some k) ⊎ (last ≡ Some k → ⊥) → IsNext new o.frame.up k f.next
            go (inl e) = subst (λ (x : Option ℕ). IsNext new o.frame.up k x) (sym (o.kept.next_here e) ∙ ap (λ (x : Frame). x.next) o.same) (next_new k o.frame o.is e)
            go (inr d) = subst (λ (x : Option ℕ). IsNext new o.frame.up k x) (sym (o.kept.next_other d) ∙ ap (λ (x : Frame). x.next) o.same) (next_kept k o.frame o.is some d o.frame.next (linked.next k o.frame o.is some))
        next_of k f some (inr (e, s)) = subst (λ (x : Option ℕ). IsNext new f.up k x) (sym no_next ∙ ap (λ (x : Frame). x.next) s) (λ j b. go j (below_back f.up j b))
          where
            go : (j : ℕ) → (IsBelow old f.up j × (j < n)) ⊎ ((j ≡ n) × (f.up ≡ up)) → j ≤ k
            go j (inl (o, less)) = omega (arith, less, e)
            go j (inr (d, t)) = omega (arith, d, e)

  -- the tasks stay at their places
  pub task_kept : (k t : ℕ) → IsTaskAt old k t → IsTaskAt new k t
  task_kept k t a = (a.0, λ some. let f = a.1 some in let r = grown.frame k f.0 f.1 in (r.frame, r.is, r.task ∙ f.2))

  module _ (marks more : List Mark) (marked : AreMarked old marks None) (marks_grown : AreMarksGrown marks more up) (held : given_mark (slice_get marks up) ≡ false) where
    mark_within : (k : ℕ) → k < n → (m : Mark) × (slice_get marks k ≡ Some m)
    mark_within k h = value_within marks k (omega (arith, h, marked.same))

    here_mark : slice_get more n ≡ Some (record { given = false; first = None })
    here_mark = subst (λ (j : ℕ). slice_get more j ≡ Some (record { given = false; first = None })) marked.same marks_grown.here

    not_closed : (j : ℕ) (m : Mark) → slice_get marks j ≡ Some m → closed_at marks j ≡ true → j ≡ up → ⊥
    not_closed j m is h e =
        let c = closed_is marks j h in
        clash (given_mark (slice_get marks j)) (ap given_mark c.1 ∙ c.2) (ap (λ (k : ℕ). given_mark (slice_get marks k)) e ∙ held)

    closed_more : (j : ℕ) → closed_at marks j ≡ true → closed_at more j ≡ true
    closed_more j h =
        let c = closed_is marks j h in
        let r = marks_grown.mark j c.0 c.1 in
        closed_of more j r.mark r.is (r.given ∙ c.2) (r.first_other (not_closed j c.0 c.1 h) ∙ c.3)

    closed_back : (j : ℕ) → j < n → closed_at more j ≡ true → closed_at marks j ≡ true
    closed_back j l h =
        let m = mark_within j l in
        let r = marks_grown.mark j m.0 m.1 in
        let c = closed_is more j h in
        let same = same_at r.is c.1 in
        closed_of marks j m.0 m.1 (sym r.given ∙ ap (λ (x : Mark). x.given) same ∙ c.2) (first m.0 m.1 r (ap (λ (x : Mark). x.first) same ∙ c.3))
      where
        first : (m : Mark) → slice_get marks j ≡ Some m → (r : IsOldMark (length marks) up j m (slice_get more j)) → r.mark.first ≡ None → m.first ≡ None
        first m is r e = go (options m.first)
          where
            go : (m.first ≡ None) ⊎ ((l : ℕ) × (m.first ≡ Some l)) → m.first ≡ None
            go (inl h) = h
            go (inr (l, h)) = absurd (some_none (sym (r.first_some l h) ∙ e))

    closed_new : closed_at more n ≡ true → ⊥
    closed_new h = let c = closed_is more n h in let e : false ≡ true = ap (λ (x : Mark). x.given) (same_at here_mark c.1) ∙ c.2 in absurd cc

    first_some : (k l : ℕ) → IsFirst old marks None k (Some l) → IsFirst new more None k (Some l)
    first_some k l h = (below_old k l h.0, λ e. h.1 (closed_back l (below_within old k l h.0).1 e), λ j b less. go j less (below_back k j b))
      where
        go : (j : ℕ) → j < l → (IsBelow old k j × (j < n)) ⊎ ((j ≡ n) × (k ≡ up)) → closed_at more j ≡ true
        go j less (inl (o, m)) = closed_more j (h.2 j o less)
        go j less (inr (e, s)) = absurd (omega (arith, e, less, (below_within old k l h.0).1))

    first_kept : (k : ℕ) → (k ≡ up → ⊥) → (o : Option ℕ) → IsFirst old marks None k o → IsFirst new more None k o
    first_kept k d None h = λ j b. go j (below_back k j b)
      where
        go : (j : ℕ) → (IsBelow old k j × (j < n)) ⊎ ((j ≡ n) × (k ≡ up)) → closed_at more j ≡ true
        go j (inl (o, l)) = closed_more j (h j o)
        go j (inr (e, s)) = absurd (d s)
    first_kept k d (Some l) h = first_some k l h

    first_new : IsFirst old marks None up None → IsFirst new more None up (Some n)
    first_new h = (below_new, λ e. absurd (closed_new e), λ j b less. go j less (below_back up j b))
      where
        go : (j : ℕ) → j < n → (IsBelow old up j × (j < n)) ⊎ ((j ≡ n) × (up ≡ up)) → closed_at more j ≡ true
        go j less (inl (o, m)) = closed_more j (h j o)
        go j less (inr (e, s)) = absurd (omega (arith, e, less))

    mark_old_or_new : (k : ℕ) (m : Mark) → slice_get more k ≡ Some m → ((x : Mark) × (slice_get marks k ≡ Some x) × (r : IsOldMark (length marks) up k x (slice_get more k)) × (r.mark ≡ m)) ⊎ ((k ≡ n) × (record { given = false; first = None } ≡ m))
    mark_old_or_new k m is = go (compared k n)
      where
        go : (k < n) ⊎ ((k ≡ n) ⊎ (n < k)) → ((x : Mark) × (slice_get marks k ≡ Some x) × (r : IsOldMark (length marks) up k x (slice_get more k)) × (r.mark ≡ m)) ⊎ ((k ≡ n) × (record { given = false; first = None } ≡ m))
        go (inl l) = let x = mark_within k l in let r = marks_grown.mark k x.0 x.1 in inl (x.0, x.1, r, same_at r.is is)
        go (inr (inl e)) = inr (e, same_at (subst (λ (j : ℕ). slice_get more j ≡ Some (record { given = false; first = None })) (sym e) here_mark) is)
        go (inr (inr l)) = absurd (omega (arith, l, slice_get_within more k m is, marks_grown.size, marked.same))

    pub grown_marked : AreMarked new more None
    grown_marked =
        record {
          same = omega (arith, marks_grown.size, grown.size, marked.same);
          main = λ m is. main_of m (mark_old_or_new 0 m is);
          first = λ k m is. first_of k m (mark_old_or_new k m is);
        }
      where
        main_of : (m : Mark) → ((x : Mark) × (slice_get marks 0 ≡ Some x) × (r : IsOldMark (length marks) up 0 x (slice_get more 0)) × (r.mark ≡ m)) ⊎ ((0 ≡ n) × (record { given = false; first = None } ≡ m)) → m.given ≡ false
        main_of m (inl (x, is, r, s)) = ap (λ (y : Mark). y.given) (sym s) ∙ r.given ∙ marked.main x is
        main_of m (inr (e, s)) = absurd (omega (arith, e, within))

        first_of : (k : ℕ) (m : Mark) → ((x : Mark) × (slice_get marks k ≡ Some x) × (r : IsOldMark (length marks) up k x (slice_get more k)) × (r.mark ≡ m)) ⊎ ((k ≡ n) × (record { given = false; first = None } ≡ m)) → IsFirst new more None k m.first
        first_of k m (inr (e, s)) = subst (λ (y : Mark). IsFirst new more None k y.first) s (λ j b. absurd (none_above_new j (subst (λ (x : ℕ). IsBelow new x j) e b)))
        first_of k m (inl (x, is, r, s)) = subst (λ (y : Mark). IsFirst new more None k y.first) s (go (same_number k up))
          where
            old_first : IsFirst old marks None k x.first
            old_first = marked.first k x is

            at_up : k ≡ up → (x.first ≡ None) ⊎ ((l : ℕ) × (x.first ≡ Some l)) → IsFirst new more None k r.mark.first
            at_up e (inl h) = subst (λ (o : Option ℕ). IsFirst new more None k o) (ap Some (sym marked.same) ∙ sym (r.first_here e h)) (subst (λ (j : ℕ). IsFirst new more None j (Some n)) (sym e) (first_new (subst (λ (j : ℕ). IsFirst old marks None j None) e (subst (λ (o : Option ℕ). IsFirst old marks None k o) h old_first))))
            at_up e (inr (l, h)) = subst (λ (o : Option ℕ). IsFirst new more None k o) (sym (r.first_some l h)) (first_some k l (subst (λ (o : Option ℕ). IsFirst old marks None k o) h old_first))

            go : (k ≡ up) ⊎ (k ≡ up → ⊥) → IsFirst new more None k r.mark.first
            go (inl e) = at_up e (options x.first)
            go (inr d) = subst (λ (o : Option ℕ). IsFirst new more None k o) (sym (r.first_other d)) (first_kept k d x.first old_first)

    -- nothing more is given up
    pub grown_given : (t : ℕ) → given_by new more t ≡ given_by old marks t
    grown_given t = same_bools (given_by new more t) (given_by old marks t) (λ h. back (given_found new more t h)) (λ h. forth (given_found old marks t h))
      where
        back : IsGivenAt new more t → given_by old marks t ≡ true
        back g = go (old_or_new g.place g.frame g.frame_is) (mark_old_or_new g.place g.mark g.mark_is)
          where
            go : IsOld g.place g.frame ⊎ ((g.place ≡ n) × (added ≡ g.frame)) → ((x : Mark) × (slice_get marks g.place ≡ Some x) × (r : IsOldMark (length marks) up g.place x (slice_get more g.place)) × (r.mark ≡ g.mark)) ⊎ ((g.place ≡ n) × (record { given = false; first = None } ≡ g.mark)) → given_by old marks t ≡ true
            go (inl o) (inl (x, is, r, s)) = given_told old marks t g.place o.frame x o.is is (sym o.kept.task ∙ ap (λ (f : Frame). f.task) o.same ∙ g.task) (sym r.given ∙ ap (λ (y : Mark). y.given) s ∙ g.given)
            go (inr (e, s)) (inl (x, is, r, q)) = absurd (omega (arith, e, slice_get_within marks g.place x is, marked.same))
            go f (inr (e, s)) = let h : false ≡ true = ap (λ (y : Mark). y.given) s ∙ g.given in absurd cc

        forth : IsGivenAt old marks t → given_by new more t ≡ true
        forth g =
            let f = grown.frame g.place g.frame g.frame_is in
            let m = marks_grown.mark g.place g.mark g.mark_is in
            given_told new more t g.place f.frame m.mark f.is m.is (f.task ∙ g.task) (m.given ∙ g.given)

-- The frames and marks as the code writes them.
pub link_is : (frames : List Frame) (up new : ℕ) → AreLinked frames → up < length frames → (k : ℕ) (f : Frame) → slice_get frames k ≡ Some f
    → IsOldFrame new up (get_or frames up blank).last k f (slice_get (set (with_next (get_or frames up blank).last new frames) up (record (get_or (with_next (get_or frames up blank).last new frames) up blank) { last = Some new })) k)
link_is frames up new linked within k f is = go (get_or frames up blank).last refl
  where
    parent_is : slice_get frames up ≡ Some (get_or frames up blank)
    parent_is = slice_get-get_or frames up blank within

    last_is : IsLast frames up (get_or frames up blank).last
    last_is = linked.last up (get_or frames up blank) parent_is

    written : (gs : List Frame) (g : Frame) (last : Option ℕ) → length gs ≡ length frames → slice_get gs k ≡ Some g → g.number ≡ f.number → g.task ≡ f.task → g.up ≡ f.up → g.mode ≡ f.mode → g.last ≡ f.last
        → (last ≡ Some k → g.next ≡ Some new) → ((last ≡ Some k → ⊥) → g.next ≡ f.next) → (k ≡ up) ⊎ (k ≡ up → ⊥) → IsOldFrame new up last k f (slice_get (set gs up (record (get_or gs up blank) { last = Some new })) k)
    written gs g last size g_is a b c d e n m (inr other) = record {
      frame = g;
      is = get_set_other gs up k (record (get_or gs up blank) { last = Some new }) other ∙ g_is;
      number = a;
      task = b;
      up_is = c;
      mode = d;
      last_here = λ h. absurd (other h);
      last_other = λ h. e;
      next_here = n;
      next_other = m;
    }
    written gs g last size g_is a b c d e n m (inl same) =
        let read : get_or gs up blank ≡ g = same_at (slice_get-get_or gs up blank (omega (arith, size, within))) (subst (λ (j : ℕ). slice_get gs j ≡ Some g) same g_is) in
        record {
          frame = record g { last = Some new };
          is = subst (λ (j : ℕ). slice_get (set gs up (record (get_or gs up blank) { last = Some new })) j ≡ Some (record g { last = Some new })) (sym same)
              (get_set_same gs up (record (get_or gs up blank) { last = Some new }) (omega (arith, size, within)) ∙ ap (λ (x : Frame). Some (record x { last = Some new })) read);
          number = a;
          task = b;
          up_is = c;
          mode = d;
          last_here = λ h. refl;
          last_other = λ h. absurd (h same);
          next_here = n;
          next_other = m;
        }

    go : (o : Option ℕ) → (get_or frames up blank).last ≡ o → IsOldFrame new up (get_or frames up blank).last k f (slice_get (set (with_next (get_or frames up blank).last new frames) up (record (get_or (with_next (get_or frames up blank).last new frames) up blank) { last = Some new })) k)
    go None e = subst (λ (o : Option ℕ). IsOldFrame new up o k f (slice_get (set (with_next o new frames) up (record (get_or (with_next o new frames) up blank) { last = Some new })) k)) (sym e)
        (written frames f None refl is refl refl refl refl refl (λ h. absurd (some_none (sym h))) (λ h. refl) (same_number k up))
    go (Some l) e = subst (λ (o : Option ℕ). IsOldFrame new up o k f (slice_get (set (with_next o new frames) up (record (get_or (with_next o new frames) up blank) { last = Some new })) k)) (sym e) (in_two (same_number k l))
      where
        in_two : (k ≡ l) ⊎ (k ≡ l → ⊥) → IsOldFrame new up (Some l) k f (slice_get (set (with_next (Some l) new frames) up (record (get_or (with_next (Some l) new frames) up blank) { last = Some new })) k)
        in_two (inr other) =
            written (with_next (Some l) new frames) f (Some l) (length-set frames l (record (get_or frames l blank) { next = Some new })) (get_set_other frames l k (record (get_or frames l blank) { next = Some new }) other ∙ is)
            refl refl refl refl refl (λ h. absurd (other (sym (some_is h)))) (λ h. refl) (same_number k up)
        in_two (inl same) =
            let within_l : l < length frames = omega (arith, slice_get_within frames k f is, same) in
            let read : get_or frames l blank ≡ f = same_at (slice_get-get_or frames l blank within_l) (subst (λ (j : ℕ). slice_get frames j ≡ Some f) same is) in
            written (with_next (Some l) new frames) (record f { next = Some new }) (Some l) (length-set frames l (record (get_or frames l blank) { next = Some new }))
            (subst (λ (j : ℕ). slice_get (set frames l (record (get_or frames l blank) { next = Some new })) j ≡ Some (record f { next = Some new })) (sym same) (get_set_same frames l (record (get_or frames l blank) { next = Some new }) within_l ∙ ap (λ (x : Frame). Some (record x { next = Some new })) read))
            refl refl refl refl refl (λ h. refl) (λ h. absurd (h (ap Some (sym same)))) (same_number k up)

pub note_is : (marks : List Mark) (up new : ℕ) → up < length marks → (k : ℕ) (m : Mark) → slice_get marks k ≡ Some m → IsOldMark new up k m (slice_get (set marks up (record (get_or marks up unmarked) { first = first_or (get_or marks up unmarked).first new })) k)
note_is marks up new within k m is = go (same_number k up)
  where
    go : (k ≡ up) ⊎ (k ≡ up → ⊥) → IsOldMark new up k m (slice_get (set marks up (record (get_or marks up unmarked) { first = first_or (get_or marks up unmarked).first new })) k)
    go (inr other) = record {
      mark = m;
      is = get_set_other marks up k (record (get_or marks up unmarked) { first = first_or (get_or marks up unmarked).first new }) other ∙ is;
      given = refl;
      first_some = λ l h. h;
      first_here = λ h. absurd (other h);
      first_other = λ h. refl;
    }
    go (inl same) =
        let read : get_or marks up unmarked ≡ m = same_at (slice_get-get_or marks up unmarked within) (subst (λ (j : ℕ). slice_get marks j ≡ Some m) same is) in
        record {
          mark = record m { first = first_or m.first new };
          is = subst (λ (j : ℕ). slice_get (set marks up (record (get_or marks up unmarked) { first = first_or (get_or marks up unmarked).first new })) j ≡ Some (record m { first = first_or m.first new })) (sym same)
              (get_set_same marks up (record (get_or marks up unmarked) { first = first_or (get_or marks up unmarked).first new }) within ∙ ap (λ (x : Mark). Some (record x { first = first_or x.first new })) read);
          given = refl;
          first_some = λ l h. ap (λ (o : Option ℕ). first_or o new) h;
          first_here = λ h e. ap (λ (o : Option ℕ). first_or o new) e;
          first_other = λ h. absurd (h same);
        }

get_append : {A : Type 0} (xs ys : List A) (k : ℕ) → k < length xs → slice_get (xs ++ ys) k ≡ slice_get xs k
get_append [] ys k h = absurd (omega (arith, h))
get_append (x ∷ xs) ys zero h = refl
get_append (x ∷ xs) ys (suc k) h = get_append xs ys k (omega (arith, h))

get_last : {A : Type 0} (xs : List A) (y : A) → slice_get (xs ++ y ∷ []) (length xs) ≡ Some y
get_last [] y = refl
get_last (x ∷ xs) y = get_last xs y

pub grown_of : (old linked new : List Frame) (up : ℕ) (last : Option ℕ) (added : Frame) → length linked ≡ length old → new ≡ linked ++ added ∷ []
    → ((k : ℕ) (f : Frame) → slice_get old k ≡ Some f → IsOldFrame (length old) up last k f (slice_get linked k)) → AreGrown old new up last added
grown_of old linked new up last added size is kept = record {
  size = ap length is ∙ length_push linked added ∙ ap (λ (k : ℕ). k + 1) size;
  here = subst (λ (j : ℕ). slice_get new j ≡ Some added) size (ap (λ (xs : List Frame). slice_get xs (length linked)) is ∙ get_last linked added);
  frame = λ k f e. subst (λ (o : Option Frame). IsOldFrame (length old) up last k f o) (sym (ap (λ (xs : List Frame). slice_get xs k) is ∙ get_append linked (added ∷ []) k (omega (arith, size, slice_get_within old k f e)))) (kept k f e);
}

pub marks_grown_of : (old noted new : List Mark) (up : ℕ) → length noted ≡ length old → new ≡ noted ++ (record { given = false; first = None }) ∷ []
    → ((k : ℕ) (m : Mark) → slice_get old k ≡ Some m → IsOldMark (length old) up k m (slice_get noted k)) → AreMarksGrown old new up
marks_grown_of old noted new up size is kept = record {
  size = ap length is ∙ length_push noted (record { given = false; first = None }) ∙ ap (λ (k : ℕ). k + 1) size;
  here = subst (λ (j : ℕ). slice_get new j ≡ Some (record { given = false; first = None })) size (ap (λ (xs : List Mark). slice_get xs (length noted)) is ∙ get_last noted (record { given = false; first = None }));
  mark = λ k m e. subst (λ (o : Option Mark). IsOldMark (length old) up k m o) (sym (ap (λ (xs : List Mark). slice_get xs k) is ∙ get_append noted ((record { given = false; first = None }) ∷ []) k (omega (arith, size, slice_get_within old k m e)))) (kept k m e);
}
