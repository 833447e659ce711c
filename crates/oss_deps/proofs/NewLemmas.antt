-- After a task's accesses are added, the lists stand for one open more.
use Rattle.std.proofs.Common.{◌≡◌, ℕ, ◌+◌, ◌<◌, ◌≤◌, zero, suc, refl, sym, ap, subst, ◌∙◌, List, [], ◌∷◌, ◌++◌, ◌⊎◌, inl, inr, true, false, Option, Some, None, arith, length, get_or}
use Rattle.std.proofs.lemmas.Option.{slice_get_within, slice_get-get_or}
use Rattle.std.specs.Prelude.{slice_get, option_and_then}
use Rattle.oss_syntax.specs.declared.access.Access.{Access}
use Rattle.oss_model.specs.Order.{IsIn, here, there}
use Rattle.oss_model.specs.Rights.{in_access}
use Rattle.oss_ranges.specs.declared.piece.Piece.{Piece}
use Rattle.oss_ranges.specs.Cells.{value_at}
use Rattle.oss_deps.specs.declared.opened.Open.{Open}
use Rattle.oss_deps.specs.declared.frame.Frame.{Frame}
use Rattle.oss_deps.specs.declared.frame.Mark.{Mark}
use Rattle.oss_deps.specs.declared.column.Column.{Column}
use Rattle.oss_deps.specs.Opens.{access_at, is_some_access, mode_of_access, names, mode_at, HasOpened, HasCover, IsKnown, IsOnce, IsRising, AreOrdered, none, one, AreOpens}
use Rattle.oss_deps.specs.Seen.{Seen, CanOpen, HasHeldCover}
use Rattle.oss_deps.specs.Kept.{given_by, given_in, given_at}
use Rattle.oss_deps.specs.Places.{given_mark, AreGrown, AreLinked, blank}
use Rattle.oss_deps.specs.Columns.{IsNumber, IsNumberOf, IsPlaceOf, IsTaskAt, IsFrameOf, IsShown, AreShown, IsColumn, AreColumns, IsReady}
use Rattle.oss_deps.specs.Adding.{AreAddable, IsGrownBy, got, kept, AreAllGrown}
use Rattle.oss_deps.proofs.Basics.{bools, clash, some_is, some_none, same_at, options, value_within, compared}
use Rattle.oss_deps.proofs.OpenLemmas.{in_front, in_added, access_found, in_bounds, bounds_in, get_in, one_entry, not_main}
use Rattle.oss_deps.proofs.LevelLemmas.{zero_or}
use Rattle.oss_deps.proofs.MatchLemmas.{given_told}
use Rattle.oss_deps.proofs.GrowLemmas.{grown_linked, grown_marked, grown_given, old_or_new, IsOld, task_kept}
use Rattle.oss_deps.proofs.StretchLemmas.{agrees, node_of}
use Rattle.oss_deps.proofs.AddLemmas.{AreEdged, all_edged, edged_back, edged_stretches}

only_one : {A : Type 0} {x y : A} → IsIn x (y ∷ []) → x ≡ y
only_one here = refl
only_one (there i) = elim i [ ]

first_of : {A : Type 0} {x z : A} {xs : List A} → IsIn x (z ∷ xs) → (x ≡ z) ⊎ IsIn x xs
first_of here = inl refl
first_of (there i) = inr i

abbrev more_opened : (opens : List Open) (o : Open) (c v : ℕ) → HasOpened opens c v → HasOpened (opens ++ o ∷ []) c v
more_opened opens o c v h = record { entry = h.entry; listed = in_front opens (o ∷ []) h.listed; number = h.number; named = h.named }

more_cover : (opens : List Open) (o q : Open) (c : ℕ) → HasCover opens c q → HasCover (opens ++ o ∷ []) c q
more_cover opens o q c h = record { above = more_opened opens o c q.parent h.above; covered = h.covered }

more_known : (opens : List Open) (o : Open) (t : ℕ) → IsKnown opens t → IsKnown (opens ++ o ∷ []) t
more_known opens o t (inl z) = inl z
more_known opens o t (inr h) = inr (record { entry = h.entry; listed = in_front opens (o ∷ []) h.listed; number = h.number })

-- a list that goes on by an entry with a number of its own
ordered_added : (opens : List Open) (o : Open) → AreOrdered opens → (o.task ≡ 0 → ⊥) → ((q : Open) → IsIn q opens → q.task ≡ o.task → ⊥) → (o.task ≡ o.parent → ⊥)
    → ((q : Open) → IsIn q opens → o.task ≡ q.parent → ⊥) → AreOrdered (opens ++ o ∷ [])
ordered_added [] o none z fresh self par = one z (λ q i. elim i [ ]) (λ q i e. self (ap (λ (x : Open). x.task) (sym (only_one i)) ∙ e)) none
ordered_added (x ∷ rest) o (one a d p ord) z fresh self par =
    one a (λ q i e. apart q (in_added rest o i) e) (λ q i e. other q (first_of i) e)
    (ordered_added rest o ord z (λ q i. fresh q (there i)) self (λ q i. par q (there i)))
  where
    apart : (q : Open) → IsIn q rest ⊎ (q ≡ o) → q.task ≡ x.task → ⊥
    apart q (inl i) e = d q i e
    apart q (inr k) e = fresh x here (sym (ap (λ (y : Open). y.task) (sym k) ∙ e))

    last : (q : Open) → IsIn q rest ⊎ (q ≡ o) → q.task ≡ x.parent → ⊥
    last q (inl i) e = p q (there i) e
    last q (inr k) e = par x here (ap (λ (y : Open). y.task) (sym k) ∙ e)

    other : (q : Open) → (q ≡ x) ⊎ IsIn q (rest ++ o ∷ []) → q.task ≡ x.parent → ⊥
    other q (inl k) e = p x here (ap (λ (y : Open). y.task) (sym k) ∙ e)
    other q (inr i) e = last q (in_added rest o i) e

-- rising accesses name each cell once
rising_rest : (a : Access) (rest : List Access) → IsRising (a ∷ rest) → IsRising rest
rising_rest a [] r = tt
rising_rest a (b ∷ rest) r = r.1

all_later : (a : Access) (rest : List Access) → IsRising (a ∷ rest) → (x : Access) → IsIn x rest → a.range.hi ≤ x.range.lo
all_later a [] r x i = elim i [ ]
all_later a (b ∷ rest) r x i = go (first_of i) (λ j. all_later b rest r.1 x j)
  where
    go : (x ≡ b) ⊎ IsIn x rest → (IsIn x rest → b.range.hi ≤ x.range.lo) → a.range.hi ≤ x.range.lo
    go (inl e) again = omega (arith, r.0, ap (λ (z : Access). z.range.lo) e)
    go (inr j) again = omega (arith, r.0, b.range.ordered, again j)

pub rising_once : (accesses : List Access) → IsRising accesses → IsOnce accesses
rising_once [] r a c i h = elim i [ ]
rising_once (b ∷ rest) r a c i h = go (first_of i) (bools (in_access b c)) (rising_once rest (rising_rest b rest r) a c)
  where
    go : (a ≡ b) ⊎ IsIn a rest → (in_access b c ≡ true) ⊎ (in_access b c ≡ false) → (IsIn a rest → in_access a c ≡ true → access_at rest c ≡ Some a) → access_at (b ∷ rest) c ≡ Some a
    go (inl e) (inl t) again = let f : access_at (b ∷ rest) c ≡ Some b = rw t refl in f ∙ ap Some (sym e)
    go (inl e) (inr t) again = clash (in_access b c) (ap (λ (z : Access). in_access z c) (sym e) ∙ h) t
    go (inr j) (inl t) again = absurd (omega (arith, (in_bounds b c t).1, (in_bounds a c h).0, all_later b rest r a j))
    go (inr j) (inr t) again = let f : access_at (b ∷ rest) c ≡ access_at rest c = rw t refl in f ∙ again j h

pub opens_added : (s : Seen) (o : Open) → AreOpens s.opens → CanOpen s o → AreOpens (s.opens ++ o ∷ [])
opens_added s o r can =
    record {
      ordered = ordered_added s.opens o r.ordered can.not_main (λ q i e. can.fresh (record { entry = q; listed = i; number = e })) (λ e. unknown o.parent can.parent e) (λ q i e. unknown q.parent (r.rooted q i) e);
      covered = λ c q i n. covered c q (in_added s.opens o i) n;
      rooted = λ q i. rooted q (in_added s.opens o i);
      once = λ q i. once q (in_added s.opens o i);
    }
  where
    unknown : (p : ℕ) → IsKnown s.opens p → o.task ≡ p → ⊥
    unknown p (inl z) e = can.not_main (e ∙ z)
    unknown p (inr h) e = can.fresh (record { entry = h.entry; listed = h.listed; number = h.number ∙ sym e })

    wider : (c : ℕ) (q : Open) → (q.parent ≡ 0) ⊎ HasCover s.opens c q → (q.parent ≡ 0) ⊎ HasCover (s.opens ++ o ∷ []) c q
    wider c q (inl z) = inl z
    wider c q (inr h) = inr (more_cover s.opens o q c h)

    plain : (c : ℕ) → (o.parent ≡ 0) ⊎ HasHeldCover s c o → (o.parent ≡ 0) ⊎ HasCover s.opens c o
    plain c (inl z) = inl z
    plain c (inr h) = inr h.cover

    covered : (c : ℕ) (q : Open) → IsIn q s.opens ⊎ (q ≡ o) → names c q ≡ true → (q.parent ≡ 0) ⊎ HasCover (s.opens ++ o ∷ []) c q
    covered c q (inl i) n = wider c q (r.covered c q i n)
    covered c q (inr k) n = subst (λ (x : Open). (x.parent ≡ 0) ⊎ HasCover (s.opens ++ o ∷ []) c x) (sym k) (wider c o (plain c (can.covered c (subst (λ (x : Open). names c x ≡ true) k n))))

    rooted : (q : Open) → IsIn q s.opens ⊎ (q ≡ o) → IsKnown (s.opens ++ o ∷ []) q.parent
    rooted q (inl i) = more_known s.opens o q.parent (r.rooted q i)
    rooted q (inr k) = subst (λ (x : Open). IsKnown (s.opens ++ o ∷ []) x.parent) (sym k) (more_known s.opens o o.parent can.parent)

    once : (q : Open) → IsIn q s.opens ⊎ (q ≡ o) → IsOnce q.accesses
    once q (inl i) = r.once q i
    once q (inr k) = subst (λ (x : Open). IsOnce x.accesses) (sym k) (rising_once o.accesses can.rising)

pub opens_none : AreOpens []
opens_none = record { ordered = none; covered = λ c q i. elim i [ ]; rooted = λ q i. elim i [ ]; once = λ q i. elim i [ ] }

get_front : {A : Type 0} (xs ys : List A) (k : ℕ) → k < length xs → slice_get (xs ++ ys) k ≡ slice_get xs k
get_front [] ys k h = absurd (omega (arith, h))
get_front (x ∷ xs) ys zero h = refl
get_front (x ∷ xs) ys (suc k) h = get_front xs ys k (omega (arith, h))

get_last : {A : Type 0} (xs : List A) (y : A) → slice_get (xs ++ y ∷ []) (length xs) ≡ Some y
get_last [] y = refl
get_last (x ∷ xs) y = get_last xs y

get_past : {A : Type 0} (xs : List A) (y z : A) (k : ℕ) → slice_get (xs ++ y ∷ []) k ≡ Some z → (k < length xs) ⊎ ((k ≡ length xs) × (y ≡ z))
get_past [] y z zero e = inr (refl, some_is e)
get_past [] y z (suc k) e = absurd cc
get_past (x ∷ xs) y z zero e = inl (omega arith)
get_past (x ∷ xs) y z (suc k) e = up (get_past xs y z k e)
  where
    up : (k < length xs) ⊎ ((k ≡ length xs) × (y ≡ z)) → (suc k < suc (length xs)) ⊎ ((suc k ≡ suc (length xs)) × (y ≡ z))
    up (inl h) = inl (omega (arith, h))
    up (inr (h, f)) = inr (ap suc h, f)

more_number : (opens : List Open) (o q : Open) (n : ℕ) → IsNumber opens n q → IsNumber (opens ++ o ∷ []) n q
more_number opens o q n (i, e, is) = (i, e, get_front opens (o ∷ []) i (slice_get_within opens i q is) ∙ is)

number_back : (opens : List Open) (o q : Open) (n : ℕ) → IsNumber (opens ++ o ∷ []) n q → IsNumber opens n q ⊎ ((n ≡ length opens + 1) × (o ≡ q))
number_back opens o q n (i, e, is) = go (get_past opens o q i is)
  where
    go : (i < length opens) ⊎ ((i ≡ length opens) × (o ≡ q)) → IsNumber opens n q ⊎ ((n ≡ length opens + 1) × (o ≡ q))
    go (inl h) = inl (i, e, sym (get_front opens (o ∷ []) i h) ∙ is)
    go (inr (h, f)) = inr (omega (arith, e, h), f)

module _ (opens : List Open) (o : Open) where
  -- a stretch whose cells the entry does not name
  shown_still : (c : ℕ) (frames : List Frame) → names c o ≡ false → AreShown opens c frames → AreShown (opens ++ o ∷ []) c frames
  shown_still c frames unnamed s = record {
    main = s.main;
    frame = λ k f is some. let x = s.frame k f is some in record { entry = x.entry; is = more_number opens o x.entry f.number x.is; task = x.task; named = x.named; mode = x.mode; parent = x.parent };
    all = λ q n number named. of q n named (number_back opens o q n number);
  }
    where
      of : (q : Open) (n : ℕ) → names c q ≡ true → IsNumber opens n q ⊎ ((n ≡ length opens + 1) × (o ≡ q)) → IsShown frames n
      of q n named (inl number) = s.all q n number named
      of q n named (inr (e, same)) = clash (names c q) named (ap (names c) (sym same) ∙ unnamed)

  -- one that has got its access
  shown_more : (c : ℕ) (frames new : List Frame) (up : ℕ) (last : Option ℕ) (added : Frame) → names c o ≡ true → AreLinked frames → AreShown opens c frames → AreGrown frames new up last added → up < length frames → added.up ≡ up
      → added.number ≡ length opens + 1 → added.task ≡ o.task → mode_at c o ≡ added.mode → IsTaskAt frames up o.parent → AreShown (opens ++ o ∷ []) c new
  shown_more c frames new up last added named linked s g within above number task mode parent = record {
    main = λ f is. main_of f (old_or_new frames new up last added linked g within above 0 f is);
    frame = λ k f is some. frame_of k f some (old_or_new frames new up last added linked g within above k f is);
    all = λ q n is q_named. all_of q n q_named (number_back opens o q n is);
  }
    where
      main_of : (f : Frame) → IsOld frames new up last added linked g within above 0 f ⊎ ((0 ≡ length frames) × (added ≡ f)) → f.task ≡ 0
      main_of f (inl k) = ap (λ (x : Frame). x.task) (sym k.same) ∙ k.kept.task ∙ s.main k.frame k.is
      main_of f (inr (e, x)) = absurd (omega (arith, e, within))

      kept_task : (k t : ℕ) → IsTaskAt frames k t → IsTaskAt new k t
      kept_task k t a = task_kept frames new up last added linked g within above k t a

      frame_of : (k : ℕ) (f : Frame) → (k ≡ 0 → ⊥) → IsOld frames new up last added linked g within above k f ⊎ ((k ≡ length frames) × (added ≡ f)) → IsFrameOf (opens ++ o ∷ []) c new f
      frame_of k f some (inl x) =
          let y = s.frame k x.frame x.is some in
          let same = x.same in
          record {
            entry = y.entry;
            is = subst (λ (n : ℕ). IsNumber (opens ++ o ∷ []) n y.entry) (sym x.kept.number ∙ ap (λ (z : Frame). z.number) same) (more_number opens o y.entry x.frame.number y.is);
            task = y.task ∙ sym x.kept.task ∙ ap (λ (z : Frame). z.task) same;
            named = y.named;
            mode = y.mode ∙ sym x.kept.mode ∙ ap (λ (z : Frame). z.mode) same;
            parent = subst (λ (u : ℕ). IsTaskAt new u y.entry.parent) (sym x.kept.up_is ∙ ap (λ (z : Frame). z.up) same) (kept_task x.frame.up y.entry.parent y.parent);
          }
      frame_of k f some (inr (e, x)) =
          subst (λ (z : Frame). IsFrameOf (opens ++ o ∷ []) c new z) x
          (record { entry = o; is = (length opens, number, get_last opens o); task = sym task; named = named; mode = mode; parent = subst (λ (u : ℕ). IsTaskAt new u o.parent) (sym above) (kept_task up o.parent parent) })

      all_of : (q : Open) (n : ℕ) → names c q ≡ true → IsNumber opens n q ⊎ ((n ≡ length opens + 1) × (o ≡ q)) → IsShown new n
      all_of q n q_named (inl is) =
          let x = s.all q n is q_named in
          let y = g.frame x.place x.frame x.is in
          record { place = x.place; not_main = x.not_main; frame = y.frame; is = y.is; number = y.number ∙ x.number }
      all_of q n q_named (inr (e, same)) = record { place = length frames; not_main = λ z. omega (arith, z, within); frame = added; is = g.here; number = number ∙ sym e }

-- the number of a creator has a place in each stretch that the child names
module _ (opens : List Open) (pieces : List (Piece ℕ)) (columns : List Column) (are : AreOpens opens) (k : AreColumns opens pieces columns) (o : Open) (parent : ℕ) (number : IsNumberOf opens parent o.parent)
    (held : (c : ℕ) → names c o ≡ true → (o.parent ≡ 0) ⊎ (HasCover opens c o × (given_at pieces columns o.parent c ≡ false))) where
  module _ (i : ℕ) (a : Column) (is : slice_get columns i ≡ Some a) (c : ℕ) (lo : a.lo ≤ c) (hi : c < a.hi) (named : names c o ≡ true) where
    r : IsColumn opens c a
    r = k.right i a c is lo hi

    pub creator_at : (u : ℕ) × IsPlaceOf a.frames.items parent u
    creator_at = go number (held c named)
      where
        above : (q : Open) → IsNumber opens parent q → q.task ≡ o.parent → HasCover opens c o → (u : ℕ) × IsPlaceOf a.frames.items parent u
        above q num e cover =
            let same = one_entry are.ordered cover.above.entry q cover.above.listed (get_in opens num.0 q num.2) (cover.above.number ∙ sym e) in
            let s = r.shown.all q parent num (subst (λ (x : Open). names c x ≡ true) same cover.above.named) in
            (s.place, (s.frame, s.is, s.number))

        go : IsNumberOf opens parent o.parent → (o.parent ≡ 0) ⊎ (HasCover opens c o × (given_at pieces columns o.parent c ≡ false)) → (u : ℕ) × IsPlaceOf a.frames.items parent u
        go (inl (z, e)) h = (0, (r.linked.main.0, r.linked.main.1, r.linked.main.2 ∙ sym z))
        go (inr (q, num, e)) (inl z) = absurd (not_main are.ordered q (get_in opens num.0 q num.2) (e ∙ z))
        go (inr (q, num, e)) (inr (cover, h)) = above q num e cover

    module _ (u : ℕ) (p : IsPlaceOf a.frames.items parent u) where
      pub creator_task : IsTaskAt a.frames.items u o.parent
      creator_task = go number
        where
          at_zero : u ≡ 0 → parent ≡ 0
          at_zero z = sym p.2 ∙ ap (λ (f : Frame). f.number) (same_at (subst (λ (j : ℕ). slice_get a.frames.items j ≡ Some p.0) z p.1) r.linked.main.1) ∙ r.linked.main.2

          go : IsNumberOf opens parent o.parent → IsTaskAt a.frames.items u o.parent
          go (inl (z, e)) = (λ h. e, λ some. absurd (omega (arith, positive some, z, p.2, r.linked.main.2)))
            where
              positive : (u ≡ 0 → ⊥) → r.linked.main.0.number < p.0.number
              positive some = r.linked.rising 0 u r.linked.main.0 p.0 r.linked.main.1 p.1 (more (compared 0 u))
                where
                  more : (0 < u) ⊎ ((0 ≡ u) ⊎ (u < 0)) → 0 < u
                  more (inl l) = l
                  more (inr (inl e2)) = absurd (some (sym e2))
                  more (inr (inr l)) = absurd (omega (arith, l))
          go (inr (q, num, e)) =
              let n = node_of opens c a.frames.items r.linked r.shown parent q num u p in
              (λ z. absurd (n.not_main z), λ some. (n.frame, n.is, n.task ∙ e))

      pub creator_held : given_mark (slice_get a.marks.items u) ≡ false
      creator_held = go (bools (given_mark (slice_get a.marks.items u)))
        where
          mark : (m : Mark) × (slice_get a.marks.items u ≡ Some m)
          mark = value_within a.marks.items u (omega (arith, slice_get_within a.frames.items u p.0 p.1, r.marked.same))

          is_main : given_mark (slice_get a.marks.items u) ≡ true → u ≡ 0 → ⊥
          is_main h z = clash (given_mark (slice_get a.marks.items u)) h (ap given_mark mark.1 ∙ r.marked.main mark.0 (subst (λ (j : ℕ). slice_get a.marks.items j ≡ Some mark.0) z mark.1))

          told : given_mark (slice_get a.marks.items u) ≡ true → (u ≡ 0 → ⊥) → (o.parent ≡ 0) ⊎ (HasCover opens c o × (given_at pieces columns o.parent c ≡ false)) → ⊥
          told h some (inl z) = let t = creator_task.1 some in not_main_task t.0 t.1 (t.2 ∙ z) some
            where
              not_main_task : (f : Frame) → slice_get a.frames.items u ≡ Some f → f.task ≡ 0 → (u ≡ 0 → ⊥) → ⊥
              not_main_task f f_is e some = let x = r.shown.frame u f f_is some in not_main are.ordered x.entry (get_in opens x.is.0 x.entry x.is.2) (x.task ∙ e)
          told h some (inr (cover, g)) =
              let t = creator_task.1 some in
              clash (given_at pieces columns o.parent c)
              (agrees opens pieces columns are k i a c is lo hi o.parent ∙ given_told a.frames.items a.marks.items o.parent u t.0 mark.0 t.1 mark.1 t.2 (sym (ap given_mark mark.1) ∙ h)) g

          go : (given_mark (slice_get a.marks.items u) ≡ true) ⊎ (given_mark (slice_get a.marks.items u) ≡ false) → given_mark (slice_get a.marks.items u) ≡ false
          go (inr h) = h
          go (inl h) = absurd (decide (zero_or u))
            where
              decide : (u ≡ 0) ⊎ (u ≡ 0 → ⊥) → ⊥
              decide (inl z) = is_main h z
              decide (inr some) = told h some (held c named)

  -- the stretches of its accesses may get one each
  pub entry_addable : (some : columns ≡ [] → ⊥) → IsRising o.accesses → ((x : Access) → IsIn x o.accesses → IsReady columns x.range.lo x.range.hi) → (x : Access) → IsIn x o.accesses → AreAddable pieces columns parent x.range.lo x.range.hi
  entry_addable some rising ready x i =
      let q = ready x i in
      record {
        stretches = k.stretches;
        some = some;
        begins = q.begins;
        ends = q.ends;
        each = λ j a is l h.
            let e = (k.stretches.some j a is).0 in
            let named : names a.lo o ≡ true = ap is_some_access (rising_once o.accesses rising x a.lo i (bounds_in x a.lo l h)) in
            let c = k.right j a a.lo is (omega arith) e in
            let u = creator_at j a is a.lo (omega arith) e named in
            record { linked = c.linked; same = c.marked.same; room = q.room j a is (omega (arith, l, e)) h; up = u.0; up_is = u.1 };
      }

  module _ (new : List Column) (n : ℕ) (number_is : n ≡ length opens + 1) (rising : IsRising o.accesses) (ready : (x : Access) → IsIn x o.accesses → IsReady columns x.range.lo x.range.hi) (g : AreAllGrown n o.task parent o.accesses columns new) where
    edged : AreEdged columns new
    edged = all_edged n o.task parent o.accesses columns new g

    -- the cells of a stretch are alike for the accesses
    same_access : (i : ℕ) (a : Column) → slice_get columns i ≡ Some a → (x : Access) → access_at o.accesses a.lo ≡ Some x → (c : ℕ) → a.lo ≤ c → c < a.hi → access_at o.accesses c ≡ Some x
    same_access i a is x e c lo hi =
        let f = access_found o.accesses a.lo x e in
        let b = in_bounds x a.lo f.1 in
        rising_once o.accesses rising x c f.0 (bounds_in x c (omega (arith, b.0, lo)) (go b ((ready x f.0).ends i a is)))
      where
        go : (x.range.lo ≤ a.lo) × (a.lo < x.range.hi) → (x.range.hi ≤ a.lo) ⊎ (a.hi ≤ x.range.hi) → c < x.range.hi
        go b (inl h) = absurd (omega (arith, b.1, h))
        go b (inr h) = omega (arith, h, hi)

    no_access : (i : ℕ) (a : Column) → slice_get columns i ≡ Some a → access_at o.accesses a.lo ≡ None → (c : ℕ) → a.lo ≤ c → c < a.hi → access_at o.accesses c ≡ None
    no_access i a is e c lo hi = go (options (access_at o.accesses c))
      where
        go : (access_at o.accesses c ≡ None) ⊎ ((x : Access) × (access_at o.accesses c ≡ Some x)) → access_at o.accesses c ≡ None
        go (inl h) = h
        go (inr (x, h)) = let f = access_found o.accesses c x h in let b = in_bounds x c f.1 in absurd (in_two f.0 b ((ready x f.0).begins i a is))
          where
            in_two : IsIn x o.accesses → (x.range.lo ≤ c) × (c < x.range.hi) → (x.range.lo ≤ a.lo) ⊎ (a.hi ≤ x.range.lo) → ⊥
            in_two j b (inr z) = omega (arith, z, b.0, hi)
            in_two j b (inl z) = some_none (sym (rising_once o.accesses rising x a.lo j (bounds_in x a.lo z (omega (arith, lo, b.1)))) ∙ e)

    right_of : (i : ℕ) (a b : Column) (c : ℕ) → slice_get columns i ≡ Some a → IsGrownBy n o.task parent o.accesses a b → a.lo ≤ c → c < a.hi → IsColumn (opens ++ o ∷ []) c b
    right_of i a b c is (kept e same) lo hi =
        let q = k.right i a c is lo hi in
        subst (λ (z : Column). IsColumn (opens ++ o ∷ []) c z) same (record { linked = q.linked; marked = q.marked; shown = shown_still opens o c a.frames.items (ap is_some_access (no_access i a is e c lo hi)) q.shown })
    right_of i a b c is (got x e m) lo hi =
        let q = k.right i a c is lo hi in
        let at_ = same_access i a is x e c lo hi in
        let named : names c o ≡ true = ap is_some_access at_ in
        let within = slice_get_within a.frames.items m.up m.up_is.0 m.up_is.1 in
        let added : Frame = record { number = n; task = o.task; up = m.up; mode = x.mode; last = None; next = None } in
        record {
          linked = grown_linked a.frames.items b.frames.items m.up (get_or a.frames.items m.up blank).last added q.linked m.frames within refl (get_or a.frames.items m.up blank) (slice_get-get_or a.frames.items m.up blank within) refl refl refl
              (λ j f f_is. smaller c a q j f f_is);
          marked = grown_marked a.frames.items b.frames.items m.up (get_or a.frames.items m.up blank).last added q.linked m.frames within refl a.marks.items b.marks.items q.marked m.marks (creator_held i a is c lo hi named m.up m.up_is);
          shown = shown_more opens o c a.frames.items b.frames.items m.up (get_or a.frames.items m.up blank).last added named q.linked q.shown m.frames within refl number_is refl (ap mode_of_access at_) (creator_task i a is c lo hi named m.up m.up_is);
        }
      where
        smaller : (c : ℕ) (a : Column) → IsColumn opens c a → (j : ℕ) (f : Frame) → slice_get a.frames.items j ≡ Some f → f.number < n
        smaller c a q j f f_is = go (zero_or j)
          where
            go : (j ≡ 0) ⊎ (j ≡ 0 → ⊥) → f.number < n
            go (inl z) = omega (arith, ap (λ (y : Frame). y.number) (same_at (subst (λ (v : ℕ). slice_get a.frames.items v ≡ Some f) z f_is) q.linked.main.1), q.linked.main.2, number_is)
            go (inr some) = let y = (q.shown.frame j f f_is some).is in omega (arith, y.1, slice_get_within opens y.0 (q.shown.frame j f f_is some).entry y.2, number_is)

    pub opened_columns : (columns ≡ [] → ⊥) → AreColumns (opens ++ o ∷ []) pieces new
    opened_columns some = record {
      stretches = edged_stretches pieces columns new edged k.stretches;
      right = λ i b c e l h. let a = value_within columns i (omega (arith, slice_get_within new i b e, g.size)) in right i b c e l h a.0 a.1 (g.each i a.0 a.1) (edged_back columns new edged i b e);
      none = λ z. absurd (some (empty columns (sym g.size ∙ ap length z)));
    }
      where
        empty : (xs : List Column) → length xs ≡ 0 → xs ≡ []
        empty [] e = refl
        empty (x ∷ xs) e = absurd (omega (arith, e))

        right : (i : ℕ) (b : Column) (c : ℕ) → slice_get new i ≡ Some b → b.lo ≤ c → c < b.hi → (a : Column) → slice_get columns i ≡ Some a → (x : Column) × (slice_get new i ≡ Some x) × IsGrownBy n o.task parent o.accesses a x
            → (y : Column) × (slice_get columns i ≡ Some y) × (b.lo ≡ y.lo) × (b.hi ≡ y.hi) → IsColumn (opens ++ o ∷ []) c b
        right i b c e l h a is (x, x_is, how) (y, y_is, lo, hi) =
            let same = same_at y_is is in
            right_of i a b c is (subst (λ (z : Column). IsGrownBy n o.task parent o.accesses a z) (same_at x_is e) how) (omega (arith, l, lo, ap (λ (z : Column). z.lo) same)) (omega (arith, h, hi, ap (λ (z : Column). z.hi) same))

    pub opened_given : (t c : ℕ) → given_at pieces new t c ≡ given_at pieces columns t c
    opened_given t c = go (options (value_at pieces c))
      where
        read : (xs : List Column) (v : Option ℕ) → value_at pieces c ≡ v → given_at pieces xs t c ≡ given_in (option_and_then (slice_get xs) v) t
        read xs v e = ap (λ (z : Option ℕ). given_in (option_and_then (slice_get xs) z) t) e

        same : (i : ℕ) (a b : Column) → slice_get columns i ≡ Some a → a.lo ≤ c → c < a.hi → IsGrownBy n o.task parent o.accesses a b → given_by b.frames.items b.marks.items t ≡ given_by a.frames.items a.marks.items t
        same i a b is lo hi (kept e s) = ap (λ (z : Column). given_by z.frames.items z.marks.items t) (sym s)
        same i a b is lo hi (got x e m) =
            let q = k.right i a c is lo hi in
            let named : names c o ≡ true = ap is_some_access (same_access i a is x e c lo hi) in
            let within = slice_get_within a.frames.items m.up m.up_is.0 m.up_is.1 in
            grown_given a.frames.items b.frames.items m.up (get_or a.frames.items m.up blank).last (record { number = n; task = o.task; up = m.up; mode = x.mode; last = None; next = None }) q.linked m.frames within refl a.marks.items b.marks.items q.marked m.marks
            (creator_held i a is c lo hi named m.up m.up_is) t

        go : (value_at pieces c ≡ None) ⊎ ((i : ℕ) × (value_at pieces c ≡ Some i)) → given_at pieces new t c ≡ given_at pieces columns t c
        go (inl e) = read new None e ∙ sym (read columns None e)
        go (inr (i, e)) =
            let a = k.stretches.here c i e in
            let b = g.each i a.0 a.1 in
            read new (Some i) e ∙ ap (λ (z : Option Column). given_in z t) b.1 ∙ same i a.0 b.0 a.1 a.2 a.3 b.2 ∙ sym (read columns (Some i) e ∙ ap (λ (z : Option Column). given_in z t) a.1)
