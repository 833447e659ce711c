-- Whether an access is satisfied is told level by level; on each, by the accesses from the first that is not done on.
use Rattle.std.proofs.Common.{◌≡◌, ℕ, ◌<◌, ◌≤◌, zero, suc, refl, sym, ap, subst, ◌∙◌, List, ◌⊎◌, inl, inr, true, false, Option, Some, None, arith}
use Rattle.std.specs.Prelude.{◌||◌, slice_get}
use Rattle.oss_syntax.specs.declared.access.Mode.{Mode}
use Rattle.oss_syntax.specs.declared.access.Mode.TheVariants.{Read, Write, Fold}
use Rattle.oss_syntax.specs.declared.access.Op.{Op}
use Rattle.oss_syntax.specs.declared.access.Op.TheVariants.{Add, And, Or, Xor}
use Rattle.oss_model.specs.Rights.{op_eq, covers}
use Rattle.oss_model.specs.Forest.{IsDone, IsRead, IsWriteSatisfied, IsReadSatisfied, IsJoinSatisfied, InRun, write_top, write_child, read_top, read_child, join_top, join_below_fold, join_below_write}
use Rattle.oss_deps.specs.declared.frame.Frame.{Frame}
use Rattle.oss_deps.specs.declared.frame.Mark.{Mark}
use Rattle.oss_deps.specs.declared.want.Want.{Want}
use Rattle.oss_deps.specs.declared.want.Want.TheVariants.{ToWrite, ToRead, ToJoin}
use Rattle.oss_deps.specs.Places.{closed_at, first_at, first_mark, mode_at_place, mode_of_frame, IsBelow, IsSibling, IsFirst, place_forest, AreLinked, AreMarked, AreModesCovered, IsWithin}
use Rattle.oss_deps.specs.Wants.{is_fold_of, is_read, want_above, IsSatisfied, Fits, IsAhead, IsLevelClear}
use Rattle.oss_deps.proofs.Basics.{bools, or_cases, or_left, or_right, same_at, options, value_within, compared}
use Rattle.oss_deps.proofs.DoneLemmas.{closed_done, done_closed, below_within, below_behind}

op_same : (a b : Op) → op_eq a b ≡ true → a ≡ b
op_same Add Add h = refl
op_same And And h = refl
op_same Or Or h = refl
op_same Xor Xor h = refl
op_same _ _ h = absurd cc

op_self : (a : Op) → op_eq a a ≡ true
op_self Add = refl
op_self And = refl
op_self Or = refl
op_self Xor = refl

pub tells_fold : (op : Op) (m : Mode) → is_fold_of op m ≡ true → m ≡ Fold op
tells_fold op (Fold b) h = ap Fold (sym (op_same op b h))
tells_fold op Read h = absurd cc
tells_fold op Write h = absurd cc

pub fold_told : (op : Op) (m : Mode) → m ≡ Fold op → is_fold_of op m ≡ true
fold_told op m e = rw e (op_self op)

covers_fold : (op : Op) (m : Mode) → covers m (Fold op) ≡ true → (is_fold_of op m ≡ true) ⊎ ((m ≡ Write) × (is_fold_of op m ≡ false))
covers_fold op Write h = inr (refl, refl)
covers_fold op Read h = absurd cc
covers_fold op (Fold a) h = inl (fold_told op (Fold a) (ap Fold (op_same a op h)))

tells_read : (m : Mode) → is_read m ≡ true → IsRead m
tells_read Read h = tt
tells_read Write h = absurd cc
tells_read (Fold op) h = absurd cc

read_told : (m : Mode) → (is_read m ≡ true) ⊎ (IsRead m → ⊥)
read_told Read = inl refl
read_told Write = inr (λ h. h)
read_told (Fold op) = inr (λ h. h)

first_is : (o : Option Mark) (l : ℕ) → first_mark o ≡ Some l → (m : Mark) × (o ≡ Some m) × (m.first ≡ Some l)
first_is None l e = absurd cc
first_is (Some m) l e = (m, refl, e)

pub one_creator : (frames : List Frame) (j k v : ℕ) → IsBelow frames j v → IsBelow frames k v → j ≡ k
one_creator frames j k v a b = sym a.up_is ∙ ap (λ (f : Frame). f.up) (same_at a.is b.is) ∙ b.up_is

pub zero_or : (k : ℕ) → (k ≡ 0) ⊎ (k ≡ 0 → ⊥)
zero_or zero = inl refl
zero_or (suc k) = inr (λ e. absurd (omega (arith, e)))

module _ (frames : List Frame) (marks : List Mark) (linked : AreLinked frames) (marked : AreMarked frames marks None) where
  abbrev pub Done : ℕ → Type 0
  Done u = IsDone (place_forest frames marks) u

  -- What is asked of one level.
  abbrev pub Level : Want → ℕ → Type 0
  Level ToWrite v = (u : ℕ) → IsSibling frames u v → Done u
  Level ToRead v = (u : ℕ) → IsSibling frames u v → (IsRead (mode_at_place frames u) → ⊥) → Done u
  Level (ToJoin op) v = (u : ℕ) → IsSibling frames u v → InRun (place_forest frames marks) op u v ⊎ Done u

  -- What is asked of the levels above.
  abbrev pub Up : Want → ℕ → Type 0
  Up w p = (p ≡ 0) ⊎ IsSatisfied (place_forest frames marks) w p

  ahead_or_closed : (u v : ℕ) → IsSibling frames u v → IsAhead frames marks u v ⊎ (closed_at marks u ≡ true)
  ahead_or_closed u v s =
      let below = below_behind frames marks linked marked s.creator u s.before in
      let within = below_within frames s.creator u s.before in
      let m = value_within marks s.creator (omega (arith, below, within.1, marked.same)) in
      go m.0 m.1 (options m.0.first)
    where
      go : (m : Mark) → slice_get marks s.creator ≡ Some m → (m.first ≡ None) ⊎ ((l : ℕ) × (m.first ≡ Some l)) → IsAhead frames marks u v ⊎ (closed_at marks u ≡ true)
      go m is (inl e) = inr (subst (λ (o : Option ℕ). IsFirst frames marks None s.creator o) e (marked.first s.creator m is) u s.before)
      go m is (inr (l, e)) = at (compared u l)
        where
          first : IsFirst frames marks None s.creator (Some l)
          first = subst (λ (o : Option ℕ). IsFirst frames marks None s.creator o) e (marked.first s.creator m is)

          made : l ≤ u → IsAhead frames marks u v
          made h = record { sibling = s; first = l; first_is = ap first_mark is ∙ e; behind = h }

          at : (u < l) ⊎ ((u ≡ l) ⊎ (l < u)) → IsAhead frames marks u v ⊎ (closed_at marks u ≡ true)
          at (inl h) = inr (first.2 u s.before h)
          at (inr (inl h)) = inl (made (omega (arith, h)))
          at (inr (inr h)) = inl (made (omega (arith, h)))

  -- the first one ahead is a sibling that is not done
  first_ahead : (u v : ℕ) (a : IsAhead frames marks u v) → IsSibling frames a.first v × (closed_at marks a.first ≡ true → ⊥)
  first_ahead u v a =
      let m = first_is (slice_get marks a.sibling.creator) a.first a.first_is in
      let first : IsFirst frames marks None a.sibling.creator (Some a.first) = subst (λ (o : Option ℕ). IsFirst frames marks None a.sibling.creator o) m.2 (marked.first a.sibling.creator m.0 m.1) in
      (record { creator = a.sibling.creator; before = first.0; after = a.sibling.after; order = omega (arith, a.behind, a.sibling.order) }, λ h. none (first.1 h))
    where
      none : None ≡ Some a.first → ⊥
      none e = absurd cc

  sibling_within : (u v : ℕ) → IsSibling frames u v → IsWithin frames u
  sibling_within u v s = below_within frames s.creator u s.before

  closed : (u v : ℕ) → IsSibling frames u v → Done u → closed_at marks u ≡ true
  closed u v s d = done_closed frames marks linked marked u (sibling_within u v s) d

  is_done : (u : ℕ) → closed_at marks u ≡ true → Done u
  is_done u h = closed_done frames marks linked marked u h

  -- what the test tells of a level is so
  write_sound : (v : ℕ) → IsLevelClear frames marks ToWrite v → (u : ℕ) → IsSibling frames u v → Done u
  write_sound v clear u s = go (ahead_or_closed u v s)
    where
      go : IsAhead frames marks u v ⊎ (closed_at marks u ≡ true) → Done u
      go (inl a) = is_done u (clear u a)
      go (inr h) = is_done u h

  read_sound : (v : ℕ) → IsLevelClear frames marks ToRead v → (u : ℕ) → IsSibling frames u v → (IsRead (mode_at_place frames u) → ⊥) → Done u
  read_sound v clear u s = go (ahead_or_closed u v s)
    where
      passed : (closed_at marks u ≡ true) ⊎ (is_read (mode_at_place frames u) ≡ true) → (IsRead (mode_at_place frames u) → ⊥) → Done u
      passed (inl h) n = is_done u h
      passed (inr h) n = absurd (n (tells_read (mode_at_place frames u) h))

      go : IsAhead frames marks u v ⊎ (closed_at marks u ≡ true) → (IsRead (mode_at_place frames u) → ⊥) → Done u
      go (inl a) n = passed (or_cases (closed_at marks u) (is_read (mode_at_place frames u)) (clear u a)) n
      go (inr h) n = is_done u h

  join_sound : (op : Op) (v : ℕ) → IsLevelClear frames marks (ToJoin op) v → (u : ℕ) → IsSibling frames u v → InRun (place_forest frames marks) op u v ⊎ Done u
  join_sound op v clear u s = go (ahead_or_closed u v s)
    where
      between : IsAhead frames marks u v → (w : ℕ) → IsSibling frames u w → IsSibling frames w v → mode_at_place frames w ≡ Fold op
      between a w k l =
          let same : a.sibling.creator ≡ l.creator = one_creator frames a.sibling.creator l.creator v a.sibling.after l.after in
          tells_fold op (mode_at_place frames w) (clear w (record { sibling = l; first = a.first; first_is = ap (λ (z : ℕ). first_at marks z) (sym same) ∙ a.first_is; behind = omega (arith, a.behind, k.order) }))

      go : IsAhead frames marks u v ⊎ (closed_at marks u ≡ true) → InRun (place_forest frames marks) op u v ⊎ Done u
      go (inl a) = inl (record { first = tells_fold op (mode_at_place frames u) (clear u a); between = between a })
      go (inr h) = inr (is_done u h)

  pub level_sound : (want : Want) (v : ℕ) → IsLevelClear frames marks want v → Level want v
  level_sound ToWrite v clear = λ u s. write_sound v clear u s
  level_sound ToRead v clear = λ u s. read_sound v clear u s
  level_sound (ToJoin op) v clear = λ u s. join_sound op v clear u s

  -- what is so of a level is told
  write_complete : (v : ℕ) → Level ToWrite v → (u : ℕ) → IsAhead frames marks u v → closed_at marks u ≡ true
  write_complete v f u a = closed u v a.sibling (f u a.sibling)

  read_complete : (v : ℕ) → Level ToRead v → (u : ℕ) → IsAhead frames marks u v → (closed_at marks u || is_read (mode_at_place frames u)) ≡ true
  read_complete v f u a = go (read_told (mode_at_place frames u))
    where
      go : (is_read (mode_at_place frames u) ≡ true) ⊎ (IsRead (mode_at_place frames u) → ⊥) → (closed_at marks u || is_read (mode_at_place frames u)) ≡ true
      go (inl h) = or_right (closed_at marks u) (is_read (mode_at_place frames u)) h
      go (inr n) = or_left (closed_at marks u) (is_read (mode_at_place frames u)) (closed u v a.sibling (f u a.sibling n))

  join_complete : (op : Op) (v : ℕ) → Level (ToJoin op) v → (u : ℕ) → IsAhead frames marks u v → is_fold_of op (mode_at_place frames u) ≡ true
  join_complete op v f u a = go (f a.first (first_ahead u v a).0)
    where
      here : (run : InRun (place_forest frames marks) op a.first v) → (a.first < u) ⊎ ((a.first ≡ u) ⊎ (u < a.first)) → is_fold_of op (mode_at_place frames u) ≡ true
      here run (inl h) = fold_told op (mode_at_place frames u) (run.between u (record { creator = a.sibling.creator; before = subst (λ (z : ℕ). IsBelow frames z a.first) (one_creator frames (first_ahead u v a).0.creator a.sibling.creator v (first_ahead u v a).0.after a.sibling.after) (first_ahead u v a).0.before; after = a.sibling.before; order = h }) a.sibling)
      here run (inr (inl e)) = fold_told op (mode_at_place frames u) (ap (λ (z : ℕ). mode_at_place frames z) (sym e) ∙ run.first)
      here run (inr (inr h)) = absurd (omega (arith, h, a.behind))

      go : InRun (place_forest frames marks) op a.first v ⊎ Done a.first → is_fold_of op (mode_at_place frames u) ≡ true
      go (inl run) = here run (compared a.first u)
      go (inr d) = absurd ((first_ahead u v a).1 (closed a.first v (first_ahead u v a).0 d))

  pub level_complete : (want : Want) (v : ℕ) → Level want v → IsLevelClear frames marks want v
  level_complete ToWrite v f = λ u a. write_complete v f u a
  level_complete ToRead v f = λ u a. read_complete v f u a
  level_complete (ToJoin op) v f = λ u a. join_complete op v f u a

  module _ (covered : AreModesCovered frames) (v : ℕ) (f : Frame) (is : slice_get frames v ≡ Some f) (not_main : v ≡ 0 → ⊥) where
    below : IsBelow frames f.up v
    below = record { frame = f; is = is; not_main = not_main; up_is = refl }

    above_same : (p : ℕ) → IsBelow frames p v → p ≡ f.up
    above_same p b = one_creator frames p f.up v b below

    at_top : f.up ≡ 0 → IsBelow frames 0 v
    at_top z = subst (λ (k : ℕ). IsBelow frames k v) z below

    write_down : IsWriteSatisfied (place_forest frames marks) v → Level ToWrite v × Up ToWrite f.up
    write_down (write_top t g) = (g, inl (sym (above_same 0 t)))
    write_down (write_child {p = p} c s g) = (g, inr (subst (λ (k : ℕ). IsWriteSatisfied (place_forest frames marks) k) (above_same p c.1) s))

    write_back : Level ToWrite v → Up ToWrite f.up → (f.up ≡ 0) ⊎ (f.up ≡ 0 → ⊥) → IsWriteSatisfied (place_forest frames marks) v
    write_back g up (inl z) = write_top (at_top z) g
    write_back g (inl z) (inr n) = absurd (n z)
    write_back g (inr s) (inr n) = write_child (n, below) s g

    read_down : IsReadSatisfied (place_forest frames marks) v → Level ToRead v × Up ToRead f.up
    read_down (read_top t g) = (g, inl (sym (above_same 0 t)))
    read_down (read_child {p = p} c s g) = (g, inr (subst (λ (k : ℕ). IsReadSatisfied (place_forest frames marks) k) (above_same p c.1) s))

    read_back : Level ToRead v → Up ToRead f.up → (f.up ≡ 0) ⊎ (f.up ≡ 0 → ⊥) → IsReadSatisfied (place_forest frames marks) v
    read_back g up (inl z) = read_top (at_top z) g
    read_back g (inl z) (inr n) = absurd (n z)
    read_back g (inr s) (inr n) = read_child (n, below) s g

    fold_above : (op : Op) (m : Mode) → is_fold_of op m ≡ true → want_above (ToJoin op) m ≡ ToJoin op
    fold_above op m h = rw h refl

    write_above : (op : Op) (m : Mode) → is_fold_of op m ≡ false → want_above (ToJoin op) m ≡ ToWrite
    write_above op m h = rw h refl

    abbrev mode_up : Mode
    mode_up = mode_at_place frames f.up

    join_down : (op : Op) → IsJoinSatisfied (place_forest frames marks) op v → Level (ToJoin op) v × Up (want_above (ToJoin op) mode_up) f.up
    join_down op (join_top t g) = (g, inl (sym (above_same 0 t)))
    join_down op (join_below_fold {p = p} c e s g) =
        let same = above_same p c.1 in
        let m : mode_up ≡ Fold op = ap (λ (z : ℕ). mode_at_place frames z) (sym same) ∙ e in (
          g,
          inr (subst (λ (w : Want). IsSatisfied (place_forest frames marks) w f.up) (sym (fold_above op mode_up (fold_told op mode_up m))) (subst (λ (k : ℕ). IsJoinSatisfied (place_forest frames marks) op k) same s)),
        )
    join_down op (join_below_write {p = p} c e s g) =
        let same = above_same p c.1 in
        let m : mode_up ≡ Write = ap (λ (z : ℕ). mode_at_place frames z) (sym same) ∙ e in (
          g,
          inr (subst (λ (w : Want). IsSatisfied (place_forest frames marks) w f.up) (sym (write_above op mode_up (ap (is_fold_of op) m))) (subst (λ (k : ℕ). IsWriteSatisfied (place_forest frames marks) k) same s)),
        )

    covers_up : (op : Op) → mode_at_place frames v ≡ Fold op → (f.up ≡ 0 → ⊥) → covers mode_up (Fold op) ≡ true
    covers_up op m n =
        let within = below_within frames f.up v below in
        let g = value_within frames f.up (omega (arith, linked.above v f is not_main, within.1)) in
        ap (λ (x : Mode). covers x (Fold op)) (ap mode_of_frame g.1) ∙ ap (λ (x : Mode). covers g.0.mode x) (sym m ∙ ap mode_of_frame is) ∙ covered v f g.0 is not_main n g.1

    join_back : (op : Op) → mode_at_place frames v ≡ Fold op → Level (ToJoin op) v → Up (want_above (ToJoin op) mode_up) f.up → (f.up ≡ 0) ⊎ (f.up ≡ 0 → ⊥) → IsJoinSatisfied (place_forest frames marks) op v
    join_back op m g up (inl z) = join_top (at_top z) g
    join_back op m g (inl z) (inr n) = absurd (n z)
    join_back op m g (inr s) (inr n) = go (covers_fold op mode_up (covers_up op m n))
      where
        go : (is_fold_of op mode_up ≡ true) ⊎ ((mode_up ≡ Write) × (is_fold_of op mode_up ≡ false)) → IsJoinSatisfied (place_forest frames marks) op v
        go (inl fold) = join_below_fold (n, below) (tells_fold op mode_up fold) (subst (λ (w : Want). IsSatisfied (place_forest frames marks) w f.up) (fold_above op mode_up fold) s) g
        go (inr (write, no_fold)) = join_below_write (n, below) write (subst (λ (w : Want). IsSatisfied (place_forest frames marks) w f.up) (write_above op mode_up no_fold) s) g

    -- an access is satisfied where its level is clear and the access above is satisfied
    pub satisfied_down : (want : Want) → IsSatisfied (place_forest frames marks) want v → Level want v × Up (want_above want mode_up) f.up
    satisfied_down ToWrite s = write_down s
    satisfied_down ToRead s = read_down s
    satisfied_down (ToJoin op) s = join_down op s

    pub satisfied_back : (want : Want) → Fits frames want v → Level want v → Up (want_above want mode_up) f.up → IsSatisfied (place_forest frames marks) want v
    satisfied_back ToWrite fits g up = write_back g up (zero_or f.up)
    satisfied_back ToRead fits g up = read_back g up (zero_or f.up)
    satisfied_back (ToJoin op) fits g up = join_back op fits g up (zero_or f.up)

    -- what is wanted above fits there
    pub fits_up : (want : Want) → (f.up ≡ 0) ⊎ Fits frames (want_above want mode_up) f.up
    fits_up ToWrite = inr tt
    fits_up ToRead = inr tt
    fits_up (ToJoin op) = go (bools (is_fold_of op mode_up))
      where
        go : (is_fold_of op mode_up ≡ true) ⊎ (is_fold_of op mode_up ≡ false) → (f.up ≡ 0) ⊎ Fits frames (want_above (ToJoin op) mode_up) f.up
        go (inl h) = inr (subst (λ (w : Want). Fits frames w f.up) (sym (fold_above op mode_up h)) (tells_fold op mode_up h))
        go (inr h) = inr (subst (λ (w : Want). Fits frames w f.up) (sym (write_above op mode_up h)) tt)
