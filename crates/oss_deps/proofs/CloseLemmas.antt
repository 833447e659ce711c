-- An access that comes to be done, and what is noted of that above it.
use Rattle.std.proofs.Common.{◌≡◌, ℕ, ◌-◌, ◌<◌, ◌≤◌, zero, suc, refl, sym, ap, subst, ◌∙◌, List, [], ◌∷◌, ◌⊎◌, inl, inr, Bool, true, false, Option, Some, None, arith, length, get_or, set}
use Rattle.std.proofs.lemmas.List.{length-set, get_or-set_same}
use Rattle.std.proofs.lemmas.Option.{slice_get_within, slice_get-get_or}
use Rattle.std.specs.Prelude.{◌&&◌, ◌||◌, ◌==◌, not, is_some, slice_get}
use Rattle.oss_deps.specs.declared.frame.Frame.{Frame}
use Rattle.oss_deps.specs.declared.frame.Mark.{Mark}
use Rattle.oss_deps.specs.Kept.{given_by}
use Rattle.oss_deps.specs.Places.{is_closed, closed_at, closed_mark, IsBelow, IsNext, IsFirst, IsNextOpen, AreLinked, AreMarked, IsWithin}
use Rattle.oss_deps.proofs.Basics.{both, clash, some_is, some_none, same_at, compared}
use Rattle.oss_deps.specs.Places.{blank, unmarked}
use Rattle.oss_deps.proofs.DoneLemmas.{closed_is, closed_of, below_within}
use Rattle.oss_deps.proofs.LevelLemmas.{one_creator}
use Rattle.oss_deps.proofs.WalkLemmas.{ahead_of}

-- a list after a write
pub get_set_same : {A : Type 0} (xs : List A) (k : ℕ) (x : A) → k < length xs → slice_get (set xs k x) k ≡ Some x
get_set_same [] k x h = absurd (omega (arith, h))
get_set_same (y ∷ xs) zero x h = refl
get_set_same (y ∷ xs) (suc k) x h = get_set_same xs k x (omega (arith, h))

pub get_set_other : {A : Type 0} (xs : List A) (k j : ℕ) (x : A) → (j ≡ k → ⊥) → slice_get (set xs k x) j ≡ slice_get xs j
get_set_other [] k j x n = refl
get_set_other (y ∷ xs) zero zero x n = absurd (n refl)
get_set_other (y ∷ xs) zero (suc j) x n = refl
get_set_other (y ∷ xs) (suc k) zero x n = refl
get_set_other (y ∷ xs) (suc k) (suc j) x n = get_set_other xs k j x (λ e. n (ap suc e))

pub same_number : (j k : ℕ) → (j ≡ k) ⊎ (j ≡ k → ⊥)
same_number j k = go (compared j k)
  where
    go : (j < k) ⊎ ((j ≡ k) ⊎ (k < j)) → (j ≡ k) ⊎ (j ≡ k → ⊥)
    go (inl h) = inr (λ e. absurd (omega (arith, h, e)))
    go (inr (inl e)) = inl e
    go (inr (inr h)) = inr (λ e. absurd (omega (arith, h, e)))

-- what is given up stays so where the marks' flags stay
pub given_same : (frames : List Frame) (marks : List Mark) (k : ℕ) (m n : Mark) (t : ℕ) → slice_get marks k ≡ Some m → n.given ≡ m.given → given_by frames (set marks k n) t ≡ given_by frames marks t
given_same [] marks k m n t e h = refl
given_same (f ∷ frames) [] k m n t e h = refl
given_same (f ∷ frames) (x ∷ marks) zero m n t e h = let g : n.given ≡ x.given = h ∙ ap (λ (z : Mark). z.given) (sym (some_is e)) in rw g refl
given_same (f ∷ frames) (x ∷ marks) (suc k) m n t e h = rw (given_same frames marks k m n t e h) refl

or_more : (a b c d : Bool) → a ≡ (b || c) → (d || a) ≡ ((d || b) || c)
or_more a b c true e = refl
or_more a b c false e = e

or_here : (a g b : Bool) → ((a && true) || b) ≡ (((a && g) || b) || a)
or_here true true true = refl
or_here true true false = refl
or_here true false true = refl
or_here true false false = refl
or_here false true true = refl
or_here false true false = refl
or_here false false true = refl
or_here false false false = refl

-- what one more flag gives up
pub given_more : (frames : List Frame) (marks : List Mark) (k : ℕ) (f : Frame) (n : Mark) (t : ℕ) → slice_get frames k ≡ Some f → k < length marks → n.given ≡ true → given_by frames (set marks k n) t ≡ (given_by frames marks t || (f.task == t))
given_more [] marks k f n t e l h = absurd cc
given_more (x ∷ frames) [] k f n t e l h = absurd (omega (arith, l))
given_more (x ∷ frames) (y ∷ marks) zero f n t e l h =
    rw (h, sym (some_is e)) (or_here (x.task == t) y.given (given_by frames marks t))
given_more (x ∷ frames) (y ∷ marks) (suc k) f n t e l h =
    or_more (given_by frames (set marks k n) t) (given_by frames marks t) (f.task == t) ((x.task == t) && y.given) (given_more frames marks k f n t e (omega (arith, l)) h)

-- The walk over later siblings.
abbrev pub IsNextLeft : List Frame → List Mark → ℕ → ℕ → Option ℕ → Type 0
IsNextLeft frames marks up at None = (j : ℕ) → IsBelow frames up j → at < j → closed_at marks j ≡ true
IsNextLeft frames marks up at (Some one) = IsBelow frames up one × (at < one) × ((j : ℕ) → IsBelow frames up j → at < j → j < one → closed_at marks j ≡ true)

module _ (frames : List Frame) (marks : List Mark) (linked : AreLinked frames) (at : ℕ) (within : IsWithin frames at) where
  abbrev own : Frame
  own = get_or frames at blank

  own_is : slice_get frames at ≡ Some own
  own_is = slice_get-get_or frames at blank within.1

  pub next_begins : IsNextLeft frames marks own.up at own.next
  next_begins = go own.next (linked.next at own own_is (λ z. omega (arith, within.0, z)))
    where
      go : (o : Option ℕ) → IsNext frames own.up at o → IsNextLeft frames marks own.up at o
      go None n = λ j b h. absurd (omega (arith, n j b, h))
      go (Some l) n = (n.0, n.1, λ j b h k. absurd (omega (arith, n.2 j b h, k)))

  module _ (next : Option ℕ) (one : ℕ) (step : next ≡ Some one) (left : IsNextLeft frames marks own.up at next) where
    here_left : IsNextLeft frames marks own.up at (Some one)
    here_left = subst (λ (o : Option ℕ). IsNextLeft frames marks own.up at o) step left

    pub next_within : IsWithin frames one
    next_within = below_within frames own.up one here_left.0

    one_is : slice_get frames one ≡ Some (get_or frames one blank)
    one_is = slice_get-get_or frames one blank next_within.1

    up_same : (get_or frames one blank).up ≡ own.up
    up_same = ap (λ (f : Frame). f.up) (same_at one_is here_left.0.is) ∙ here_left.0.up_is

    next_is : IsNext frames own.up one (get_or frames one blank).next
    next_is = subst (λ (k : ℕ). IsNext frames k one (get_or frames one blank).next) up_same (linked.next one (get_or frames one blank) one_is (λ z. omega (arith, next_within.0, z)))

    pub next_stops : closed_at marks one ≡ false → IsNextOpen frames marks own.up at (Some one)
    next_stops h = (here_left.0, here_left.1, h, here_left.2)

    pub next_goes : closed_at marks one ≡ true → IsNextLeft frames marks own.up at (get_or frames one blank).next
    next_goes h = go (get_or frames one blank).next next_is
      where
        upto : (j : ℕ) → IsBelow frames own.up j → at < j → j ≤ one → closed_at marks j ≡ true
        upto j b less k = in_three (compared j one)
          where
            in_three : (j < one) ⊎ ((j ≡ one) ⊎ (one < j)) → closed_at marks j ≡ true
            in_three (inl l) = here_left.2 j b less l
            in_three (inr (inl e)) = ap (closed_at marks) e ∙ h
            in_three (inr (inr l)) = absurd (omega (arith, l, k))

        go : (o : Option ℕ) → IsNext frames own.up one o → IsNextLeft frames marks own.up at o
        go None n = λ j b less. upto j b less (n j b)
        go (Some l) n = (n.0, omega (arith, here_left.1, n.1), λ j b less k. before l n j b less k (compared one j))
          where
            before : (l : ℕ) → IsNext frames own.up one (Some l) → (j : ℕ) → IsBelow frames own.up j → at < j → j < l → (one < j) ⊎ ((one ≡ j) ⊎ (j < one)) → closed_at marks j ≡ true
            before l n j b less k (inl more) = absurd (omega (arith, n.2 j b more, k))
            before l n j b less k (inr (inl e)) = upto j b less (omega (arith, e))
            before l n j b less k (inr (inr h)) = upto j b less (omega (arith, h))

    pub next_falls : ahead_of frames (get_or frames one blank).next < ahead_of frames next
    next_falls = subst (λ (o : Option ℕ). ahead_of frames (get_or frames one blank).next < ahead_of frames o) (sym step) (go (get_or frames one blank).next next_is)
      where
        go : (o : Option ℕ) → IsNext frames own.up one o → ahead_of frames o < length frames - one
        go None n = omega (arith, next_within.1)
        go (Some l) n = omega (arith, n.1, next_within.1, (below_within frames own.up l n.0).1)

-- A write that no test of a place sees.
closed_other : (marks : List Mark) (k j : ℕ) (n : Mark) → (j ≡ k → ⊥) → closed_at (set marks k n) j ≡ closed_at marks j
closed_other marks k j n h = ap closed_mark (get_set_other marks k j n h)

main_kept : (marks : List Mark) (k : ℕ) (m n : Mark) → slice_get marks k ≡ Some m → (n.given ≡ m.given) ⊎ (k ≡ 0 → ⊥) → ((x : Mark) → slice_get marks 0 ≡ Some x → x.given ≡ false) → (x : Mark) → slice_get (set marks k n) 0 ≡ Some x → x.given ≡ false
main_kept marks k m n is same main x e = go (same_number 0 k) same
  where
    go : (0 ≡ k) ⊎ (0 ≡ k → ⊥) → (n.given ≡ m.given) ⊎ (k ≡ 0 → ⊥) → x.given ≡ false
    go (inr h) same = main x (sym (get_set_other marks k 0 n h) ∙ e)
    go (inl h) (inr some) = absurd (some (sym h))
    go (inl h) (inl g) =
        let at_ : slice_get (set marks k n) 0 ≡ Some n = subst (λ (j : ℕ). slice_get (set marks k n) j ≡ Some n) (sym h) (get_set_same marks k n (slice_get_within marks k m is)) in
        ap (λ (z : Mark). z.given) (some_is (sym e ∙ at_)) ∙ g ∙ main m (subst (λ (j : ℕ). slice_get marks j ≡ Some m) (sym h) is)

module _ (frames : List Frame) (marks : List Mark) (linked : AreLinked frames) (done : ℕ) (marked : AreMarked frames marks (Some done)) (within : IsWithin frames done) (closed : closed_at marks done ≡ true) where
  abbrev pub up : ℕ
  up = (get_or frames done blank).up

  abbrev pub above : Mark
  above = get_or marks up unmarked

  done_is : slice_get frames done ≡ Some (get_or frames done blank)
  done_is = slice_get-get_or frames done blank within.1

  below : IsBelow frames up done
  below = record { frame = get_or frames done blank; is = done_is; not_main = λ z. omega (arith, within.0, z); up_is = refl }

  pub up_behind : up < done
  up_behind = linked.above done (get_or frames done blank) done_is (λ z. omega (arith, within.0, z))

  pub up_within : up < length marks
  up_within = omega (arith, up_behind, within.1, marked.same)

  above_is : slice_get marks up ≡ Some above
  above_is = slice_get-get_or marks up unmarked up_within

  -- the access above has another first one
  pub pass_stays : (above.first ≡ Some done → ⊥) → AreMarked frames marks None
  pass_stays other = record { same = marked.same; main = marked.main; first = λ k m is. go k m is m.first refl }
    where
      go : (k : ℕ) (m : Mark) → slice_get marks k ≡ Some m → (o : Option ℕ) → m.first ≡ o → IsFirst frames marks None k o
      go k m is None e = subst (λ (o : Option ℕ). IsFirst frames marks (Some done) k o) e (marked.first k m is)
      go k m is (Some l) e =
          let f : IsFirst frames marks (Some done) k (Some l) = subst (λ (o : Option ℕ). IsFirst frames marks (Some done) k o) e (marked.first k m is) in
          (f.0, λ h. absurd (not_here f.0 (sym (some_is (f.1 h)))), f.2)
        where
          not_here : IsBelow frames k l → l ≡ done → ⊥
          not_here b h =
              let same : k ≡ up = one_creator frames k up done (subst (λ (j : ℕ). IsBelow frames k j) h b) below in
              other (ap (λ (x : Mark). x.first) (same_at above_is (subst (λ (j : ℕ). slice_get marks j ≡ Some m) same is)) ∙ e ∙ ap Some h)

  module _ (first : above.first ≡ Some done) (next : Option ℕ) (next_is : IsNextOpen frames marks up done next) where
    abbrev pub moved : Mark
    moved = record { given = above.given; first = next }

    abbrev pub changed : List Mark
    changed = set marks up moved

    moved_is : slice_get changed up ≡ Some moved
    moved_is = get_set_same marks up moved up_within

    -- the access above was not done
    up_open : closed_at marks up ≡ true → ⊥
    up_open h = let c = closed_is marks up h in some_none (sym first ∙ ap (λ (x : Mark). x.first) (same_at above_is c.1) ∙ c.3)

    closed_kept : (j : ℕ) → closed_at marks j ≡ true → closed_at changed j ≡ true
    closed_kept j h = go (same_number j up)
      where
        go : (j ≡ up) ⊎ (j ≡ up → ⊥) → closed_at changed j ≡ true
        go (inl e) = absurd (up_open (ap (closed_at marks) (sym e) ∙ h))
        go (inr n) = closed_other marks up j moved n ∙ h

    old_first : IsFirst frames marks (Some done) up (Some done)
    old_first = subst (λ (o : Option ℕ). IsFirst frames marks (Some done) up o) first (marked.first up above above_is)

    up_to : (j : ℕ) → IsBelow frames up j → j ≤ done → closed_at marks j ≡ true
    up_to j b h = go (compared j done)
      where
        go : (j < done) ⊎ ((j ≡ done) ⊎ (done < j)) → closed_at marks j ≡ true
        go (inl l) = old_first.2 j b l
        go (inr (inl e)) = ap (closed_at marks) e ∙ closed
        go (inr (inr l)) = absurd (omega (arith, l, h))

    new_first : (hole : Option ℕ) (o : Option ℕ) → IsNextOpen frames marks up done o → IsFirst frames changed hole up o
    new_first hole None n = λ j b. closed_kept j (go j b (compared done j))
      where
        go : (j : ℕ) → IsBelow frames up j → (done < j) ⊎ ((done ≡ j) ⊎ (j < done)) → closed_at marks j ≡ true
        go j b (inl h) = n j b h
        go j b (inr (inl e)) = up_to j b (omega (arith, e))
        go j b (inr (inr h)) = up_to j b (omega (arith, h))
    new_first hole (Some l) n = (n.0, λ h. clash (closed_at changed l) h (closed_other marks up l moved (λ e. omega (arith, e, up_behind, n.1)) ∙ n.2), λ j b k. closed_kept j (go j b k (compared done j)))
      where
        go : (j : ℕ) → IsBelow frames up j → j < l → (done < j) ⊎ ((done ≡ j) ⊎ (j < done)) → closed_at marks j ≡ true
        go j b k (inl h) = n.3 j b h k
        go j b k (inr (inl e)) = up_to j b (omega (arith, e))
        go j b k (inr (inr h)) = up_to j b (omega (arith, h))

    other_first : (hole : Option ℕ) → (closed_at changed up ≡ true → hole ≡ Some up) → (k : ℕ) → (k ≡ up → ⊥) → (o : Option ℕ) → IsFirst frames marks (Some done) k o → IsFirst frames changed hole k o
    other_first hole told k n None f = λ j b. closed_kept j (f j b)
    other_first hole told k n (Some l) f = (f.0, λ h. go (same_number l up) h, λ j b h. closed_kept j (f.2 j b h))
      where
        go : (l ≡ up) ⊎ (l ≡ up → ⊥) → closed_at changed l ≡ true → hole ≡ Some l
        go (inl e) h = told (ap (closed_at changed) (sym e) ∙ h) ∙ ap Some (sym e)
        go (inr m) h =
            let at_done : done ≡ l = some_is (f.1 (sym (closed_other marks up l moved m) ∙ h)) in
            absurd (n (one_creator frames k up done (subst (λ (j : ℕ). IsBelow frames k j) (sym at_done) f.0) below))

    pub moved_marked : (hole : Option ℕ) → (closed_at changed up ≡ true → hole ≡ Some up) → AreMarked frames changed hole
    moved_marked hole told =
        record {
          same = length-set marks up moved ∙ marked.same;
          main = main_kept marks up above moved above_is (inl refl) marked.main;
          first = λ k m is. go k m is (same_number k up);
        }
      where
        go : (k : ℕ) (m : Mark) → slice_get changed k ≡ Some m → (k ≡ up) ⊎ (k ≡ up → ⊥) → IsFirst frames changed hole k m.first
        go k m is (inl e) =
            let at_ : slice_get changed k ≡ Some moved = subst (λ (j : ℕ). slice_get changed j ≡ Some moved) (sym e) moved_is in
            subst (λ (x : Mark). IsFirst frames changed hole k x.first) (some_is (sym at_ ∙ is)) (subst (λ (j : ℕ). IsFirst frames changed hole j next) (sym e) (new_first hole next next_is))
        go k m is (inr n) = other_first hole told k n m.first (marked.first k m (sym (get_set_other marks up k moved n) ∙ is))

    pub moved_closed : closed_at changed up ≡ is_closed moved
    moved_closed = ap closed_mark moved_is

    -- the mark as it is read behind the write
    pub read_closed : is_closed (get_or changed up unmarked) ≡ is_closed moved
    read_closed = ap is_closed (get_or-set_same marks up moved unmarked up_within)

    pub moved_given : (t : ℕ) → given_by frames changed t ≡ given_by frames marks t
    moved_given t = given_same frames marks up above moved t above_is refl

    -- main is never done
    pub up_some : is_closed moved ≡ true → IsWithin frames up
    up_some h = go (same_number up 0)
      where
        go : (up ≡ 0) ⊎ (up ≡ 0 → ⊥) → IsWithin frames up
        go (inl z) =
            let g : above.given ≡ false = marked.main above (subst (λ (j : ℕ). slice_get marks j ≡ Some above) z above_is) in
            clash above.given (both above.given (not (is_some next)) h).0 g
        go (inr n) = (some n, omega (arith, up_behind, within.1))
          where
            some : (up ≡ 0 → ⊥) → 0 < up
            some n = in_three (compared 0 up)
              where
                in_three : (0 < up) ⊎ ((0 ≡ up) ⊎ (up < 0)) → 0 < up
                in_three (inl l) = l
                in_three (inr (inl e)) = absurd (n (sym e))
                in_three (inr (inr l)) = absurd (omega (arith, l))

-- The access that is given up.
module _ (frames : List Frame) (marks : List Mark) (at : ℕ) (marked : AreMarked frames marks None) (within : IsWithin frames at) where
  abbrev pub before : Mark
  before = get_or marks at unmarked

  abbrev pub flagged : Mark
  flagged = record { given = true; first = before.first }

  abbrev pub after : List Mark
  after = set marks at flagged

  at_within : at < length marks
  at_within = omega (arith, within.1, marked.same)

  before_is : slice_get marks at ≡ Some before
  before_is = slice_get-get_or marks at unmarked at_within

  flagged_is : slice_get after at ≡ Some flagged
  flagged_is = get_set_same marks at flagged at_within

  closed_stays : (j : ℕ) → closed_at marks j ≡ true → closed_at after j ≡ true
  closed_stays j h = go (same_number j at)
    where
      go : (j ≡ at) ⊎ (j ≡ at → ⊥) → closed_at after j ≡ true
      go (inr n) = closed_other marks at j flagged n ∙ h
      go (inl e) =
          let c = closed_is marks j h in
          let f : before.first ≡ None = ap (λ (x : Mark). x.first) (same_at before_is (subst (λ (i : ℕ). slice_get marks i ≡ Some c.0) e c.1)) ∙ c.3 in
          closed_of after j flagged (subst (λ (i : ℕ). slice_get after i ≡ Some flagged) (sym e) flagged_is) refl f

  pub flagged_marked : (hole : Option ℕ) → (is_closed flagged ≡ true → hole ≡ Some at) → AreMarked frames after hole
  flagged_marked hole told =
      record {
        same = length-set marks at flagged ∙ marked.same;
        main = main_kept marks at before flagged before_is (inr (λ z. omega (arith, within.0, z))) marked.main;
        first = λ k m is. go k m is (same_number k at);
      }
    where
      first_after : (k : ℕ) (o : Option ℕ) → IsFirst frames marks None k o → IsFirst frames after hole k o
      first_after k None f = λ j b. closed_stays j (f j b)
      first_after k (Some l) f = (f.0, λ h. excuse (same_number l at) h, λ j b h. closed_stays j (f.2 j b h))
        where
          excuse : (l ≡ at) ⊎ (l ≡ at → ⊥) → closed_at after l ≡ true → hole ≡ Some l
          excuse (inl e) h = told (sym (ap closed_mark flagged_is) ∙ ap (closed_at after) (sym e) ∙ h) ∙ ap Some (sym e)
          excuse (inr n) h = absurd (some_none (sym (f.1 (sym (closed_other marks at l flagged n) ∙ h))))

      go : (k : ℕ) (m : Mark) → slice_get after k ≡ Some m → (k ≡ at) ⊎ (k ≡ at → ⊥) → IsFirst frames after hole k m.first
      go k m is (inr n) = first_after k m.first (marked.first k m (sym (get_set_other marks at k flagged n) ∙ is))
      go k m is (inl e) =
          let at_ : slice_get after k ≡ Some flagged = subst (λ (j : ℕ). slice_get after j ≡ Some flagged) (sym e) flagged_is in
          subst (λ (x : Mark). IsFirst frames after hole k x.first) (some_is (sym at_ ∙ is)) (subst (λ (j : ℕ). IsFirst frames after hole j before.first) (sym e) (first_after at before.first (marked.first at before before_is)))

  pub flagged_closed : is_closed flagged ≡ true → closed_at after at ≡ true
  flagged_closed h = ap closed_mark flagged_is ∙ h

  pub flagged_read : is_closed (get_or after at unmarked) ≡ is_closed flagged
  flagged_read = ap is_closed (get_or-set_same marks at flagged unmarked at_within)

  pub flagged_given : (f : Frame) (t : ℕ) → slice_get frames at ≡ Some f → given_by frames after t ≡ (given_by frames marks t || (f.task == t))
  flagged_given f t is = given_more frames marks at f flagged t is at_within refl

-- The access that has come to be done is done, and is not main's.
abbrev pub IsDoneNow : List Frame → List Mark → Option ℕ → Type 0
IsDoneNow frames marks None = Unit {0}
IsDoneNow frames marks (Some one) = IsWithin frames one × (closed_at marks one ≡ true)

abbrev pub done_left : Option ℕ → ℕ
done_left None = 0
done_left (Some one) = one

-- What was noted of the access that is given up.
abbrev pub IsNoted : Bool → ℕ → Option ℕ → Type 0
IsNoted closed at done = ((closed ≡ true) × (done ≡ Some at)) ⊎ ((closed ≡ false) × (done ≡ None))

module _ (frames : List Frame) (marks : List Mark) (at : ℕ) (marked : AreMarked frames marks None) (within : IsWithin frames at) (closed : Bool)
    (tests : closed ≡ is_closed (get_or (after frames marks at marked within) at unmarked)) (done : Option ℕ) (noted : IsNoted closed at done) where
  pub noted_marked : AreMarked frames (after frames marks at marked within) done
  noted_marked = flagged_marked frames marks at marked within done (λ h. go noted h)
    where
      go : IsNoted closed at done → is_closed (flagged frames marks at marked within) ≡ true → done ≡ Some at
      go (inl (yes_, e)) h = e
      go (inr (no_, e)) h = clash closed (tests ∙ flagged_read frames marks at marked within ∙ h) no_

  pub noted_here : IsDoneNow frames (after frames marks at marked within) done
  noted_here = go noted
    where
      go : IsNoted closed at done → IsDoneNow frames (after frames marks at marked within) done
      go (inl (yes_, e)) =
          subst (λ (o : Option ℕ). IsDoneNow frames (after frames marks at marked within) o) (sym e)
          (within, flagged_closed frames marks at marked within (sym (flagged_read frames marks at marked within) ∙ sym tests ∙ yes_))
      go (inr (no_, e)) = subst (λ (o : Option ℕ). IsDoneNow frames (after frames marks at marked within) o) (sym e) tt
