-- The walk back over the siblings before an access, and up its levels.
use Rattle.std.proofs.Common.{◌≡◌, ℕ, ◌-◌, ◌<◌, ◌≤◌, refl, sym, ap, subst, ◌∙◌, List, ◌⊎◌, inl, inr, Bool, true, false, Option, Some, None, arith, length, get_or}
use Rattle.std.proofs.lemmas.Option.{slice_get-get_or}
use Rattle.std.specs.Prelude.{slice_get}
use Rattle.oss_syntax.specs.declared.access.Mode.{Mode}
use Rattle.oss_deps.specs.declared.frame.Frame.{Frame}
use Rattle.oss_deps.specs.declared.frame.Mark.{Mark}
use Rattle.oss_deps.specs.declared.want.Want.{Want}
use Rattle.oss_deps.specs.Places.{is_closed, closed_at, closed_mark, first_at, first_mark, mode_at_place, mode_of_frame, IsBelow, IsFirst, place_forest, AreLinked, AreMarked, AreModesCovered, IsWithin}
use Rattle.oss_deps.specs.Wants.{may_pass, want_above, IsSatisfied, Fits, IsAhead, IsBar, IsBarBeside, IsBarOf, IsLevelClear, bars_above, bars_here}
use Rattle.oss_deps.proofs.Basics.{clash, some_is, compared}
use Rattle.oss_deps.proofs.DoneLemmas.{below_within}
use Rattle.oss_deps.proofs.LevelLemmas.{one_creator, level_sound, level_complete, satisfied_down, satisfied_back, fits_up}

-- How far it is to the end.
abbrev pub ahead_of : List Frame → Option ℕ → ℕ
ahead_of frames None = 0
ahead_of frames (Some one) = length frames - one

-- None of the accesses from a place on, up to the one that is asked for, stands in its way.
pub record IsBack (frames : List Frame) (marks : List Mark) (want : Want) (at behind : ℕ) : Type 0 where
  pub within : behind ≤ at
  pub passed : (u : ℕ) → IsAhead frames marks u at → behind ≤ u → may_pass want (mode_at_place frames u) (closed_at marks u) ≡ true

-- As the code reads it.
module _ (frames : List Frame) (marks : List Mark) (linked : AreLinked frames) (marked : AreMarked frames marks None) (want : Want) (at : ℕ) (within : IsWithin frames at) (d : Frame) where
  abbrev own : Frame
  own = get_or frames at d

  own_is : slice_get frames at ≡ Some own
  own_is = slice_get-get_or frames at d within.1

  some_at : at ≡ 0 → ⊥
  some_at z = omega (arith, within.0, z)

  own_below : IsBelow frames own.up at
  own_below = record { frame = own; is = own_is; not_main = some_at; up_is = refl }

  mark_is : (e : Mark) → slice_get marks own.up ≡ Some (get_or marks own.up e)
  mark_is e = slice_get-get_or marks own.up e (omega (arith, linked.above at own own_is some_at, within.1, marked.same))

  -- the first one that is not done is the one that the code reads
  ahead_first : (e : Mark) (u : ℕ) (a : IsAhead frames marks u at) → (get_or marks own.up e).first ≡ Some a.first
  ahead_first e u a = sym (ap first_mark (mark_is e)) ∙ sym (ap (λ (z : ℕ). first_at marks z) (one_creator frames a.sibling.creator own.up at a.sibling.after own_below)) ∙ a.first_is

  module _ (e : Mark) (first : ℕ) (step : (get_or marks own.up e).first ≡ Some first) (behind : ℕ) (back : IsBack frames marks want at behind) where
    pub back_ends : behind ≤ first → IsLevelClear frames marks want at
    back_ends h u a = let same : a.first ≡ first = some_is (sym (ahead_first e u a) ∙ step) in back.passed u a (omega (arith, h, same, a.behind))

    module _ (more : first < behind) (b : Frame) where
      first_below : IsBelow frames own.up first
      first_below = (subst (λ (o : Option ℕ). IsFirst frames marks None own.up o) step (marked.first own.up (get_or marks own.up e) (mark_is e))).0

      pub one_within : behind - 1 < length frames
      one_within = omega (arith, more, back.within, within.1)

      one_is : slice_get frames (behind - 1) ≡ Some (get_or frames (behind - 1) b)
      one_is = slice_get-get_or frames (behind - 1) b one_within

      one_ahead : (get_or frames (behind - 1) b).up ≡ own.up → IsAhead frames marks (behind - 1) at
      one_ahead h = record {
        sibling = record {
          creator = own.up;
          before = record { frame = get_or frames (behind - 1) b; is = one_is; not_main = λ z. omega (arith, z, more, (below_within frames own.up first first_below).0); up_is = h };
          after = own_below;
          order = omega (arith, back.within, more);
        };
        first = first;
        first_is = ap first_mark (mark_is e) ∙ step;
        behind = omega (arith, more);
      }

      tested : (m : Mark) (closed result : Bool) → closed ≡ is_closed (get_or marks (behind - 1) m) → result ≡ may_pass want (get_or frames (behind - 1) b).mode closed → may_pass want (mode_at_place frames (behind - 1)) (closed_at marks (behind - 1)) ≡ result
      tested m closed result h k =
          let c : closed_at marks (behind - 1) ≡ closed = ap closed_mark (slice_get-get_or marks (behind - 1) m (omega (arith, one_within, marked.same))) ∙ sym h in
          ap (λ (x : Mode). may_pass want x (closed_at marks (behind - 1))) (ap mode_of_frame one_is) ∙ ap (λ (x : Bool). may_pass want (get_or frames (behind - 1) b).mode x) c ∙ sym k

      -- a sibling stands in the way
      pub back_hits : (get_or frames (behind - 1) b).up ≡ own.up → (m : Mark) (closed result : Bool) → closed ≡ is_closed (get_or marks (behind - 1) m) → result ≡ may_pass want (get_or frames (behind - 1) b).mode closed → result ≡ false → IsBarBeside frames marks want (behind - 1) at
      back_hits up m closed result h k failed = record { ahead = one_ahead up; stops = tested m closed result h k ∙ failed }

      one_more : ((a : IsAhead frames marks (behind - 1) at) → may_pass want (mode_at_place frames (behind - 1)) (closed_at marks (behind - 1)) ≡ true) → IsBack frames marks want at (behind - 1)
      one_more f = record { within = omega (arith, back.within); passed = λ u a h. go u a h (compared u (behind - 1)) }
        where
          go : (u : ℕ) → IsAhead frames marks u at → behind - 1 ≤ u → (u < behind - 1) ⊎ ((u ≡ behind - 1) ⊎ (behind - 1 < u)) → may_pass want (mode_at_place frames u) (closed_at marks u) ≡ true
          go u a h (inl less) = absurd (omega (arith, less, h))
          go u a h (inr (inl same)) = subst (λ (k : ℕ). may_pass want (mode_at_place frames k) (closed_at marks k) ≡ true) (sym same) (f (subst (λ (k : ℕ). IsAhead frames marks k at) same a))
          go u a h (inr (inr l)) = back.passed u a (omega (arith, l, more))

      -- the access at the place is no sibling's
      pub back_over : ((get_or frames (behind - 1) b).up ≡ own.up → ⊥) → IsBack frames marks want at (behind - 1)
      back_over n = one_more (λ a. absurd (n (ap (λ (f : Frame). f.up) (some_is (sym one_is ∙ a.sibling.before.is)) ∙ a.sibling.before.up_is ∙ one_creator frames a.sibling.creator own.up at a.sibling.after own_below)))

      -- it does not stand in the way
      pub back_past : (m : Mark) (closed result : Bool) → closed ≡ is_closed (get_or marks (behind - 1) m) → result ≡ may_pass want (get_or frames (behind - 1) b).mode closed → result ≡ true → IsBack frames marks want at (behind - 1)
      back_past m closed result h k passed = one_more (λ a. tested m closed result h k ∙ passed)

bar_some : (frames : List Frame) (marks : List Mark) (u : ℕ) {want : Want} {v : ℕ} → IsBar frames marks u want v → v ≡ 0 → ⊥
bar_some frames marks u (bars_here b) = b.ahead.sibling.after.not_main
bar_some frames marks u (bars_above below n bar) = below.not_main

pub bar_within : (frames : List Frame) (marks : List Mark) (u : ℕ) {want : Want} {v : ℕ} → IsBar frames marks u want v → u < length frames
bar_within frames marks u (bars_here b) = (below_within frames b.ahead.sibling.creator u b.ahead.sibling.before).1
bar_within frames marks u (bars_above below n bar) = bar_within frames marks u bar

-- the task of an access that stands in the way, as the code reads it
pub bar_task : (frames : List Frame) (marks : List Mark) (u : ℕ) (want : Want) (v : ℕ) (d : Frame) → IsBar frames marks u want v → IsBarOf frames marks want v (get_or frames u d).task
bar_task frames marks u want v d bar = record { place = u; frame = get_or frames u d; is = slice_get-get_or frames u d (bar_within frames marks u bar); task = refl; bar = bar }

-- What is wanted of the place is all that is left to ask.
pub record IsClimbing (frames : List Frame) (marks : List Mark) (wanted : Want) (at : ℕ) (want : Want) (place : ℕ) : Type 0 where
  pub within : place < length frames
  pub fits : (place ≡ 0) ⊎ Fits frames want place
  pub forth : ((place ≡ 0) ⊎ IsSatisfied (place_forest frames marks) want place) → IsSatisfied (place_forest frames marks) wanted at
  pub bars : (u : ℕ) → IsBar frames marks u want place → IsBar frames marks u wanted at

pub climb_begins : (frames : List Frame) (marks : List Mark) (wanted : Want) (at : ℕ) → IsWithin frames at → Fits frames wanted at → IsClimbing frames marks wanted at wanted at
climb_begins frames marks wanted at within fits = record { within = within.1; fits = inr fits; forth = λ s. go s; bars = λ u b. b }
  where
    go : (at ≡ 0) ⊎ IsSatisfied (place_forest frames marks) wanted at → IsSatisfied (place_forest frames marks) wanted at
    go (inl z) = absurd (omega (arith, within.0, z))
    go (inr s) = s

module _ (frames : List Frame) (marks : List Mark) (linked : AreLinked frames) (marked : AreMarked frames marks None) (covered : AreModesCovered frames) (wanted : Want) (at : ℕ) (want : Want) (place : ℕ)
    (climb : IsClimbing frames marks wanted at want place) (f : Frame) (is : slice_get frames place ≡ Some f) (not_main : 0 < place) where
  some_place : place ≡ 0 → ⊥
  some_place z = omega (arith, z, not_main)

  fits_here : (place ≡ 0) ⊎ Fits frames want place → Fits frames want place
  fits_here (inl z) = absurd (some_place z)
  fits_here (inr h) = h

  pub climb_goes : IsLevelClear frames marks want place → IsClimbing frames marks wanted at (want_above want (mode_at_place frames f.up)) f.up
  climb_goes clear = record {
    within = omega (arith, linked.above place f is some_place, climb.within);
    fits = fits_up frames marks linked marked covered place f is some_place want;
    forth = λ up. climb.forth (inr (satisfied_back frames marks linked marked covered place f is some_place want (fits_here climb.fits) (level_sound frames marks linked marked want place clear) up));
    bars = λ u b. climb.bars u (bars_above (record { frame = f; is = is; not_main = some_place; up_is = refl }) (bar_some frames marks u b) b);
  }

-- Where an access stands in the way, what is wanted has not come.
module _ (frames : List Frame) (marks : List Mark) (linked : AreLinked frames) (marked : AreMarked frames marks None) (covered : AreModesCovered frames) (u : ℕ) where
  pub bar_bars : {want : Want} {v : ℕ} → IsBar frames marks u want v → IsSatisfied (place_forest frames marks) want v → ⊥
  bar_bars (bars_here {want = want} {v = v} b) s =
      let below = b.ahead.sibling.after in
      let down = satisfied_down frames marks linked marked covered v below.frame below.is below.not_main want s in
      clash (may_pass want (mode_at_place frames u) (closed_at marks u)) (level_complete frames marks linked marked want v down.0 u b.ahead) b.stops
  bar_bars (bars_above {want = want} {p = p} {v = v} below n bar) s =
      let down = satisfied_down frames marks linked marked covered v below.frame below.is below.not_main want s in
      go (λ t. bar_bars bar t) (subst (λ (k : ℕ). (k ≡ 0) ⊎ IsSatisfied (place_forest frames marks) (want_above want (mode_at_place frames k)) k) below.up_is down.1)
    where
      go : (IsSatisfied (place_forest frames marks) (want_above want (mode_at_place frames p)) p → ⊥) → (p ≡ 0) ⊎ IsSatisfied (place_forest frames marks) (want_above want (mode_at_place frames p)) p → ⊥
      go again (inl z) = n z
      go again (inr t) = again t

module _ (frames : List Frame) (marks : List Mark) (linked : AreLinked frames) (marked : AreMarked frames marks None) (covered : AreModesCovered frames) (wanted : Want) (at : ℕ) (want : Want) (place : ℕ)
    (climb : IsClimbing frames marks wanted at want place) (not_main : 0 < place) (d : Frame) where
  place_is : slice_get frames place ≡ Some (get_or frames place d)
  place_is = slice_get-get_or frames place d climb.within

  pub up_goes : (e : Frame) → IsLevelClear frames marks want place → IsClimbing frames marks wanted at (want_above want (get_or frames (get_or frames place d).up e).mode) (get_or frames place d).up
  up_goes e clear =
      let up : (get_or frames place d).up < length frames = omega (arith, linked.above place (get_or frames place d) place_is (λ z. omega (arith, z, not_main)), climb.within) in
      subst (λ (m : Mode). IsClimbing frames marks wanted at (want_above want m) (get_or frames place d).up) (ap mode_of_frame (slice_get-get_or frames (get_or frames place d).up e up))
      (climb_goes frames marks linked marked covered wanted at want place climb (get_or frames place d) place_is not_main clear)

  pub up_within : (get_or frames place d).up < length frames
  up_within = omega (arith, linked.above place (get_or frames place d) place_is (λ z. omega (arith, z, not_main)), climb.within)

  pub up_falls : (get_or frames place d).up < place
  up_falls = linked.above place (get_or frames place d) place_is (λ z. omega (arith, z, not_main))
