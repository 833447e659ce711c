-- A draw of entries.
use Rattle.std.proofs.Common.{◌≡◌, ◌⊎◌, inl, inr, sym, subst, refl, ◌∙◌, ap, ℕ, zero, suc, ◌<◌, ◌≤◌, ◌+◌, ◌%◌, ◌^◌, arith, List, [], ◌∷◌, length, set, lt_of_not-le, Option, Some, None}
use Rattle.std.proofs.Math.Nat.{mod-eq_of_lt}
use Rattle.std.proofs.lemmas.List.{get_or-set_same, get_or-set_other, length-set}
use Rattle.std.specs.Prelude.{slice_index}
use Rattle.std.specs.Global.{Box}
use mathlib.Core.Option as maybe
use mathlib.Core.Logic.{dite}
use native.Mathlib.Decide.{dec_le}
use lib.ListN.{get_elem?}
use Rattle.atomic_table.proofs.Lists.{at_map, at_set}
use Rattle.oss_body.specs.Mains.{code_main}
use Rattle.oss_code.specs.declared.code.CodeParts.{CodeParts}
use Rattle.oss_jobs.specs.declared.job.Job.{Job}
use Rattle.oss_machine.specs.Frames.{CodeScript}
use Rattle.oss_machine.specs.Machines.{asks}
use Rattle.oss_words.specs.declared.entry.EntryState.{EntryState}
use Rattle.oss_words.specs.Bits.{state_at, state_word, info_at}
use Rattle.oss_words.specs.SeatSteps.{numbers}
use Rattle.oss_words.specs.Sums.{total}
use Rattle.oss_words.specs.Views.{View, Among, At, among_first, among_later}
use Rattle.oss_words.proofs.SeatLemmas.{among_append, among_none, length_set}
use Rattle.oss_words.proofs.SumLemmas.{total_set}
use Rattle.oss_roles.specs.Drawing.{AreDrawn, IsFree}
use Rattle.oss_roles.specs.Field.{FieldAt, IsNumberOf, Parts, of_entry, of_main, words_of}
use Rattle.oss_roles.specs.Roles.{Role}
use Rattle.oss_roles.specs.Sights.{Sight}
use Rattle.oss_roles.specs.WordSteps.{HoldsAsBefore}
use Rattle.oss_roles.proofs.DrawLaw.{draws_keep}
use Rattle.oss_roles.proofs.OtherLaw.{words_set}
use Rattle.oss_roles.proofs.WordClaims.{quiet_steps_keep}
use Rattle.oss_field.specs.declared.view.SeatView.{SeatView}
use Rattle.oss_field.specs.Drawing.{IsAbove, IsAboveAll, IsDrawn, drew, missed}
use Rattle.oss_field.specs.Known.{Holding, Known, bearing_of, sight_of}
use Rattle.oss_field.specs.Layout.{job_in, cell_word, state_word_of, info_word_of, value_word_of, number_word_of, count_word_of, body_word_of, parts_of}
use Rattle.oss_field.specs.Moves.{touched}
use Rattle.oss_field.specs.Plans.{Hearing, hearing_of, planned_of}
use Rattle.oss_field.specs.Steps.{Steps}
use Rattle.oss_field.specs.Table.{AreSeats, Neat, Slot, Stands, is_job_of, planned_by, sights_of}
use Rattle.oss_field.proofs.HeardLemmas.{heard_same}
use Rattle.oss_field.proofs.MarkLemmas.{marked_on, same_keeps, stays_same}
use Rattle.oss_field.proofs.TableLemmas.{chained, plans_same, plans_stand, sights_set, sits_at}

-- all views have failed at most once each
failed_few : (views : List View) → ((id : ℕ) (v : View) → At views id v → v.failed ≤ 1) → total (λ (v : View). v.failed) views ≤ length views
failed_few [] h = omega arith
failed_few (v ∷ views) h = let a = h 0 v refl in let b = failed_few views (λ id w at. h (suc id) w at) in omega (arith, a, b)

-- what is in a list stands at a place of it
pub at_among : {A : Type 0} (a : A) (l : List A) → Among a l → (i : ℕ) × (get_elem? l i ≡ maybe.some a)
at_among a [] h = among_none a h
at_among a (x ∷ l) (among_first q) = (0, ap maybe.some q)
at_among a (x ∷ l) (among_later h) = let r = at_among a l h in (suc r.0, r.1)

-- the numbers of a draw
number_in : (a k e : ℕ) → Among e (numbers a k) → (a ≤ e) × (e < a + k)
number_in a zero e h = among_none e h
number_in a (suc k) e (among_first q) = (omega (arith, q), omega (arith, q))
number_in a (suc k) e (among_later h) = let r = number_in (suc a) k e h in let x = r.0 in let y = r.1 in (omega (arith, x), omega (arith, y))

pub mod_small : (x m : ℕ) → x < m → x % m ≡ x
mod_small x m h = mod-eq_of_lt h

module _ (code : CodeParts) (fuel n : ℕ) (ws : List ℕ) (homes : List (maybe.Option Slot)) (views : List SeatView) (stands : Stands code fuel n ws homes views) (id : ℕ) (v : SeatView) (sits : get_elem? views id ≡ maybe.some v) (count : ℕ) where
  abbrev pub x : ℕ
  x = slice_index ws 0

  abbrev vs : List View
  vs = words_of (sights_of views)

  abbrev ws' : List ℕ
  ws' = set ws 0 (slice_index ws 0 + count)

  view_at : At (words_of (sights_of views)) id v.known.words
  view_at = at_map (λ (z : Sight CodeScript). z.words) (sights_of views) id (sight_of v.known) (sits_at views id v sits)

  -- the draw word stays below 2 ^ 41
  pub draw_small : slice_index ws 0 ≤ 1099545182208
  draw_small =
      let s = stands.seats in
      let few = failed_few (words_of (sights_of views)) s.failed in
      let long = s.few in
      let d = s.drawn in
      omega (arith, few, long, d)

  -- what has a role was drawn
  pub role_drawn : (e : ℕ) (r : Role) → stands.role e ≡ Some r → e < slice_index ws 0
  role_drawn e r is = dite (dec_le (slice_index ws 0) e)
      (λ le. absurd (let z : None ≡ Some r = sym ((stands.undrawn e le).none) ∙ is in cc))
      (λ gt. lt_of_not-le gt)

  -- the first number of a draw is above all that the seat's jobs tell
  pub draws_above : IsAboveAll (slice_index ws 0) v.known
  draws_above = (stands.seats.main_drawn, λ h among. let i = at_among h v.known.bears among in above h i.0 i.1)
    where
      told : (e : ℕ) (r : Role) → stands.rule.field.role e ≡ Some r → e < slice_index ws 0
      told e r is = role_drawn e r (ap (λ (g : ℕ → Option Role). g e) (sym stands.rule.same_role) ∙ is)

      number_low : (t : ℕ) (p : List ℕ) → IsNumberOf stands.rule.field.role t p → t < slice_index ws 0
      number_low t p of_main = stands.seats.main_drawn
      number_low t p (of_entry r is site path) = told t r is

      above : (h : Holding) (i : ℕ) → get_elem? v.known.bears i ≡ maybe.some h → IsAbove (slice_index ws 0) h
      above h i has =
          let b = stands.rule.field.borne id (sight_of v.known) (sits_at views id v sits) i (bearing_of h) (at_map bearing_of v.known.bears i h has) in record {
            number = number_low h.number h.path b.number;
            lasts = λ y o is. let r = b.last.some y o is in told o r.0 r.2;
          }

  states_same : (e : ℕ) → slice_index (set ws 0 (slice_index ws 0 + count)) (state_word_of (length code.first) e) ≡ slice_index ws (state_word_of (length code.first) e)
  states_same e = get_or-set_other ws 0 (state_word_of (length code.first) e) (slice_index ws 0 + count) 0 (λ q. absurd (omega (arith, q)))

  infos_same : (e : ℕ) → slice_index (set ws 0 (slice_index ws 0 + count)) (info_word_of (length code.first) e) ≡ slice_index ws (info_word_of (length code.first) e)
  infos_same e = get_or-set_other ws 0 (info_word_of (length code.first) e) (slice_index ws 0 + count) 0 (λ q. absurd (omega (arith, q)))

  values_same : (e : ℕ) → slice_index (set ws 0 (slice_index ws 0 + count)) (value_word_of (length code.first) e) ≡ slice_index ws (value_word_of (length code.first) e)
  values_same e = get_or-set_other ws 0 (value_word_of (length code.first) e) (slice_index ws 0 + count) 0 (λ q. absurd (omega (arith, q)))

  numbers_same : (e : ℕ) → slice_index (set ws 0 (slice_index ws 0 + count)) (number_word_of (length code.first) e) ≡ slice_index ws (number_word_of (length code.first) e)
  numbers_same e = get_or-set_other ws 0 (number_word_of (length code.first) e) (slice_index ws 0 + count) 0 (λ q. absurd (omega (arith, q)))

  counts_same : (e : ℕ) → slice_index (set ws 0 (slice_index ws 0 + count)) (count_word_of (length code.first) e) ≡ slice_index ws (count_word_of (length code.first) e)
  counts_same e = get_or-set_other ws 0 (count_word_of (length code.first) e) (slice_index ws 0 + count) 0 (λ q. absurd (omega (arith, q)))

  bodies_same : (e : ℕ) → slice_index (set ws 0 (slice_index ws 0 + count)) (body_word_of (length code.first) e) ≡ slice_index ws (body_word_of (length code.first) e)
  bodies_same e = get_or-set_other ws 0 (body_word_of (length code.first) e) (slice_index ws 0 + count) 0 (λ q. absurd (omega (arith, q)))

  parts_same : ◌≡◌ {A = Parts (Box Job)} (parts_of (length code.first) ws homes stands.cells) (parts_of (length code.first) (set ws 0 (slice_index ws 0 + count)) homes stands.cells)
  parts_same = λ i. record {
    states = λ e. state_at (sym (states_same e) i);
    infos = λ e. info_at (sym (infos_same e) i);
    values = λ e. sym (values_same e) i;
    cell_of = λ e. sym (numbers_same e) i;
    counts = λ e. sym (counts_same e) i;
    bodies = λ e. sym (bodies_same e) i;
    jobs = λ e. job_in (get_elem? homes e);
    cells = stands.cells;
  }

  draw_here : slice_index (set ws 0 (slice_index ws 0 + count)) 0 ≡ slice_index ws 0 + count
  draw_here = get_or-set_same ws 0 (slice_index ws 0 + count) 0 (let q = stands.size in omega (arith, q))

  -- what the views tell of seats, after a draw
  seats_after : (w : View) → count ≤ 16777216 → n ≤ 16777216 → v.known.words.failed ≡ 0 → w.parts ≡ v.known.words.parts → w.delivered ≡ v.known.words.delivered → w.splits ≡ v.known.words.splits
      → ((slice_index ws 0 + count ≤ n) × (w.failed ≡ 0)) ⊎ (w.failed ≡ 1)
      → AreSeats n stands.net (λ e. state_at (slice_index ws (state_word_of (length code.first) e))) (slice_index ws 0 + count) (set (words_of (sights_of views)) id w)
  seats_after w most room first parts delivered splits found =
      let s = stands.seats in
      let g = total_set (λ (z : View). z.failed) vs id v.known.words w view_at in
      let p = total_set (λ (z : View). z.parts) vs id v.known.words w view_at in
      let d = total_set (λ (z : View). z.delivered) vs id v.known.words w view_at in record {
        main_drawn = let a = s.main_drawn in omega (arith, a);
        drawn = let a = s.drawn in elim found [ inl h ↦ let l = h.0 in omega (arith, l, room) | inr h ↦ omega (arith, a, g, h, first, most) ];
        failed = λ j y a. elim (at_set vs id j w y a) [
          | inl h ↦ subst (λ (z : View). z.failed ≤ 1) h.1 (elim found [ inl q ↦ let f = q.1 in omega (arith, f) | inr q ↦ omega (arith, q) ])
          | inr h ↦ s.failed j y h.1
        ];
        split = λ y a. elim (at_set vs id 0 w y a) [
          | inl h ↦ length_set vs id w ∙ (s.split v.known.words (subst (λ (j : ℕ). At vs j v.known.words) (sym h.0) view_at) ∙ ap (λ (z : ℕ). 1 + z) (sym splits ∙ ap (λ (z : View). z.splits) h.1))
          | inr h ↦ length_set vs id w ∙ s.split y h.1
        ];
        few = let l = length_set vs id w in let a = s.few in omega (arith, l, a);
        parts = let a = s.parts in omega (arith, a, p, parts);
        work = let a = s.work in omega (arith, a, d, delivered);
      }

  -- the table after a draw
  pub drawn_stands : (l : Known) → planned_of l ≡ planned_of v.known → hearing_of l ≡ hearing_of v.known → ((h : Holding) → Among h l.bears → stands.before h.number ≡ h.before)
      → ((e : ℕ) → Among e l.drawn → Among e v.known.drawn ⊎ ((slice_index ws 0 ≤ e) × (e < slice_index ws 0 + count)))
      → AreSeats n stands.net (λ e. state_at (slice_index ws (state_word_of (length code.first) e))) (slice_index ws 0 + count) (set (words_of (sights_of views)) id l.words)
      → FieldAt (asks code) (code_main code fuel) code.first (is_job_of code stands.before) n stands.net stands.gave stands.role (parts_of (length code.first) ws homes stands.cells) (set (sights_of views) id (sight_of l))
      → Stands code fuel n (set ws 0 (slice_index ws 0 + count)) homes (set views id (record { known = l }))
  drawn_stands l planned heard told fresh seats rule = record {
    net = stands.net;
    gave = stands.gave;
    role = stands.role;
    before = stands.before;
    fresh = stands.fresh;
    cells = stands.cells;
    size = length-set ws 0 (slice_index ws 0 + count) ∙ stands.size;
    slots = stands.slots;
    sized = stands.sized;
    cell_words = λ c low. get_or-set_other ws 0 (cell_word c) (slice_index ws 0 + count) 0 (λ q. absurd (omega (arith, q))) ∙ stands.cell_words c low;
    empty = λ e low z. stands.empty e low (sym (bodies_same e) ∙ z);
    whole = λ e. subst (λ (z : ℕ). z ≡ state_word (state_at z)) (sym (states_same e)) (stands.whole e);
    neat = λ e. subst (λ (z : ℕ). Neat (state_at z)) (sym (states_same e)) (stands.neat e);
    rule = subst (λ (z : List (Sight CodeScript)). FieldAt (asks code) (code_main code fuel) code.first (is_job_of code stands.before) n stands.net stands.gave stands.role (parts_of (length code.first) ws' homes stands.cells) z) (sym (sights_set views id l))
        (subst (λ (z : Parts (Box Job)). FieldAt (asks code) (code_main code fuel) code.first (is_job_of code stands.before) n stands.net stands.gave stands.role z (set (sights_of views) id (sight_of l))) parts_same rule);
    told = λ j y at h among. elim (at_set views id j (record { known = l }) y at) [
      | inl e ↦ told h (subst (λ (z : SeatView). Among h z.known.bears) (sym e.1) among)
      | inr e ↦ stands.told j y e.1 h among
    ];
    drawn = subst (λ (z : List (Sight CodeScript)). AreDrawn stands.role z) (sym (sights_set views id l))
        (draws_keep CodeScript stands.role (sights_of views) id (sight_of v.known) (sight_of l) (sits_at views id v sits) (λ e a. elim (fresh e a) [ inl old ↦ inl old | inr r ↦ inr (stands.undrawn e r.0) ]) stands.drawn);
    undrawn = λ e high. subst (λ (z : List (Sight CodeScript)). IsFree stands.role z e) (sym (sights_set views id l)) (still_free e (subst (λ (z : ℕ). z ≤ e) draw_here high));
    selves = stands.selves;
    heard = heard_same stands.net (λ e. info_at (slice_index ws (info_word_of (length code.first) e))) (λ e. info_at (slice_index ws' (info_word_of (length code.first) e))) views id v l sits (ap (λ (z : Hearing). z.told) heard) (λ e. ap info_at (infos_same e)) stands.heard;
    marked = marked_on stands.net stands.net stands.role stands.role (λ e. state_at (slice_index ws (state_word_of (length code.first) e))) (λ e. state_at (slice_index ws' (state_word_of (length code.first) e))) (λ e. slice_index ws (value_word_of (length code.first) e)) (λ e. slice_index ws' (value_word_of (length code.first) e))
        (same_keeps stands.net stands.role (λ e. state_at (slice_index ws (state_word_of (length code.first) e))) (λ e. state_at (slice_index ws' (state_word_of (length code.first) e))) (λ e. slice_index ws (value_word_of (length code.first) e)) (λ e. slice_index ws' (value_word_of (length code.first) e))
        (λ e. stays_same (state_at (slice_index ws (state_word_of (length code.first) e))) (state_at (slice_index ws' (state_word_of (length code.first) e))) (ap state_at (states_same e))) (λ e left. values_same e)) views id v l sits (ap (λ (z : Hearing). z.marks) heard) stands.marked;
    seats = subst (λ (z : List View). AreSeats n stands.net (λ e. state_at (slice_index ws' (state_word_of (length code.first) e))) (slice_index ws' 0) z) (sym (ap (λ (z : List (Sight CodeScript)). words_of z) (sights_set views id l) ∙ words_set (sights_of views) id (sight_of l)))
        (subst (λ (z : ℕ). AreSeats n stands.net (λ e. state_at (slice_index ws' (state_word_of (length code.first) e))) z (set (words_of (sights_of views)) id l.words)) (sym draw_here)
        (subst (λ (g : ℕ → EntryState). AreSeats n stands.net g (slice_index ws 0 + count) (set (words_of (sights_of views)) id l.words)) (λ i e. state_at (sym (states_same e) i)) seats));
    planned = plans_stand code n stands.net stands.role ws ws' (planned_by views) (planned_by (set views id (record { known = l }))) states_same infos_same numbers_same (plans_same views id v l sits planned) stands.planned;
  }
    where
      still_free : (e : ℕ) → slice_index ws 0 + count ≤ e → IsFree stands.role (set (sights_of views) id (sight_of l)) e
      still_free e high =
          let free = stands.undrawn e (omega (arith, high)) in record {
            none = free.none;
            undrawn = λ j y at a. elim (at_set (sights_of views) id j (sight_of l) y at) [
              | inl h ↦ elim (fresh e (subst (λ (z : Sight CodeScript). Among e z.drawn) (sym h.1) a)) [
                | inl old ↦ free.undrawn id (sight_of v.known) (sits_at views id v sits) old
                | inr r ↦ let below = r.1 in absurd (omega (arith, below, high))
              ]
              | inr h ↦ free.undrawn j y h.1 a
            ];
          }

module _ (code : CodeParts) (fuel n id : ℕ) (v : SeatView) (count : ℕ) (most : count ≤ 16777216) (room : n ≤ 16777216) (first : v.known.words.failed ≡ 0) where
  module _ (ws : List ℕ) (homes : List (maybe.Option Slot)) (views : List SeatView) (stands : Stands code fuel n ws homes views) (sits : get_elem? views id ≡ maybe.some v) where
    -- the rule of the roles, which does not read what was drawn, nor whether a seat has failed
    quiet : (l : Known) → HoldsAsBefore (sight_of v.known) (sight_of l)
        → FieldAt (asks code) (code_main code fuel) code.first (is_job_of code stands.before) n stands.net stands.gave stands.role (parts_of (length code.first) ws homes stands.cells) (set (sights_of views) id (sight_of l))
    quiet l same = chained stands
        (quiet_steps_keep CodeScript (Box Job) (is_job_of code stands.before) (asks code) (code_main code fuel) code.first n (parts_of (length code.first) ws homes stands.cells) (sights_of views) stands.rule.field
        id (sight_of v.known) (sight_of l) (sits_at views id v sits) same)

    enough_stands : slice_index ws 0 + count ≤ n → Stands code fuel n (set ws 0 (slice_index ws 0 + count)) homes (set views id (record { known = touched 0 (slice_index ws 0) (drew count (slice_index ws 0) v.known) }))
    enough_stands le =
        let l : Known = touched 0 (slice_index ws 0) (drew count (slice_index ws 0) v.known) in
        drawn_stands code fuel n ws homes views stands id v sits count l refl refl (stands.told id v sits)
        (λ e a. elim (among_append e (numbers (slice_index ws 0) count) v.known.drawn a) [ inl new ↦ inr (number_in (slice_index ws 0) count e new) | inr old ↦ inl old ])
        (seats_after code fuel n ws homes views stands id v sits count l.words most room first refl refl refl (inl (le, first)))
        (quiet l (record { held = refl; half = refl; bears = refl; makes = refl; joined = refl; owes = refl; ready = λ u a. a; loaded = λ y a. a; seen = λ y a. a; still = λ y a. a }))

    missed_stands : Stands code fuel n (set ws 0 (slice_index ws 0 + count)) homes (set views id (record { known = touched 0 (slice_index ws 0) (missed v.known) }))
    missed_stands =
        let l : Known = touched 0 (slice_index ws 0) (missed v.known) in
        drawn_stands code fuel n ws homes views stands id v sits count l refl refl (stands.told id v sits) (λ e a. inl a)
        (seats_after code fuel n ws homes views stands id v sits count l.words most room first refl refl refl (inr refl))
        (quiet l (record { held = refl; half = refl; bears = refl; makes = refl; joined = refl; owes = refl; ready = λ u a. a; loaded = λ y a. a; seen = λ y a. a; still = λ y a. a }))

  pub draws : Steps code fuel n id v 0 (λ y. (y + count) % 2 ^ 64) (λ y k. IsDrawn n count y v.known k)
  draws ws homes views stands sits bits =
      let x : ℕ = slice_index ws 0 in
      let low : x ≤ 1099545182208 = draw_small code fuel n ws homes views stands id v sits count in
      let above = draws_above code fuel n ws homes views stands id v sits count in
      let word : (x + count) % 2 ^ 64 ≡ x + count = mod_small (x + count) (2 ^ 64) (omega (arith, low, most)) in
      subst (λ (y : ℕ). (k : Known) × Stands code fuel n (set ws 0 y) homes (set views id (record { known = k })) × IsDrawn n count x v.known k) (sym word) (dite (dec_le (x + count) n)
      (λ le. (touched 0 x (drew count x v.known), enough_stands ws homes views stands sits le, record { small = omega (arith, low); above = above; enough = λ _. refl; too_few = λ lt. absurd (omega (arith, lt, le)) }))
      (λ gt. let more : n < x + count = lt_of_not-le gt in (touched 0 x (missed v.known), missed_stands ws homes views stands sits, record { small = omega (arith, low); above = above; enough = λ le. absurd (omega (arith, le, more)); too_few = λ _. refl })))
