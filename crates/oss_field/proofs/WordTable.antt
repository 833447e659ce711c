-- The table after a step that changes the state word of an entry, or the count of a task, and what its seat knows of the words.
use Rattle.std.proofs.Common.{◌≡◌, ◌≢◌, inl, inr, sym, subst, ◌∙◌, ap, ℕ, ◌<◌, ◌≤◌, ◌+◌, arith, Bool, List, length, set, Option, Some, None}
use Rattle.std.specs.Prelude.{slice_index}
use Rattle.std.specs.Global.{Box}
use mathlib.Core.Option as maybe
use lib.ListN.{get_elem?}
use Rattle.std.proofs.lemmas.List.{get_or-set_same, get_or-set_other, length-set}
use Rattle.atomic_table.proofs.Lists.{at_map, at_set}
use Rattle.oss_body.specs.Mains.{code_main}
use Rattle.oss_code.specs.declared.code.CodeParts.{CodeParts}
use Rattle.oss_jobs.specs.declared.job.Job.{Job}
use Rattle.oss_machine.specs.Frames.{CodeScript}
use Rattle.oss_machine.specs.Machines.{asks}
use Rattle.oss_words.specs.declared.entry.EntryInfo.{EntryInfo}
use Rattle.oss_words.specs.declared.entry.EntryState.{EntryState}
use Rattle.oss_words.specs.Bits.{state_at, state_word, info_at, FitsWord}
use Rattle.oss_words.specs.Net.{Net, apart}
use Rattle.oss_words.specs.Seats.{came}
use Rattle.oss_words.specs.Views.{View, Among, At}
use Rattle.oss_words.proofs.BitLemmas.{states_are_read}
use Rattle.oss_words.proofs.SeatLemmas.{length_set}
use Rattle.oss_words.proofs.StillLemmas.{all_of}
use Rattle.oss_words.proofs.SumLemmas.{same_number, total_set}
use Rattle.oss_roles.specs.Drawing.{AreDrawn, IsFree}
use Rattle.oss_roles.specs.Field.{FieldAt, Parts, words_of}
use Rattle.oss_roles.specs.Roles.{Role}
use Rattle.oss_roles.specs.Sights.{Sight}
use Rattle.oss_roles.proofs.DrawLaw.{draws_keep}
use Rattle.oss_roles.proofs.OtherLaw.{words_set}
use Rattle.oss_field.specs.declared.view.SeatView.{SeatView}
use Rattle.oss_field.specs.Heard.{Told}
use Rattle.oss_field.specs.Known.{Holding, Known, sight_of}
use Rattle.oss_field.specs.Layout.{cell_word, state_word_of, info_word_of, value_word_of, number_word_of, count_word_of, body_word_of, parts_of, job_in}
use Rattle.oss_field.specs.Marked.{AreMarked, StaysLeft}
use Rattle.oss_field.specs.Messages.{AreHeard}
use Rattle.oss_field.specs.Plans.{ArePlanned, Hearing, Planned, hearing_of, planned_of}
use Rattle.oss_field.specs.Table.{Slot, is_job_of, planned_by, sights_of, Neat, AreSeats, Stands}
use Rattle.oss_field.proofs.HeardLemmas.{heard_on}
use Rattle.oss_field.proofs.MarkLemmas.{marked_on, same_keeps, stays_same}
use Rattle.oss_field.proofs.TableLemmas.{free_stays, plans_same, sights_set, sits_at}

-- what the views tell of seats, after a step by which a seat has delivered no more than has come
pub seats_on : (code : CodeParts) (fuel n : ℕ) (ws : List ℕ) (homes : List (maybe.Option Slot)) (views : List SeatView) (stands : Stands code fuel n ws homes views) (id : ℕ) (v : SeatView) → get_elem? views id ≡ maybe.some v
    → (states' : ℕ → EntryState) (w : View) → w.parts ≡ v.known.words.parts → w.splits ≡ v.known.words.splits → w.failed ≡ v.known.words.failed
    → w.delivered + came n stands.net.place (λ e. state_at (slice_index ws (state_word_of (length code.first) e))) ≤ v.known.words.delivered + came n stands.net.place states'
    → AreSeats n stands.net states' (slice_index ws 0) (set (words_of (sights_of views)) id w)
seats_on code fuel n ws homes views stands id v sits states' w parts splits failed work =
    let s = stands.seats in
    let vs = words_of (sights_of views) in
    let at : At vs id v.known.words = at_map (λ (z : Sight CodeScript). z.words) (sights_of views) id (sight_of v.known) (sits_at views id v sits) in
    let g = total_set (λ (z : View). z.failed) vs id v.known.words w at in
    let p = total_set (λ (z : View). z.parts) vs id v.known.words w at in
    let d = total_set (λ (z : View). z.delivered) vs id v.known.words w at in record {
      main_drawn = s.main_drawn;
      drawn = let a = s.drawn in omega (arith, a, g, failed);
      failed = λ j y a. elim (at_set vs id j w y a) [
        | inl h ↦ subst (λ (z : View). z.failed ≤ 1) h.1 (let b = s.failed id v.known.words at in omega (arith, b, failed))
        | inr h ↦ s.failed j y h.1
      ];
      split = λ y a. elim (at_set vs id 0 w y a) [
        | inl h ↦ length_set vs id w ∙ (s.split v.known.words (subst (λ (j : ℕ). At vs j v.known.words) (sym h.0) at) ∙ ap (λ (z : ℕ). 1 + z) (sym splits ∙ ap (λ (z : View). z.splits) h.1))
        | inr h ↦ length_set vs id w ∙ s.split y h.1
      ];
      few = let l = length_set vs id w in let a = s.few in omega (arith, l, a);
      parts = let a = s.parts in omega (arith, a, p, parts);
      work = let a = s.work in omega (arith, a, d, work);
    }

-- the entries of tasks that are being made, once the state of an entry that hangs was changed
planned_beside : (code : CodeParts) (n : ℕ) (net : Net) (role : ℕ → Option Role) (states states' : ℕ → EntryState) (infos : ℕ → EntryInfo) (cell_of : ℕ → ℕ) (seats : List Planned) (o : ℕ) (r : Role)
    → net.place o ≢ apart → role o ≡ Some r → ((j : ℕ) → j ≢ o → states' j ≡ states j) → ArePlanned code n net role states infos cell_of seats → ArePlanned code n net role states' infos cell_of seats
planned_beside code n net role states states' infos cell_of seats o r hangs is other a = record {
  inside = a.inside;
  blank = λ e none. other e (λ q. let z : None ≡ Some r = sym none ∙ (ap role q ∙ is) in let bad : ⊥ = cc in bad) ∙ a.blank e none;
  own = a.own;
  roles = a.roles;
  rest = a.rest;
  one = a.one;
  loose = λ id s at z among. let l = a.loose id s at z among in record {
    plan = l.plan;
    among = l.among;
    task = l.task;
    it = l.it;
    is = l.is;
    of_task = l.of_task;
    loose = l.loose;
    state = other z.entry (λ q. hangs (ap (λ (y : ℕ). net.place y) (sym q) ∙ l.loose)) ∙ l.state;
    info = l.info;
    cell = l.cell;
  };
}

-- the table after a step on one of the words of an entry
module _ (code : CodeParts) (fuel n : ℕ) (ws : List ℕ) (homes : List (maybe.Option Slot)) (views : List SeatView) (stands : Stands code fuel n ws homes views) (id : ℕ) (v : SeatView) (l : Known) (sits : get_elem? views id ≡ maybe.some v)
    (drawn : l.drawn ≡ v.known.drawn) (told : (h : Holding) → Among h l.bears → stands.before h.number ≡ h.before) where
  pub entry_stands : (gave' : ℕ → Bool) (ws' : List ℕ) → length ws' ≡ length ws
      → ((c : ℕ) → c < length code.first → slice_index ws' (cell_word c) ≡ slice_index ws (cell_word c))
      → ((e : ℕ) → slice_index ws' (body_word_of (length code.first) e) ≡ slice_index ws (body_word_of (length code.first) e))
      → slice_index ws' 0 ≡ slice_index ws 0
      → ((e : ℕ) → slice_index ws' (state_word_of (length code.first) e) ≡ state_word (state_at (slice_index ws' (state_word_of (length code.first) e))))
      → ((e : ℕ) → Neat (state_at (slice_index ws' (state_word_of (length code.first) e))))
      → AreHeard stands.net (λ e. info_at (slice_index ws' (info_word_of (length code.first) e))) (set views id (record { known = l }))
      → AreMarked stands.net stands.role (λ e. state_at (slice_index ws' (state_word_of (length code.first) e))) (λ e. slice_index ws' (value_word_of (length code.first) e)) (set views id (record { known = l }))
      → ArePlanned code n stands.net stands.role (λ e. state_at (slice_index ws' (state_word_of (length code.first) e))) (λ e. info_at (slice_index ws' (info_word_of (length code.first) e))) (λ e. slice_index ws' (number_word_of (length code.first) e)) (planned_by (set views id (record { known = l })))
      → AreSeats n stands.net (λ e. state_at (slice_index ws' (state_word_of (length code.first) e))) (slice_index ws 0) (set (words_of (sights_of views)) id l.words)
      → FieldAt (asks code) (code_main code fuel) code.first (is_job_of code stands.before) n stands.net gave' stands.role (parts_of (length code.first) ws' homes stands.cells) (set (sights_of views) id (sight_of l))
      → Stands code fuel n ws' homes (set views id (record { known = l }))
  entry_stands gave' ws' size cells bodies draw whole neat heard marked planned seats rule = record {
    net = stands.net;
    gave = gave';
    role = stands.role;
    before = stands.before;
    fresh = stands.fresh;
    cells = stands.cells;
    size = size ∙ stands.size;
    slots = stands.slots;
    sized = stands.sized;
    cell_words = λ c low. cells c low ∙ stands.cell_words c low;
    empty = λ e low z. stands.empty e low (sym (bodies e) ∙ z);
    whole = whole;
    neat = neat;
    rule = subst (λ (z : List (Sight CodeScript)). FieldAt (asks code) (code_main code fuel) code.first (is_job_of code stands.before) n stands.net gave' stands.role (parts_of (length code.first) ws' homes stands.cells) z) (sym (sights_set views id l)) rule;
    told = λ j x at h among. elim (at_set views id j (record { known = l }) x at) [
      | inl e ↦ told h (subst (λ (z : SeatView). Among h z.known.bears) (sym e.1) among)
      | inr e ↦ stands.told j x e.1 h among
    ];
    drawn = subst (λ (z : List (Sight CodeScript)). AreDrawn stands.role z) (sym (sights_set views id l))
        (draws_keep CodeScript stands.role (sights_of views) id (sight_of v.known) (sight_of l) (sits_at views id v sits) (λ e a. inl (subst (λ (z : List ℕ). Among e z) drawn a)) stands.drawn);
    undrawn = λ e high. subst (λ (z : List (Sight CodeScript)). IsFree stands.role z e) (sym (sights_set views id l))
        (free_stays stands.role (sights_of views) id (sight_of v.known) (sight_of l) (sits_at views id v sits) drawn e (stands.undrawn e (subst (λ (z : ℕ). z ≤ e) draw high)));
    selves = stands.selves;
    heard = heard;
    marked = marked;
    seats = subst (λ (z : List View). AreSeats n stands.net (λ e. state_at (slice_index ws' (state_word_of (length code.first) e))) (slice_index ws' 0) z) (sym (ap (λ (z : List (Sight CodeScript)). words_of z) (sights_set views id l) ∙ words_set (sights_of views) id (sight_of l)))
        (subst (λ (z : ℕ). AreSeats n stands.net (λ e. state_at (slice_index ws' (state_word_of (length code.first) e))) z (set (words_of (sights_of views)) id l.words)) (sym draw) seats);
    planned = planned;
  }

-- the words after the state word of an entry has become that of c
module _ (code : CodeParts) (fuel n : ℕ) (ws : List ℕ) (homes : List (maybe.Option Slot)) (views : List SeatView) (stands : Stands code fuel n ws homes views) (o : ℕ) (inside : o < n) (c : EntryState) (fits : FitsWord c) (neat : Neat c) where
  abbrev pub after : List ℕ
  after = set ws (state_word_of (length code.first) o) (state_word c)

  abbrev pub states_after : ℕ → EntryState
  states_after e = state_at (slice_index (set ws (state_word_of (length code.first) o) (state_word c)) (state_word_of (length code.first) e))

  in_table : state_word_of (length code.first) o < length ws
  in_table = let s = stands.size in omega (arith, s, inside)

  pub word_here : slice_index after (state_word_of (length code.first) o) ≡ state_word c
  word_here = get_or-set_same ws (state_word_of (length code.first) o) (state_word c) 0 in_table

  pub word_else : (j : ℕ) → j ≢ o → slice_index after (state_word_of (length code.first) j) ≡ slice_index ws (state_word_of (length code.first) j)
  word_else j ne = get_or-set_other ws (state_word_of (length code.first) o) (state_word_of (length code.first) j) (state_word c) 0 (λ q. ne (omega (arith, q)))

  pub state_here : states_after o ≡ c
  state_here = ap state_at word_here ∙ states_are_read c fits

  pub state_else : (j : ℕ) → j ≢ o → states_after j ≡ state_at (slice_index ws (state_word_of (length code.first) j))
  state_else j ne = ap state_at (word_else j ne)

  pub infos_same : (e : ℕ) → slice_index after (info_word_of (length code.first) e) ≡ slice_index ws (info_word_of (length code.first) e)
  infos_same e = get_or-set_other ws (state_word_of (length code.first) o) (info_word_of (length code.first) e) (state_word c) 0 (λ q. absurd (omega (arith, q)))

  pub values_same : (e : ℕ) → slice_index after (value_word_of (length code.first) e) ≡ slice_index ws (value_word_of (length code.first) e)
  values_same e = get_or-set_other ws (state_word_of (length code.first) o) (value_word_of (length code.first) e) (state_word c) 0 (λ q. absurd (omega (arith, q)))

  pub numbers_same : (e : ℕ) → slice_index after (number_word_of (length code.first) e) ≡ slice_index ws (number_word_of (length code.first) e)
  numbers_same e = get_or-set_other ws (state_word_of (length code.first) o) (number_word_of (length code.first) e) (state_word c) 0 (λ q. absurd (omega (arith, q)))

  counts_same : (e : ℕ) → slice_index after (count_word_of (length code.first) e) ≡ slice_index ws (count_word_of (length code.first) e)
  counts_same e = get_or-set_other ws (state_word_of (length code.first) o) (count_word_of (length code.first) e) (state_word c) 0 (λ q. absurd (omega (arith, q)))

  pub bodies_same : (e : ℕ) → slice_index after (body_word_of (length code.first) e) ≡ slice_index ws (body_word_of (length code.first) e)
  bodies_same e = get_or-set_other ws (state_word_of (length code.first) o) (body_word_of (length code.first) e) (state_word c) 0 (λ q. absurd (omega (arith, q)))

  pub parts_now : ◌≡◌ {A = Parts (Box Job)} (record (parts_of (length code.first) ws homes stands.cells) { states = states_after }) (parts_of (length code.first) after homes stands.cells)
  parts_now = λ i. record {
    states = states_after;
    infos = λ e. info_at (sym (infos_same e) i);
    values = λ e. sym (values_same e) i;
    cell_of = λ e. sym (numbers_same e) i;
    counts = λ e. sym (counts_same e) i;
    bodies = λ e. sym (bodies_same e) i;
    jobs = λ e. job_in (get_elem? homes e);
    cells = stands.cells;
  }

  -- the entry has a role, since it hangs
  role_there : stands.net.place o ≢ apart → (r : Role) × (stands.role o ≡ Some r)
  role_there hangs =
      let r = stands.rule.field.roles.hung o (subst (λ (z : Net). z.place o ≢ apart) (sym stands.rule.same_net) hangs) in
      (r.0, ap (λ (z : ℕ → Option Role). z o) (sym stands.rule.same_role) ∙ r.1)

  planned_after : (id : ℕ) (v : SeatView) (l : Known) → get_elem? views id ≡ maybe.some v → planned_of l ≡ planned_of v.known → stands.net.place o ≢ apart
      → ArePlanned code n stands.net stands.role states_after (λ e. info_at (slice_index after (info_word_of (length code.first) e))) (λ e. slice_index after (number_word_of (length code.first) e)) (planned_by (set views id (record { known = l })))
  planned_after id v l sits planned hangs =
      let r = role_there hangs in
      let states : ℕ → EntryState = λ e. state_at (slice_index ws (state_word_of (length code.first) e)) in
      let infos : ℕ → EntryInfo = λ e. info_at (slice_index ws (info_word_of (length code.first) e)) in
      let cell_of : ℕ → ℕ = λ e. slice_index ws (number_word_of (length code.first) e) in
      subst (λ (z : List Planned). ArePlanned code n stands.net stands.role states_after (λ e. info_at (slice_index after (info_word_of (length code.first) e))) (λ e. slice_index after (number_word_of (length code.first) e)) z) (sym (plans_same views id v l sits planned))
      (subst (λ (z : ℕ → ℕ). ArePlanned code n stands.net stands.role states_after (λ e. info_at (slice_index after (info_word_of (length code.first) e))) z (planned_by views)) (λ i e. sym (numbers_same e) i)
      (subst (λ (z : ℕ → EntryInfo). ArePlanned code n stands.net stands.role states_after z cell_of (planned_by views)) (λ i e. info_at (sym (infos_same e) i))
      (planned_beside code n stands.net stands.role states states_after infos cell_of (planned_by views) o r.0 hangs r.1 state_else stands.planned)))

  -- the table, if the rule of the roles is kept, and no more was delivered than has come
  pub state_stands : (id : ℕ) (v : SeatView) (l : Known) → get_elem? views id ≡ maybe.some v → l.drawn ≡ v.known.drawn → hearing_of l ≡ hearing_of v.known → planned_of l ≡ planned_of v.known → stands.net.place o ≢ apart
      → StaysLeft (state_at (slice_index ws (state_word_of (length code.first) o))) c
      → ((h : Holding) → Among h l.bears → stands.before h.number ≡ h.before)
      → l.words.parts ≡ v.known.words.parts → l.words.splits ≡ v.known.words.splits → l.words.failed ≡ v.known.words.failed
      → l.words.delivered + came n stands.net.place (λ e. state_at (slice_index ws (state_word_of (length code.first) e))) ≤ v.known.words.delivered + came n stands.net.place (λ e. state_at (slice_index (set ws (state_word_of (length code.first) o) (state_word c)) (state_word_of (length code.first) e)))
      → (gave' : ℕ → Bool)
      → FieldAt (asks code) (code_main code fuel) code.first (is_job_of code stands.before) n stands.net gave' stands.role
      (record (parts_of (length code.first) ws homes stands.cells) { states = λ e. state_at (slice_index (set ws (state_word_of (length code.first) o) (state_word c)) (state_word_of (length code.first) e)) }) (set (sights_of views) id (sight_of l))
      → Stands code fuel n (set ws (state_word_of (length code.first) o) (state_word c)) homes (set views id (record { known = l }))
  state_stands id v l sits drawn heard planned hangs stays told parts splits failed work gave' rule =
      entry_stands code fuel n ws homes views stands id v l sits drawn told gave' after
      (length-set ws (state_word_of (length code.first) o) (state_word c))
      (λ d low. get_or-set_other ws (state_word_of (length code.first) o) (cell_word d) (state_word c) 0 (λ q. absurd (omega (arith, q, low))))
      bodies_same
      (get_or-set_other ws (state_word_of (length code.first) o) 0 (state_word c) 0 (λ q. absurd (omega (arith, q))))
      (λ e. elim (same_number e o) [
        | inl q ↦ subst (λ (z : ℕ). slice_index after (state_word_of (length code.first) z) ≡ state_word (states_after z)) (sym q) (word_here ∙ ap state_word (sym state_here))
        | inr ne ↦ subst (λ (z : ℕ). z ≡ state_word (state_at z)) (sym (word_else e ne)) (stands.whole e)
      ])
      (λ e. elim (same_number e o) [
        | inl q ↦ subst (λ (z : ℕ). Neat (states_after z)) (sym q) (subst Neat (sym state_here) neat)
        | inr ne ↦ subst Neat (sym (state_else e ne)) (stands.neat e)
      ])
      (heard_on stands.net (λ e. info_at (slice_index ws (info_word_of (length code.first) e))) (λ e. info_at (slice_index after (info_word_of (length code.first) e))) views id v l sits
      (λ t a. inl (subst (λ (z : List Told). Among t z) (ap (λ (z : Hearing). z.told) heard) a)) (λ e h. ap info_at (infos_same e)) stands.heard)
      (marked_on stands.net stands.net stands.role stands.role (λ e. state_at (slice_index ws (state_word_of (length code.first) e))) states_after (λ e. slice_index ws (value_word_of (length code.first) e)) (λ e. slice_index after (value_word_of (length code.first) e))
      (same_keeps stands.net stands.role (λ e. state_at (slice_index ws (state_word_of (length code.first) e))) states_after (λ e. slice_index ws (value_word_of (length code.first) e)) (λ e. slice_index after (value_word_of (length code.first) e))
      (all_of StaysLeft stays_same (λ e. state_at (slice_index ws (state_word_of (length code.first) e))) states_after o state_else (subst (λ (z : EntryState). StaysLeft (state_at (slice_index ws (state_word_of (length code.first) o))) z) (sym state_here) stays))
      (λ e left. values_same e)) views id v l sits (ap (λ (z : Hearing). z.marks) heard) stands.marked)
      (planned_after id v l sits planned hangs)
      (seats_on code fuel n ws homes views stands id v sits states_after l.words parts splits failed work)
      (subst (λ (z : Parts (Box Job)). FieldAt (asks code) (code_main code fuel) code.first (is_job_of code stands.before) n stands.net gave' stands.role z (set (sights_of views) id (sight_of l))) parts_now rule)
