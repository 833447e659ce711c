-- The table after a step that links an entry of a new task to another, whose state word it changes.
use Rattle.std.proofs.Common.{◌≡◌, ◌≢◌, inl, inr, sym, subst, ◌∙◌, ap, ℕ, ◌<◌, ◌≤◌, arith, List, length, set, Option, Some, None, true}
use Rattle.std.specs.Prelude.{slice_index}
use Rattle.std.specs.Global.{Box}
use mathlib.Core.Option as maybe
use lib.ListN.{get_elem?}
use Rattle.std.proofs.lemmas.List.{get_or-set_other, length-set}
use Rattle.std.proofs.Math.Seq.{map-set}
use Rattle.atomic_table.proofs.Lists.{at_map, at_set}
use Rattle.oss_body.specs.Mains.{code_main}
use Rattle.oss_code.specs.declared.code.CodeParts.{CodeParts}
use Rattle.oss_jobs.specs.declared.job.Job.{Job}
use Rattle.oss_machine.specs.Frames.{CodeScript}
use Rattle.oss_machine.specs.Machines.{asks}
use Rattle.oss_words.specs.declared.entry.EntryInfo.{EntryInfo}
use Rattle.oss_words.specs.declared.entry.EntryState.{EntryState}
use Rattle.oss_words.specs.declared.message.Message.{Message}
use Rattle.oss_words.specs.Bits.{info_at, state_at, state_word, FitsWord}
use Rattle.oss_words.specs.Causes.{got}
use Rattle.oss_words.specs.Grown.{Grown}
use Rattle.oss_words.specs.Net.{Net, Place, apart}
use Rattle.oss_words.specs.Seats.{came}
use Rattle.oss_words.specs.Sums.{below, total}
use Rattle.oss_words.specs.Views.{View, Among}
use Rattle.oss_words.proofs.SeatLemmas.{came_more}
use Rattle.oss_words.proofs.StillLemmas.{all_of, grown_same}
use Rattle.oss_words.proofs.SumLemmas.{same_number}
use Rattle.oss_roles.specs.Drawing.{AreDrawn, IsFree}
use Rattle.oss_roles.specs.Field.{FieldAt, Parts, words_of}
use Rattle.oss_roles.specs.Roles.{Role}
use Rattle.oss_roles.specs.Sights.{Sight}
use Rattle.oss_roles.proofs.DrawLaw.{draws_keep}
use Rattle.oss_roles.proofs.OtherLaw.{words_set}
use Rattle.oss_field.specs.declared.view.SeatView.{SeatView}
use Rattle.oss_field.specs.Known.{Known, Unlinked, sight_of}
use Rattle.oss_field.specs.Layout.{cell_word, state_word_of, info_word_of, number_word_of, parts_of, value_word_of}
use Rattle.oss_field.specs.Linking.{unlinked_beside}
use Rattle.oss_field.specs.Messages.{AreHeard}
use Rattle.oss_field.specs.Plans.{ArePlanned, IsLoose, Planned, planned_of}
use Rattle.oss_field.specs.Table.{AreSeats, Neat, Slot, is_job_of, planned_by, sights_of, Stands}
use Rattle.oss_field.proofs.HeardLemmas.{heard_same}
use Rattle.oss_field.proofs.LooseLemmas.{planned_linked}
use Rattle.oss_field.proofs.PlanLemmas.{is_apart}
use Rattle.oss_field.proofs.TableLemmas.{free_stays, sights_set, sits_at}
use Rattle.oss_field.proofs.WordTable.{bodies_same, infos_same, numbers_same, parts_now, seats_on, state_else, state_here, word_else, word_here, values_same}
use Rattle.oss_field.specs.Marked.{StaysLeft}
use Rattle.oss_field.proofs.MarkLemmas.{marked_on, stays_same}

-- the entry y hangs in the net after the step, and the seat keeps it no more; the state word of o has become that of c
module _ (code : CodeParts) (fuel n : ℕ) (ws : List ℕ) (homes : List (maybe.Option Slot)) (views : List SeatView) (stands : Stands code fuel n ws homes views) (id : ℕ) (v : SeatView) (sits : get_elem? views id ≡ maybe.some v)
    (y : Unlinked) (among : Among y v.known.unlinked) (lies : IsLoose stands.net stands.role (parts_of (length code.first) ws homes stands.cells).states (parts_of (length code.first) ws homes stands.cells).infos (parts_of (length code.first) ws homes stands.cells).cell_of v.known.plans y)
    (o : ℕ) (inside : o < n) (c : EntryState) (fits : FitsWord c) (neat : Neat c) (hangs : stands.net.place o ≢ apart) (grown : Grown (state_at (slice_index ws (state_word_of (length code.first) o))) c)
    (net' : Net) (places : (j : ℕ) → j ≢ y.entry → net'.place j ≡ stands.net.place j) (placed : net'.place y.entry ≢ apart)
    (quiet : total (λ (m : Message). 1) (got (net'.place y.entry) y.entry y.state) ≡ total (λ (m : Message). 1) (got apart y.entry y.state))
    (lasts : (j : ℕ) → stands.net.place j ≢ apart → (state_at (slice_index ws (state_word_of (length code.first) j))).left ≡ true → net'.last j ≡ stands.net.last j)
    (stays : StaysLeft (state_at (slice_index ws (state_word_of (length code.first) o))) c) where
  abbrev k : Parts (Box Job)
  k = parts_of (length code.first) ws homes stands.cells

  abbrev ws' : List ℕ
  ws' = set ws (state_word_of (length code.first) o) (state_word c)

  abbrev states' : ℕ → EntryState
  states' = λ j. state_at (slice_index (set ws (state_word_of (length code.first) o) (state_word c)) (state_word_of (length code.first) j))

  now : states' o ≡ c
  now = state_here code fuel n ws homes views stands o inside c fits neat

  others : (j : ℕ) → j ≢ o → states' j ≡ k.states j
  others = state_else code fuel n ws homes views stands o inside c fits neat

  infos_stay : (j : ℕ) → slice_index ws' (info_word_of (length code.first) j) ≡ slice_index ws (info_word_of (length code.first) j)
  infos_stay = infos_same code fuel n ws homes views stands o inside c fits neat

  numbers_stay : (j : ℕ) → slice_index ws' (number_word_of (length code.first) j) ≡ slice_index ws (number_word_of (length code.first) j)
  numbers_stay = numbers_same code fuel n ws homes views stands o inside c fits neat

  draw_same : slice_index ws' 0 ≡ slice_index ws 0
  draw_same = get_or-set_other ws (state_word_of (length code.first) o) 0 (state_word c) 0 (λ q. absurd (omega (arith, q)))

  -- what hangs nowhere has the state that it had
  loose_other : (j : ℕ) → stands.net.place j ≡ apart → j ≢ o
  loose_other j loose q = hangs (ap (λ (z : ℕ). stands.net.place z) (sym q) ∙ loose)

  state_of_y : states' y.entry ≡ y.state
  state_of_y = others y.entry (loose_other y.entry lies.loose) ∙ lies.state

  -- no message has come to the entry, and to the others none but before
  came_same : came n net'.place states' ≡ came n stands.net.place states'
  came_same = ap (λ (z : ℕ → ℕ). below z n) (λ t j. same j t)
    where
      of_entry : total (λ (m : Message). 1) (got (net'.place y.entry) y.entry (states' y.entry)) ≡ total (λ (m : Message). 1) (got (stands.net.place y.entry) y.entry (states' y.entry))
      of_entry =
          ap (λ (z : EntryState). total (λ (m : Message). 1) (got (net'.place y.entry) y.entry z)) state_of_y
          ∙ (quiet
          ∙ sym (ap (λ (z : Place). total (λ (m : Message). 1) (got z y.entry (states' y.entry))) lies.loose ∙ ap (λ (z : EntryState). total (λ (m : Message). 1) (got apart y.entry z)) state_of_y))

      same : (j : ℕ) → total (λ (m : Message). 1) (got (net'.place j) j (states' j)) ≡ total (λ (m : Message). 1) (got (stands.net.place j) j (states' j))
      same j = elim (same_number j y.entry) [
        | inl q ↦ subst (λ (z : ℕ). total (λ (m : Message). 1) (got (net'.place z) z (states' z)) ≡ total (λ (m : Message). 1) (got (stands.net.place z) z (states' z))) (sym q) of_entry
        | inr ne ↦ ap (λ (z : Place). total (λ (m : Message). 1) (got z j (states' j))) (places j ne)
      ]

  came_grown : came n stands.net.place k.states ≤ came n stands.net.place states'
  came_grown = came_more n stands.net.place k.states states' (all_of Grown grown_same k.states states' o others (subst (λ (z : EntryState). Grown (k.states o) z) (sym now) grown))

  hung : (j : ℕ) → stands.role j ≡ None → stands.net.place j ≡ apart
  hung j none_there = is_apart (stands.net.place j) (λ ne.
      let r = stands.rule.field.roles.hung j (subst (λ (z : Net). z.place j ≢ apart) (sym stands.rule.same_net) ne) in
      let z : None ≡ Some r.0 = sym none_there ∙ (ap (λ (z : ℕ → Option Role). z j) (sym stands.rule.same_role) ∙ r.1) in cc)

  still_hangs : (j : ℕ) → stands.net.place j ≢ apart → net'.place j ≢ apart
  still_hangs j there q = elim (same_number j y.entry) [
    | inl s ↦ there (ap (λ (z : ℕ). stands.net.place z) s ∙ lies.loose)
    | inr s ↦ there (sym (places j s) ∙ q)
  ]

  module _ (l : Known) (bears : l.bears ≡ v.known.bears) (drawn : l.drawn ≡ v.known.drawn) (told : l.told ≡ v.known.told) (marks : l.marks ≡ v.known.marks) (planned : planned_of l ≡ record { plans = v.known.plans; unlinked = unlinked_beside y.entry v.known.unlinked })
      (parts : l.words.parts ≡ v.known.words.parts) (splits : l.words.splits ≡ v.known.words.splits) (failed : l.words.failed ≡ v.known.words.failed) (delivered : l.words.delivered ≡ v.known.words.delivered)
      (rule : FieldAt (asks code) (code_main code fuel) code.first (is_job_of code stands.before) n net' stands.gave stands.role (record (parts_of (length code.first) ws homes stands.cells) { states = λ j. state_at (slice_index (set ws (state_word_of (length code.first) o) (state_word c)) (state_word_of (length code.first) j)) }) (set (sights_of views) id (sight_of l))) where
    planned_now : ArePlanned code n net' stands.role states' k.infos k.cell_of (set (planned_by views) id (planned_of l))
    planned_now =
        subst (λ (z : Planned). ArePlanned code n net' stands.role states' k.infos k.cell_of (set (planned_by views) id z)) (sym planned)
        (planned_linked code n stands.net stands.role k.states k.infos k.cell_of (planned_by views) stands.planned id (planned_of v.known) (at_map (λ (z : SeatView). planned_of z.known) views id v sits) y among
        net' states' places placed (λ j loose ne. others j (loose_other j loose)) hung)

    heard_yet : AreHeard stands.net (λ j. info_at (slice_index ws' (info_word_of (length code.first) j))) (set views id (record { known = l }))
    heard_yet = heard_same stands.net k.infos (λ j. info_at (slice_index ws' (info_word_of (length code.first) j))) views id v l sits told (λ j. ap info_at (infos_stay j)) stands.heard

    stays_at : (j : ℕ) → StaysLeft (k.states j) (states' j)
    stays_at j = elim (same_number j o) [
      | inl q ↦ subst (λ (z : ℕ). StaysLeft (k.states z) (states' z)) (sym q) (subst (λ (z : EntryState). StaysLeft (k.states o) z) (sym now) stays)
      | inr ne ↦ stays_same (k.states j) (states' j) (others j ne)
    ]

    seats_now : AreSeats n net' states' (slice_index ws 0) (set (words_of (sights_of views)) id l.words)
    seats_now =
        let more = came_grown in
        let s = seats_on code fuel n ws homes views stands id v sits states' l.words parts splits failed (omega (arith, more, delivered)) in record {
          main_drawn = s.main_drawn;
          drawn = s.drawn;
          failed = s.failed;
          split = s.split;
          few = s.few;
          parts = s.parts;
          work = subst (λ (z : ℕ). total (λ (w : View). w.delivered) (set (words_of (sights_of views)) id l.words) ≤ z) (sym came_same) s.work;
        }

    pub hung_stands : Stands code fuel n (set ws (state_word_of (length code.first) o) (state_word c)) homes (set views id (record { known = l }))
    hung_stands = record {
      net = net';
      gave = stands.gave;
      role = stands.role;
      before = stands.before;
      fresh = stands.fresh;
      cells = stands.cells;
      size = length-set ws (state_word_of (length code.first) o) (state_word c) ∙ stands.size;
      slots = stands.slots;
      sized = stands.sized;
      cell_words = λ d small. get_or-set_other ws (state_word_of (length code.first) o) (cell_word d) (state_word c) 0 (λ q. absurd (omega (arith, q, small))) ∙ stands.cell_words d small;
      empty = λ j small z. stands.empty j small (sym (bodies_same code fuel n ws homes views stands o inside c fits neat j) ∙ z);
      whole = λ j. elim (same_number j o) [
        | inl q ↦ subst (λ (z : ℕ). slice_index ws' (state_word_of (length code.first) z) ≡ state_word (states' z)) (sym q) (word_here code fuel n ws homes views stands o inside c fits neat ∙ ap state_word (sym now))
        | inr ne ↦ subst (λ (z : ℕ). z ≡ state_word (state_at z)) (sym (word_else code fuel n ws homes views stands o inside c fits neat j ne)) (stands.whole j)
      ];
      neat = λ j. elim (same_number j o) [
        | inl q ↦ subst (λ (z : ℕ). Neat (states' z)) (sym q) (subst Neat (sym now) neat)
        | inr ne ↦ subst Neat (sym (others j ne)) (stands.neat j)
      ];
      rule = subst (λ (z : List (Sight CodeScript)). FieldAt (asks code) (code_main code fuel) code.first (is_job_of code stands.before) n net' stands.gave stands.role (parts_of (length code.first) ws' homes stands.cells) z) (sym (sights_set views id l))
          (subst (λ (z : Parts (Box Job)). FieldAt (asks code) (code_main code fuel) code.first (is_job_of code stands.before) n net' stands.gave stands.role z (set (sights_of views) id (sight_of l))) (parts_now code fuel n ws homes views stands o inside c fits neat) rule);
      told = λ j x sx u a. elim (at_set views id j (record { known = l }) x sx) [
        | inl q ↦ stands.told id v sits u (subst (λ z. Among u z) bears (subst (λ (z : SeatView). Among u z.known.bears) (sym q.1) a))
        | inr q ↦ stands.told j x q.1 u a
      ];
      drawn = subst (λ (z : List (Sight CodeScript)). AreDrawn stands.role z) (sym (sights_set views id l))
          (draws_keep CodeScript stands.role (sights_of views) id (sight_of v.known) (sight_of l) (sits_at views id v sits) (λ j a. inl (subst (λ (z : List ℕ). Among j z) drawn a)) stands.drawn);
      undrawn = λ j high. subst (λ (z : List (Sight CodeScript)). IsFree stands.role z j) (sym (sights_set views id l))
          (free_stays stands.role (sights_of views) id (sight_of v.known) (sight_of l) (sits_at views id v sits) drawn j (stands.undrawn j (subst (λ (z : ℕ). z ≤ j) draw_same high)));
      selves = stands.selves;
      heard = record { told = λ j x sx u a. let r = heard_yet.told j x sx u a in (still_hangs u.entry r.0, r.1) };
      marked = marked_on stands.net net' stands.role stands.role k.states states' k.values (λ j. slice_index ws' (value_word_of (length code.first) j))
          (record {
            place = λ j there. places j (λ q. there (ap (λ (z : ℕ). stands.net.place z) q ∙ lies.loose));
            last = lasts;
            role_is = λ j r is. is;
            stays = λ j there. stays_at j;
            value = λ j there left. values_same code fuel n ws homes views stands o inside c fits neat j;
          }) views id v l sits marks stands.marked;
      seats = subst (λ (z : List View). AreSeats n net' states' (slice_index ws' 0) z) (sym (ap (λ (z : List (Sight CodeScript)). words_of z) (sights_set views id l) ∙ words_set (sights_of views) id (sight_of l)))
          (subst (λ (z : ℕ). AreSeats n net' states' z (set (words_of (sights_of views)) id l.words)) (sym draw_same) seats_now);
      planned = subst (λ (z : List Planned). ArePlanned code n net' stands.role states' (λ j. info_at (slice_index ws' (info_word_of (length code.first) j))) (λ j. slice_index ws' (number_word_of (length code.first) j)) z) (sym (map-set (λ (z : SeatView). planned_of z.known) views id (record { known = l })))
          (subst (λ (z : ℕ → ℕ). ArePlanned code n net' stands.role states' (λ j. info_at (slice_index ws' (info_word_of (length code.first) j))) z (set (planned_by views) id (planned_of l))) (λ t j. sym (numbers_stay j) t)
          (subst (λ (z : ℕ → EntryInfo). ArePlanned code n net' stands.role states' z k.cell_of (set (planned_by views) id (planned_of l))) (λ t j. info_at (sym (infos_stay j) t)) planned_now));
    }
