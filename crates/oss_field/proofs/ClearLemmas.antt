-- The state word of an entry that hangs nowhere is written, if the entry is to be a first child: nothing is before it.
use Rattle.std.proofs.Common.{◌≡◌, ◌≢◌, inl, inr, sym, subst, refl, ◌∙◌, ap, ℕ, ◌<◌, arith, List, length, set}
use Rattle.std.specs.Prelude.{slice_index}
use Rattle.std.specs.Global.{Box}
use mathlib.Core.Option as maybe
use lib.ListN.{get_elem?}
use Rattle.std.proofs.lemmas.List.{get_or-set_other, length-set}
use Rattle.std.proofs.Math.Seq.{map-set}
use Rattle.atomic_table.proofs.Lists.{set_again}
use Rattle.oss_body.specs.Mains.{code_main}
use Rattle.oss_code.specs.declared.code.CodeParts.{CodeParts}
use Rattle.oss_jobs.specs.declared.job.Job.{Job}
use Rattle.oss_machine.specs.Frames.{CodeScript}
use Rattle.oss_machine.specs.Machines.{asks}
use Rattle.oss_words.specs.declared.entry.EntryInfo.{EntryInfo}
use Rattle.oss_words.specs.declared.entry.EntryState.{EntryState}
use Rattle.oss_words.specs.Bits.{info_at, state_at, state_word, FitsWord}
use Rattle.oss_words.specs.Grown.{Grown}
use Rattle.oss_words.specs.Net.{apart}
use Rattle.oss_words.specs.Steps.{Blank, no_flags}
use Rattle.oss_words.specs.Views.{Among}
use Rattle.oss_words.proofs.SeatLemmas.{came_more}
use Rattle.oss_words.proofs.StillLemmas.{all_of, grown_same}
use Rattle.oss_words.proofs.SumLemmas.{same_number}
use Rattle.oss_roles.specs.Field.{FieldAt, Parts}
use Rattle.oss_roles.specs.Sights.{Sight}
use Rattle.oss_roles.proofs.MakeClaims.{fills_keep}
use Rattle.oss_field.specs.declared.view.SeatView.{SeatView}
use Rattle.oss_field.specs.Known.{Known, Unlinked, sight_of}
use Rattle.oss_field.specs.Layout.{cell_word, state_word_of, info_word_of, number_word_of, parts_of, value_word_of}
use Rattle.oss_field.specs.Linking.{clear_alone, told_clear, with_state}
use Rattle.oss_field.specs.Plans.{ArePlanned, IsLoose, Planned, planned_of}
use Rattle.oss_field.specs.Steps.{Steps}
use Rattle.oss_field.specs.Table.{Neat, Slot, is_job_of, planned_by, sights_of, Stands}
use Rattle.oss_field.proofs.FillLemmas.{apart_now, blank_of, inside, none, planned_at}
use Rattle.oss_field.proofs.HeardLemmas.{heard_same}
use Rattle.oss_field.proofs.LooseLemmas.{planned_filled}
use Rattle.oss_field.proofs.TableLemmas.{chained, sits_at}
use Rattle.oss_field.proofs.WordTable.{bodies_same, entry_stands, infos_same, numbers_same, parts_now, seats_on, state_else, state_here, word_else, word_here, values_same}
use Rattle.oss_field.specs.Marked.{StaysLeft}
use Rattle.oss_field.proofs.MarkLemmas.{marked_on, same_keeps, stays_same}
use Rattle.oss_words.proofs.CauseLemmas.{clash}

clear_fits : FitsWord clear_alone
clear_fits = record { next = omega arith; child = omega arith }

clear_neat : Neat clear_alone
clear_neat = record { next = λ z. (refl, refl, refl); child = λ z. (refl, refl, refl) }

clear_blank : Blank apart clear_alone
clear_blank = record { linked = refl; headed = refl; left = refl; folds = refl; reads = refl; writes = refl; clear = refl }

clear_grown : Grown no_flags clear_alone
clear_grown = record { reads = λ b. b; folds = λ b. b; writes = λ b. b; given = λ b. b; done = λ b. b; clear = λ b. refl; left = λ b. b; linked = λ b. b; next = λ b. refl; headed = λ b. b; child = λ b. refl }

module _ (code : CodeParts) (fuel n id : ℕ) (v : SeatView) (y : Unlinked) (among : Among y v.known.unlinked) (blank : y.state ≡ no_flags) where
  module _ (ws : List ℕ) (homes : List (maybe.Option Slot)) (views : List SeatView) (stands : Stands code fuel n ws homes views) (sits : get_elem? views id ≡ maybe.some v) where
    abbrev k : Parts (Box Job)
    k = parts_of (length code.first) ws homes stands.cells

    low : y.entry < n
    low = inside code fuel n id v y among blank 32 ws homes views stands sits

    unset : k.states y.entry ≡ no_flags
    unset = none code fuel n id v y among blank 32 ws homes views stands sits

    abbrev ws' : List ℕ
    ws' = set ws (state_word_of (length code.first) y.entry) (state_word clear_alone)

    abbrev states' : ℕ → EntryState
    states' = λ j. state_at (slice_index (set ws (state_word_of (length code.first) y.entry) (state_word clear_alone)) (state_word_of (length code.first) j))

    abbrev l : Known
    l = told_clear (length code.first) y.entry v.known

    now : states' y.entry ≡ clear_alone
    now = state_here code fuel n ws homes views stands y.entry low clear_alone clear_fits clear_neat

    others : (j : ℕ) → j ≢ y.entry → states' j ≡ k.states j
    others = state_else code fuel n ws homes views stands y.entry low clear_alone clear_fits clear_neat

    infos_stay : (j : ℕ) → slice_index ws' (info_word_of (length code.first) j) ≡ slice_index ws (info_word_of (length code.first) j)
    infos_stay = infos_same code fuel n ws homes views stands y.entry low clear_alone clear_fits clear_neat

    numbers_stay : (j : ℕ) → slice_index ws' (number_word_of (length code.first) j) ≡ slice_index ws (number_word_of (length code.first) j)
    numbers_stay = numbers_same code fuel n ws homes views stands y.entry low clear_alone clear_fits clear_neat

    filled : FieldAt (asks code) (code_main code fuel) code.first (is_job_of code stands.before) n stands.net stands.gave stands.role (record k { states = states' }) (sights_of views)
    filled = chained stands (fills_keep CodeScript (Box Job) (is_job_of code stands.before) (asks code) (code_main code fuel) code.first n k (sights_of views) stands.rule.field y.entry states' k.infos k.cell_of (record {
      fills = record {
        inside = low;
        loose = apart_now code fuel n id v y among blank 32 ws homes views stands sits;
        blank_before = blank_of (k.states y.entry) unset;
        blank_now = subst (λ (z : EntryState). Blank apart z) (sym now) clear_blank;
        undone = ap (λ (z : EntryState). z.done) now;
        ungiven_before = ap (λ (z : EntryState). z.given) unset;
        ungiven = ap (λ (z : EntryState). z.given) now;
        once = inr unset;
        others = others;
        other_infos = λ j ne. refl;
      };
      cells = λ j ne. refl;
      flags = inl (ap (λ (z : EntryState). z.reads) now ∙ sym (ap (λ (z : EntryState). z.reads) unset), ap (λ (z : EntryState). z.writes) now ∙ sym (ap (λ (z : EntryState). z.writes) unset));
    }))

    rule : FieldAt (asks code) (code_main code fuel) code.first (is_job_of code stands.before) n stands.net stands.gave stands.role (parts_of (length code.first) ws' homes stands.cells) (set (sights_of views) id (sight_of l))
    rule =
        subst (λ (z : Parts (Box Job)). FieldAt (asks code) (code_main code fuel) code.first (is_job_of code stands.before) n stands.net stands.gave stands.role z (set (sights_of views) id (sight_of l)))
        (parts_now code fuel n ws homes views stands y.entry low clear_alone clear_fits clear_neat)
        (subst (λ (z : List (Sight CodeScript)). FieldAt (asks code) (code_main code fuel) code.first (is_job_of code stands.before) n stands.net stands.gave stands.role (record k { states = states' }) z)
        (sym (set_again (sights_of views) id (sight_of v.known) (sits_at views id v sits))) filled)

    told_now : (z : Unlinked) → z.entry ≡ y.entry → IsLoose stands.net stands.role k.states k.infos k.cell_of v.known.plans z → IsLoose stands.net stands.role states' k.infos k.cell_of v.known.plans (with_state clear_alone z)
    told_now z same l = record {
      plan = l.plan;
      among = l.among;
      task = l.task;
      it = l.it;
      is = l.is;
      of_task = l.of_task;
      loose = l.loose;
      state = ap states' same ∙ now;
      info = l.info;
      cell = l.cell;
    }

    planned_then : ArePlanned code n stands.net stands.role states' k.infos k.cell_of (set (planned_by views) id (planned_of l))
    planned_then =
        planned_filled code n stands.net stands.role k.states k.infos k.cell_of (planned_by views) stands.planned id (planned_of v.known) (planned_at code fuel n id v y among blank 32 ws homes views stands sits) y among
        states' k.infos k.cell_of (with_state clear_alone) others (λ j ne. refl) (λ j ne. refl) (λ z. refl) told_now

    each : (j : ℕ) → Grown (k.states j) (states' j)
    each = all_of Grown grown_same k.states states' y.entry others (subst (λ (z : EntryState). Grown z (states' y.entry)) (sym unset) (subst (λ (z : EntryState). Grown no_flags z) (sym now) clear_grown))

    stays_at : (j : ℕ) → StaysLeft (k.states j) (states' j)
    stays_at j = elim (same_number j y.entry) [
      | inl q ↦ subst (λ (z : ℕ). StaysLeft (k.states z) (states' z)) (sym q)
          (record { left = λ h. absurd (clash h (ap (λ (z : EntryState). z.left) unset)); none = λ h b. absurd (clash h (ap (λ (z : EntryState). z.left) unset)) })
      | inr ne ↦ stays_same (k.states j) (states' j) (others j ne)
    ]

    clear_stands : Stands code fuel n (set ws (state_word_of (length code.first) y.entry) (state_word clear_alone)) homes (set views id (record { known = told_clear (length code.first) y.entry v.known }))
    clear_stands =
        let come = came_more n stands.net.place k.states states' each in
        entry_stands code fuel n ws homes views stands id v l sits refl (stands.told id v sits) stands.gave ws'
        (length-set ws (state_word_of (length code.first) y.entry) (state_word clear_alone))
        (λ d small. get_or-set_other ws (state_word_of (length code.first) y.entry) (cell_word d) (state_word clear_alone) 0 (λ q. absurd (omega (arith, q, small))))
        (bodies_same code fuel n ws homes views stands y.entry low clear_alone clear_fits clear_neat)
        (get_or-set_other ws (state_word_of (length code.first) y.entry) 0 (state_word clear_alone) 0 (λ q. absurd (omega (arith, q))))
        (λ j. elim (same_number j y.entry) [
          | inl q ↦ subst (λ (z : ℕ). slice_index ws' (state_word_of (length code.first) z) ≡ state_word (states' z)) (sym q) (word_here code fuel n ws homes views stands y.entry low clear_alone clear_fits clear_neat ∙ ap state_word (sym now))
          | inr ne ↦ subst (λ (z : ℕ). z ≡ state_word (state_at z)) (sym (word_else code fuel n ws homes views stands y.entry low clear_alone clear_fits clear_neat j ne)) (stands.whole j)
        ])
        (λ j. elim (same_number j y.entry) [
          | inl q ↦ subst (λ (z : ℕ). Neat (states' z)) (sym q) (subst Neat (sym now) clear_neat)
          | inr ne ↦ subst Neat (sym (others j ne)) (stands.neat j)
        ])
        (heard_same stands.net k.infos (λ j. info_at (slice_index ws' (info_word_of (length code.first) j))) views id v l sits refl (λ j. ap info_at (infos_stay j)) stands.heard)
        (marked_on stands.net stands.net stands.role stands.role k.states states' k.values (λ j. slice_index ws' (value_word_of (length code.first) j))
        (same_keeps stands.net stands.role k.states states' k.values (λ j. slice_index ws' (value_word_of (length code.first) j)) stays_at (λ j left. values_same code fuel n ws homes views stands y.entry low clear_alone clear_fits clear_neat j)) views id v l sits refl stands.marked)
        (subst (λ (z : List Planned). ArePlanned code n stands.net stands.role states' (λ j. info_at (slice_index ws' (info_word_of (length code.first) j))) (λ j. slice_index ws' (number_word_of (length code.first) j)) z) (sym (map-set (λ (z : SeatView). planned_of z.known) views id (record { known = l })))
        (subst (λ (z : ℕ → ℕ). ArePlanned code n stands.net stands.role states' (λ j. info_at (slice_index ws' (info_word_of (length code.first) j))) z (set (planned_by views) id (planned_of l))) (λ t j. sym (numbers_stay j) t)
        (subst (λ (z : ℕ → EntryInfo). ArePlanned code n stands.net stands.role states' z k.cell_of (set (planned_by views) id (planned_of l))) (λ t j. info_at (sym (infos_stay j) t)) planned_then)))
        (seats_on code fuel n ws homes views stands id v sits states' l.words refl refl refl (omega (arith, come)))
        rule

  pub clears : Steps code fuel n id v (state_word_of (length code.first) y.entry) (λ z. 32) (λ z l. l ≡ told_clear (length code.first) y.entry v.known)
  clears ws homes views stands sits bits = (told_clear (length code.first) y.entry v.known, clear_stands ws homes views stands sits, refl)
