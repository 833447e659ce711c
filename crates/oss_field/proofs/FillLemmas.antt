-- The info word of an entry that hangs nowhere is written, and the number of its cell.
use Rattle.std.proofs.Common.{◌≡◌, ◌≢◌, inl, sym, subst, refl, ◌∙◌, ap, ℕ, ◌<◌, arith, List, length, set, Some}
use Rattle.std.specs.Prelude.{slice_index}
use Rattle.std.specs.Global.{Box}
use mathlib.Core.Option as maybe
use lib.ListN.{get_elem?}
use Rattle.std.proofs.lemmas.List.{get_or-set_same, get_or-set_other, length-set}
use Rattle.std.proofs.Math.Seq.{map-set}
use Rattle.atomic_table.proofs.Lists.{at_map, set_again}
use Rattle.oss_body.specs.Mains.{code_main}
use Rattle.oss_code.specs.declared.code.CodeParts.{CodeParts}
use Rattle.oss_jobs.specs.declared.job.Job.{Job}
use Rattle.oss_machine.specs.Frames.{CodeScript}
use Rattle.oss_machine.specs.Machines.{asks}
use Rattle.oss_words.specs.declared.entry.EntryInfo.{EntryInfo}
use Rattle.oss_words.specs.declared.entry.EntryState.{EntryState}
use Rattle.oss_words.specs.Bits.{info_at, state_at}
use Rattle.oss_words.specs.Net.{Net, apart}
use Rattle.oss_words.specs.Steps.{Blank, Fills, no_flags}
use Rattle.oss_words.specs.Views.{Among}
use Rattle.oss_roles.specs.Field.{Field, FieldAt, Parts}
use Rattle.oss_roles.specs.Sights.{Sight}
use Rattle.oss_roles.proofs.MakeClaims.{fills_keep}
use Rattle.oss_field.specs.declared.view.SeatView.{SeatView}
use Rattle.oss_field.specs.Known.{Known, Unlinked, sight_of}
use Rattle.oss_field.specs.Layout.{job_in, cell_word, state_word_of, info_word_of, value_word_of, number_word_of, count_word_of, body_word_of, parts_of}
use Rattle.oss_field.specs.Linking.{told_cell, told_info, with_cell, with_info}
use Rattle.oss_field.specs.Plans.{ArePlanned, IsLoose, Planned, planned_of}
use Rattle.oss_field.specs.Steps.{Steps}
use Rattle.oss_field.specs.Table.{Slot, is_job_of, planned_by, sights_of, Stands}
use Rattle.oss_field.proofs.LooseLemmas.{planned_filled}
use Rattle.oss_field.proofs.TableLemmas.{chained, next_stands, sits_at}

pub blank_of : (c : EntryState) → c ≡ no_flags → Blank apart c
blank_of c q = subst (λ (z : EntryState). Blank apart z) (sym q) (record { linked = refl; headed = refl; left = refl; folds = refl; reads = refl; writes = refl; clear = refl })

some_is : {A : Type 0} (x y : A) → Some x ≡ Some y → x ≡ y
some_is x y q = cc

module _ (code : CodeParts) (fuel n id : ℕ) (v : SeatView) (y : Unlinked) (among : Among y v.known.unlinked) (blank : y.state ≡ no_flags) (x : ℕ) where
  module _ (ws : List ℕ) (homes : List (maybe.Option Slot)) (views : List SeatView) (stands : Stands code fuel n ws homes views) (sits : get_elem? views id ≡ maybe.some v) where
    abbrev pub k : Parts (Box Job)
    k = parts_of (length code.first) ws homes stands.cells

    abbrev pub f : Field (asks code) (code_main code fuel) code.first (is_job_of code stands.before) n k (sights_of views)
    f = stands.rule.field

    pub planned_at : get_elem? (planned_by views) id ≡ maybe.some (planned_of v.known)
    planned_at = at_map (λ (z : SeatView). planned_of z.known) views id v sits

    pub loose : IsLoose stands.net stands.role k.states k.infos k.cell_of v.known.plans y
    loose = stands.planned.loose id (planned_of v.known) planned_at y among

    pub inside : y.entry < n
    inside = stands.planned.inside y.entry loose.it loose.is

    pub none : k.states y.entry ≡ no_flags
    none = loose.state ∙ blank

    pub apart_now : f.net.place y.entry ≡ apart
    apart_now = ap (λ (z : Net). z.place y.entry) stands.rule.same_net ∙ loose.loose

    -- the fill of a word beside the state word
    fills : (infos' : ℕ → EntryInfo) → ((j : ℕ) → j ≢ y.entry → infos' j ≡ k.infos j) → Fills n f.net k.states k.states k.infos infos' y.entry
    fills infos' other = record {
      inside = inside;
      loose = apart_now;
      blank_before = blank_of (k.states y.entry) none;
      blank_now = blank_of (k.states y.entry) none;
      undone = ap (λ (z : EntryState). z.done) none;
      ungiven_before = ap (λ (z : EntryState). z.given) none;
      ungiven = ap (λ (z : EntryState). z.given) none;
      once = inl refl;
      others = λ j ne. refl;
      other_infos = other;
    }

    rule_filled : (infos' : ℕ → EntryInfo) (cell_of' : ℕ → ℕ) → ((j : ℕ) → j ≢ y.entry → infos' j ≡ k.infos j) → ((j : ℕ) → j ≢ y.entry → cell_of' j ≡ k.cell_of j)
        → FieldAt (asks code) (code_main code fuel) code.first (is_job_of code stands.before) n stands.net stands.gave stands.role (record k { states = k.states; infos = infos'; cell_of = cell_of' }) (set (sights_of views) id (sight_of v.known))
    rule_filled infos' cell_of' other_infos other_cells =
        subst (λ (z : List (Sight CodeScript)). FieldAt (asks code) (code_main code fuel) code.first (is_job_of code stands.before) n stands.net stands.gave stands.role (record k { states = k.states; infos = infos'; cell_of = cell_of' }) z)
        (sym (set_again (sights_of views) id (sight_of v.known) (sits_at views id v sits)))
        (chained stands (fills_keep CodeScript (Box Job) (is_job_of code stands.before) (asks code) (code_main code fuel) code.first n k (sights_of views) f y.entry k.states infos' cell_of' (record {
          fills = fills infos' other_infos;
          cells = other_cells;
          flags = inl (refl, refl);
        })))

    -- the info word
    abbrev pub ws1 : List ℕ
    ws1 = set ws (info_word_of (length code.first) y.entry) x

    abbrev pub infos1 : ℕ → EntryInfo
    infos1 = λ e. info_at (slice_index (set ws (info_word_of (length code.first) y.entry) x) (info_word_of (length code.first) e))

    states1 : (e : ℕ) → slice_index ws1 (state_word_of (length code.first) e) ≡ slice_index ws (state_word_of (length code.first) e)
    states1 e = get_or-set_other ws (info_word_of (length code.first) y.entry) (state_word_of (length code.first) e) x 0 (λ q. absurd (omega (arith, q)))

    values1 : (e : ℕ) → slice_index ws1 (value_word_of (length code.first) e) ≡ slice_index ws (value_word_of (length code.first) e)
    values1 e = get_or-set_other ws (info_word_of (length code.first) y.entry) (value_word_of (length code.first) e) x 0 (λ q. absurd (omega (arith, q)))

    numbers1 : (e : ℕ) → slice_index ws1 (number_word_of (length code.first) e) ≡ slice_index ws (number_word_of (length code.first) e)
    numbers1 e = get_or-set_other ws (info_word_of (length code.first) y.entry) (number_word_of (length code.first) e) x 0 (λ q. absurd (omega (arith, q)))

    counts1 : (e : ℕ) → slice_index ws1 (count_word_of (length code.first) e) ≡ slice_index ws (count_word_of (length code.first) e)
    counts1 e = get_or-set_other ws (info_word_of (length code.first) y.entry) (count_word_of (length code.first) e) x 0 (λ q. absurd (omega (arith, q)))

    bodies1 : (e : ℕ) → slice_index ws1 (body_word_of (length code.first) e) ≡ slice_index ws (body_word_of (length code.first) e)
    bodies1 e = get_or-set_other ws (info_word_of (length code.first) y.entry) (body_word_of (length code.first) e) x 0 (λ q. absurd (omega (arith, q)))

    here1 : infos1 y.entry ≡ info_at x
    here1 = ap info_at (get_or-set_same ws (info_word_of (length code.first) y.entry) x 0 (let s = stands.size in let i = inside in omega (arith, s, i)))

    else1 : (j : ℕ) → j ≢ y.entry → infos1 j ≡ k.infos j
    else1 j ne = ap info_at (get_or-set_other ws (info_word_of (length code.first) y.entry) (info_word_of (length code.first) j) x 0 (λ q. ne (omega (arith, q))))

    -- the info word of an entry that hangs is as it was
    hung1 : (j : ℕ) → stands.net.place j ≢ apart → slice_index ws1 (info_word_of (length code.first) j) ≡ slice_index ws (info_word_of (length code.first) j)
    hung1 j hangs = get_or-set_other ws (info_word_of (length code.first) y.entry) (info_word_of (length code.first) j) x 0
        (λ q. let same : j ≡ y.entry = omega (arith, q) in hangs (ap (λ (z : ℕ). stands.net.place z) same ∙ loose.loose))

    parts1 : ◌≡◌ {A = Parts (Box Job)} (record k { states = k.states; infos = infos1; cell_of = k.cell_of }) (parts_of (length code.first) ws1 homes stands.cells)
    parts1 = λ i. record {
      states = λ e. state_at (sym (states1 e) i);
      infos = infos1;
      values = λ e. sym (values1 e) i;
      cell_of = λ e. sym (numbers1 e) i;
      counts = λ e. sym (counts1 e) i;
      bodies = λ e. sym (bodies1 e) i;
      jobs = λ e. job_in (get_elem? homes e);
      cells = stands.cells;
    }

    told1 : (z : Unlinked) → z.entry ≡ y.entry → IsLoose stands.net stands.role k.states k.infos k.cell_of v.known.plans z → IsLoose stands.net stands.role k.states infos1 k.cell_of v.known.plans (with_info (info_at x) z)
    told1 z same l = record {
      plan = l.plan;
      among = l.among;
      task = l.task;
      it = l.it;
      is = l.is;
      of_task = l.of_task;
      loose = l.loose;
      state = l.state;
      info = λ i q. ap infos1 same ∙ (here1 ∙ some_is (info_at x) i q);
      cell = l.cell;
    }

    info_stands : Stands code fuel n (set ws (info_word_of (length code.first) y.entry) x) homes (set views id (record { known = told_info (length code.first) y.entry x v.known }))
    info_stands =
        let l : Known = told_info (length code.first) y.entry x v.known in
        let p = planned_filled code n stands.net stands.role k.states k.infos k.cell_of (planned_by views) stands.planned id (planned_of v.known) planned_at y among k.states infos1 k.cell_of (with_info (info_at x)) (λ j ne. refl) else1 (λ j ne. refl) (λ z. refl) told1 in
        next_stands code fuel n ws homes views stands id v l sits refl refl refl (stands.told id v sits) ws1 homes stands.cells (length-set ws (info_word_of (length code.first) y.entry) x ∙ stands.size) stands.slots stands.sized
        (λ c low. get_or-set_other ws (info_word_of (length code.first) y.entry) (cell_word c) x 0 (λ q. absurd (omega (arith, q, low))) ∙ stands.cell_words c low)
        (λ e low z. stands.empty e low (sym (bodies1 e) ∙ z)) states1 hung1 (λ j left. values1 j) (get_or-set_other ws (info_word_of (length code.first) y.entry) 0 x 0 (λ q. absurd (omega (arith, q))))
        (subst (λ (z : List Planned). ArePlanned code n stands.net stands.role (λ e. state_at (slice_index ws1 (state_word_of (length code.first) e))) infos1 (λ e. slice_index ws1 (number_word_of (length code.first) e)) z) (sym (map-set (λ (z : SeatView). planned_of z.known) views id (record { known = l })))
        (subst (λ (z : ℕ → ℕ). ArePlanned code n stands.net stands.role (λ e. state_at (slice_index ws1 (state_word_of (length code.first) e))) infos1 z (set (planned_by views) id (planned_of l))) (λ i e. sym (numbers1 e) i)
        (subst (λ (z : ℕ → EntryState). ArePlanned code n stands.net stands.role z infos1 k.cell_of (set (planned_by views) id (planned_of l))) (λ i e. state_at (sym (states1 e) i)) p)))
        (subst (λ (z : Parts (Box Job)). FieldAt (asks code) (code_main code fuel) code.first (is_job_of code stands.before) n stands.net stands.gave stands.role z (set (sights_of views) id (sight_of l))) parts1 (rule_filled infos1 k.cell_of else1 (λ j ne. refl)))

    -- the number of the cell
    abbrev pub ws2 : List ℕ
    ws2 = set ws (number_word_of (length code.first) y.entry) x

    abbrev pub cells2 : ℕ → ℕ
    cells2 = λ e. slice_index (set ws (number_word_of (length code.first) y.entry) x) (number_word_of (length code.first) e)

    states2 : (e : ℕ) → slice_index ws2 (state_word_of (length code.first) e) ≡ slice_index ws (state_word_of (length code.first) e)
    states2 e = get_or-set_other ws (number_word_of (length code.first) y.entry) (state_word_of (length code.first) e) x 0 (λ q. absurd (omega (arith, q)))

    infos2 : (e : ℕ) → slice_index ws2 (info_word_of (length code.first) e) ≡ slice_index ws (info_word_of (length code.first) e)
    infos2 e = get_or-set_other ws (number_word_of (length code.first) y.entry) (info_word_of (length code.first) e) x 0 (λ q. absurd (omega (arith, q)))

    values2 : (e : ℕ) → slice_index ws2 (value_word_of (length code.first) e) ≡ slice_index ws (value_word_of (length code.first) e)
    values2 e = get_or-set_other ws (number_word_of (length code.first) y.entry) (value_word_of (length code.first) e) x 0 (λ q. absurd (omega (arith, q)))

    counts2 : (e : ℕ) → slice_index ws2 (count_word_of (length code.first) e) ≡ slice_index ws (count_word_of (length code.first) e)
    counts2 e = get_or-set_other ws (number_word_of (length code.first) y.entry) (count_word_of (length code.first) e) x 0 (λ q. absurd (omega (arith, q)))

    bodies2 : (e : ℕ) → slice_index ws2 (body_word_of (length code.first) e) ≡ slice_index ws (body_word_of (length code.first) e)
    bodies2 e = get_or-set_other ws (number_word_of (length code.first) y.entry) (body_word_of (length code.first) e) x 0 (λ q. absurd (omega (arith, q)))

    here2 : cells2 y.entry ≡ x
    here2 = get_or-set_same ws (number_word_of (length code.first) y.entry) x 0 (let s = stands.size in let i = inside in omega (arith, s, i))

    else2 : (j : ℕ) → j ≢ y.entry → cells2 j ≡ k.cell_of j
    else2 j ne = get_or-set_other ws (number_word_of (length code.first) y.entry) (number_word_of (length code.first) j) x 0 (λ q. ne (omega (arith, q)))

    parts2 : ◌≡◌ {A = Parts (Box Job)} (record k { states = k.states; infos = k.infos; cell_of = cells2 }) (parts_of (length code.first) ws2 homes stands.cells)
    parts2 = λ i. record {
      states = λ e. state_at (sym (states2 e) i);
      infos = λ e. info_at (sym (infos2 e) i);
      values = λ e. sym (values2 e) i;
      cell_of = cells2;
      counts = λ e. sym (counts2 e) i;
      bodies = λ e. sym (bodies2 e) i;
      jobs = λ e. job_in (get_elem? homes e);
      cells = stands.cells;
    }

    told2 : (z : Unlinked) → z.entry ≡ y.entry → IsLoose stands.net stands.role k.states k.infos k.cell_of v.known.plans z → IsLoose stands.net stands.role k.states k.infos cells2 v.known.plans (with_cell x z)
    told2 z same l = record {
      plan = l.plan;
      among = l.among;
      task = l.task;
      it = l.it;
      is = l.is;
      of_task = l.of_task;
      loose = l.loose;
      state = l.state;
      info = l.info;
      cell = λ c q. ap cells2 same ∙ (here2 ∙ some_is x c q);
    }

    cell_stands : Stands code fuel n (set ws (number_word_of (length code.first) y.entry) x) homes (set views id (record { known = told_cell (length code.first) y.entry x v.known }))
    cell_stands =
        let l : Known = told_cell (length code.first) y.entry x v.known in
        let p = planned_filled code n stands.net stands.role k.states k.infos k.cell_of (planned_by views) stands.planned id (planned_of v.known) planned_at y among k.states k.infos cells2 (with_cell x) (λ j ne. refl) (λ j ne. refl) else2 (λ z. refl) told2 in
        next_stands code fuel n ws homes views stands id v l sits refl refl refl (stands.told id v sits) ws2 homes stands.cells (length-set ws (number_word_of (length code.first) y.entry) x ∙ stands.size) stands.slots stands.sized
        (λ c low. get_or-set_other ws (number_word_of (length code.first) y.entry) (cell_word c) x 0 (λ q. absurd (omega (arith, q, low))) ∙ stands.cell_words c low)
        (λ e low z. stands.empty e low (sym (bodies2 e) ∙ z)) states2 (λ j hangs. infos2 j) (λ j left. values2 j) (get_or-set_other ws (number_word_of (length code.first) y.entry) 0 x 0 (λ q. absurd (omega (arith, q))))
        (subst (λ (z : List Planned). ArePlanned code n stands.net stands.role (λ e. state_at (slice_index ws2 (state_word_of (length code.first) e))) (λ e. info_at (slice_index ws2 (info_word_of (length code.first) e))) cells2 z) (sym (map-set (λ (z : SeatView). planned_of z.known) views id (record { known = l })))
        (subst (λ (z : ℕ → EntryInfo). ArePlanned code n stands.net stands.role (λ e. state_at (slice_index ws2 (state_word_of (length code.first) e))) z cells2 (set (planned_by views) id (planned_of l))) (λ i e. info_at (sym (infos2 e) i))
        (subst (λ (z : ℕ → EntryState). ArePlanned code n stands.net stands.role z k.infos cells2 (set (planned_by views) id (planned_of l))) (λ i e. state_at (sym (states2 e) i)) p)))
        (subst (λ (z : Parts (Box Job)). FieldAt (asks code) (code_main code fuel) code.first (is_job_of code stands.before) n stands.net stands.gave stands.role z (set (sights_of views) id (sight_of l))) parts2 (rule_filled k.infos cells2 (λ j ne. refl) else2))

  pub fills_info : Steps code fuel n id v (info_word_of (length code.first) y.entry) (λ z. x) (λ z l. l ≡ told_info (length code.first) y.entry x v.known)
  fills_info ws homes views stands sits bits = (told_info (length code.first) y.entry x v.known, info_stands ws homes views stands sits, refl)

  pub fills_cell : Steps code fuel n id v (number_word_of (length code.first) y.entry) (λ z. x) (λ z l. l ≡ told_cell (length code.first) y.entry x v.known)
  fills_cell ws homes views stands sits bits = (told_cell (length code.first) y.entry x v.known, cell_stands ws homes views stands sits, refl)
