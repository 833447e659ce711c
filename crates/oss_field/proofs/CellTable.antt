-- The table after the word of a cell is written.
use Rattle.std.proofs.Common.{◌≡◌, inl, inr, sym, subst, ◌∙◌, ap, ℕ, ◌<◌, ◌+◌, ◌*◌, arith, List, length, set}
use Rattle.std.specs.Prelude.{slice_index}
use Rattle.std.specs.Global.{Box}
use mathlib.Core.Option as maybe
use lib.ListN.{get_elem?}
use Rattle.std.proofs.lemmas.Bool.Decides.{eqb_tells}
use Rattle.std.proofs.lemmas.List.{get_or-set_same, get_or-set_other, length-set}
use Rattle.oss_body.specs.Mains.{code_main}
use Rattle.oss_code.specs.declared.code.CodeParts.{CodeParts}
use Rattle.oss_jobs.specs.declared.job.Job.{Job}
use Rattle.oss_machine.specs.Machines.{asks}
use Rattle.oss_words.specs.Bits.{state_at, info_at}
use Rattle.oss_words.specs.Views.{Among}
use Rattle.oss_roles.specs.Field.{FieldAt, Parts}
use Rattle.oss_field.specs.declared.view.SeatView.{SeatView}
use Rattle.oss_field.specs.Known.{Holding, Known, sight_of}
use Rattle.oss_field.specs.Layout.{job_in, cell_word, state_word_of, parts_of}
use Rattle.oss_field.specs.Plans.{Prepared, prepared_of}
use Rattle.oss_field.specs.Table.{Slot, is_job_of, planned_by, sights_of, Stands}
use Rattle.oss_field.proofs.TableLemmas.{next_stands, plans_same, plans_stand}

module _ (code : CodeParts) (fuel n id : ℕ) (v : SeatView) (cell : ℕ) (small : cell < length code.first) where
  -- a table in which the word of the cell is written
  module _ (ws : List ℕ) (homes : List (maybe.Option Slot)) (views : List SeatView) (stands : Stands code fuel n ws homes views) (value : ℕ) where
    abbrev ws' : List ℕ
    ws' = set ws (cell_word cell) value

    abbrev cells' : List ℕ
    cells' = set stands.cells cell value

    in_table : cell_word cell < length ws
    in_table = let s = stands.size in omega (arith, s, small)

    beside : (e p : ℕ) → slice_index ws' (1 + length code.first + 6 * e + p) ≡ slice_index ws (1 + length code.first + 6 * e + p)
    beside e p = get_or-set_other ws (cell_word cell) (1 + length code.first + 6 * e + p) value 0 (λ q. absurd (omega (arith, q, small)))

    states_beside : (e : ℕ) → slice_index ws' (state_word_of (length code.first) e) ≡ slice_index ws (state_word_of (length code.first) e)
    states_beside e = get_or-set_other ws (cell_word cell) (state_word_of (length code.first) e) value 0 (λ q. absurd (omega (arith, q, small)))

    cells_now : (c : ℕ) → c < length code.first → slice_index ws' (cell_word c) ≡ slice_index cells' c
    cells_now c low = elim (eqb_tells c cell) [
      | inl h ↦
          let a = get_or-set_same ws (cell_word cell) value 0 in_table in
          let b = get_or-set_same stands.cells cell value 0 (let s = stands.sized in omega (arith, s, small)) in
          subst (λ (z : ℕ). slice_index ws' (cell_word z) ≡ slice_index cells' z) (sym h.1) (a ∙ sym b)
      | inr h ↦ get_or-set_other ws (cell_word cell) (cell_word c) value 0 (λ q. h.1 (omega (arith, q))) ∙ stands.cell_words c low ∙ sym (get_or-set_other stands.cells cell c value 0 (λ q. h.1 (omega (arith, q))))
    ]

    parts_now : ◌≡◌ {A = Parts (Box Job)} (record (parts_of (length code.first) ws homes stands.cells) { cells = cells' }) (parts_of (length code.first) ws' homes cells')
    parts_now = λ i. record {
      states = λ e. state_at (sym (states_beside e) i);
      infos = λ e. info_at (sym (beside e 1) i);
      values = λ e. sym (beside e 2) i;
      cell_of = λ e. sym (beside e 3) i;
      counts = λ e. sym (beside e 4) i;
      bodies = λ e. sym (beside e 5) i;
      jobs = λ e. job_in (get_elem? homes e);
      cells = cells';
    }

    pub cell_stands : (l : Known) (sits : get_elem? views id ≡ maybe.some v) → l.words ≡ v.known.words → prepared_of l ≡ prepared_of v.known → ((h : Holding) → Among h l.bears → stands.before h.number ≡ h.before)
        → FieldAt (asks code) (code_main code fuel) code.first (is_job_of code stands.before) n stands.net stands.gave stands.role (record (parts_of (length code.first) ws homes stands.cells) { cells = set stands.cells cell value }) (set (sights_of views) id (sight_of l))
        → Stands code fuel n (set ws (cell_word cell) value) homes (set views id (record { known = l }))
    cell_stands l sits words drawn told rule = next_stands code fuel n ws homes views stands id v l sits words (ap (λ (z : Prepared). z.drawn) drawn) (ap (λ (z : Prepared). z.heard) drawn) told ws' homes cells'
        (length-set ws (cell_word cell) value ∙ stands.size) stands.slots (length-set stands.cells cell value ∙ stands.sized)
        cells_now (λ e low z. stands.empty e low (sym (beside e 5) ∙ z)) states_beside (λ e hangs. beside e 1) (λ e left. beside e 2)
        (get_or-set_other ws (cell_word cell) 0 value 0 (λ q. absurd (omega (arith, q))))
        (plans_stand code n stands.net stands.role ws ws' (planned_by views) (planned_by (set views id (record { known = l }))) states_beside (λ e. beside e 1) (λ e. beside e 3) (plans_same views id v l sits (ap (λ (z : Prepared). z.planned) drawn)) stands.planned)
        (subst (λ (z : Parts (Box Job)). FieldAt (asks code) (code_main code fuel) code.first (is_job_of code stands.before) n stands.net stands.gave stands.role z (set (sights_of views) id (sight_of l))) parts_now rule)
