-- The table after a step that writes the value beside the state word of an entry.
use Rattle.std.proofs.Common.{◌≡◌, ◌≢◌, sym, subst, ◌∙◌, ap, ℕ, ◌<◌, arith, false, List, length, set}
use Rattle.std.specs.Prelude.{slice_index}
use Rattle.std.specs.Global.{Box}
use mathlib.Core.Option as maybe
use lib.ListN.{get_elem?}
use Rattle.std.proofs.lemmas.List.{get_or-set_same, get_or-set_other, length-set}
use Rattle.oss_body.specs.Mains.{code_main}
use Rattle.oss_code.specs.declared.code.CodeParts.{CodeParts}
use Rattle.oss_jobs.specs.declared.job.Job.{Job}
use Rattle.oss_machine.specs.Machines.{asks}
use Rattle.oss_words.specs.Bits.{info_at, state_at}
use Rattle.oss_words.specs.Views.{Among}
use Rattle.oss_words.proofs.CauseLemmas.{clash}
use Rattle.oss_roles.specs.Field.{FieldAt, Parts}
use Rattle.oss_field.specs.declared.view.SeatView.{SeatView}
use Rattle.oss_field.specs.Known.{Holding, Known, sight_of}
use Rattle.oss_field.specs.Layout.{job_in, cell_word, state_word_of, info_word_of, value_word_of, number_word_of, count_word_of, body_word_of, parts_of}
use Rattle.oss_field.specs.Plans.{Prepared, prepared_of}
use Rattle.oss_field.specs.Table.{Slot, is_job_of, planned_by, sights_of, Stands}
use Rattle.oss_field.proofs.TableLemmas.{next_stands, plans_same, plans_stand}

module _ (code : CodeParts) (fuel n : ℕ) (ws : List ℕ) (homes : List (maybe.Option Slot)) (views : List SeatView) (stands : Stands code fuel n ws homes views) (o : ℕ) (inside : o < n) (x : ℕ) where
  abbrev ws' : List ℕ
  ws' = set ws (value_word_of (length code.first) o) x

  abbrev pub values_after : ℕ → ℕ
  values_after e = slice_index (set ws (value_word_of (length code.first) o) x) (value_word_of (length code.first) e)

  pub value_here : values_after o ≡ x
  value_here = get_or-set_same ws (value_word_of (length code.first) o) x 0 (let s = stands.size in omega (arith, s, inside))

  pub value_else : (j : ℕ) → j ≢ o → values_after j ≡ slice_index ws (value_word_of (length code.first) j)
  value_else j ne = get_or-set_other ws (value_word_of (length code.first) o) (value_word_of (length code.first) j) x 0 (λ q. ne (omega (arith, q)))

  states_same : (e : ℕ) → slice_index ws' (state_word_of (length code.first) e) ≡ slice_index ws (state_word_of (length code.first) e)
  states_same e = get_or-set_other ws (value_word_of (length code.first) o) (state_word_of (length code.first) e) x 0 (λ q. absurd (omega (arith, q)))

  infos_same : (e : ℕ) → slice_index ws' (info_word_of (length code.first) e) ≡ slice_index ws (info_word_of (length code.first) e)
  infos_same e = get_or-set_other ws (value_word_of (length code.first) o) (info_word_of (length code.first) e) x 0 (λ q. absurd (omega (arith, q)))

  numbers_same : (e : ℕ) → slice_index ws' (number_word_of (length code.first) e) ≡ slice_index ws (number_word_of (length code.first) e)
  numbers_same e = get_or-set_other ws (value_word_of (length code.first) o) (number_word_of (length code.first) e) x 0 (λ q. absurd (omega (arith, q)))

  counts_same : (e : ℕ) → slice_index ws' (count_word_of (length code.first) e) ≡ slice_index ws (count_word_of (length code.first) e)
  counts_same e = get_or-set_other ws (value_word_of (length code.first) o) (count_word_of (length code.first) e) x 0 (λ q. absurd (omega (arith, q)))

  bodies_same : (e : ℕ) → slice_index ws' (body_word_of (length code.first) e) ≡ slice_index ws (body_word_of (length code.first) e)
  bodies_same e = get_or-set_other ws (value_word_of (length code.first) o) (body_word_of (length code.first) e) x 0 (λ q. absurd (omega (arith, q)))

  parts_now : ◌≡◌ {A = Parts (Box Job)} (record (parts_of (length code.first) ws homes stands.cells) { values = values_after }) (parts_of (length code.first) ws' homes stands.cells)
  parts_now = λ i. record {
    states = λ e. state_at (sym (states_same e) i);
    infos = λ e. info_at (sym (infos_same e) i);
    values = values_after;
    cell_of = λ e. sym (numbers_same e) i;
    counts = λ e. sym (counts_same e) i;
    bodies = λ e. sym (bodies_same e) i;
    jobs = λ e. job_in (get_elem? homes e);
    cells = stands.cells;
  }

  pub value_stands : (id : ℕ) (v : SeatView) (l : Known) → get_elem? views id ≡ maybe.some v → l.words ≡ v.known.words → prepared_of l ≡ prepared_of v.known → (state_at (slice_index ws (state_word_of (length code.first) o))).left ≡ false
      → ((h : Holding) → Among h l.bears → stands.before h.number ≡ h.before)
      → FieldAt (asks code) (code_main code fuel) code.first (is_job_of code stands.before) n stands.net stands.gave stands.role
      (record (parts_of (length code.first) ws homes stands.cells) { values = λ e. slice_index (set ws (value_word_of (length code.first) o) x) (value_word_of (length code.first) e) }) (set (sights_of views) id (sight_of l))
      → Stands code fuel n (set ws (value_word_of (length code.first) o) x) homes (set views id (record { known = l }))
  value_stands id v l sits words same unleft told rule =
      next_stands code fuel n ws homes views stands id v l sits words (ap (λ (z : Prepared). z.drawn) same) (ap (λ (z : Prepared). z.heard) same) told ws' homes stands.cells
      (length-set ws (value_word_of (length code.first) o) x ∙ stands.size) stands.slots stands.sized
      (λ c low. get_or-set_other ws (value_word_of (length code.first) o) (cell_word c) x 0 (λ q. absurd (omega (arith, q, low))) ∙ stands.cell_words c low)
      (λ e low z. stands.empty e low (sym (bodies_same e) ∙ z)) states_same (λ e hangs. infos_same e) (λ e left. value_else e (λ q. clash (ap (λ (z : ℕ). (state_at (slice_index ws (state_word_of (length code.first) z))).left) (sym q) ∙ left) unleft))
      (get_or-set_other ws (value_word_of (length code.first) o) 0 x 0 (λ q. absurd (omega (arith, q))))
      (plans_stand code n stands.net stands.role ws ws' (planned_by views) (planned_by (set views id (record { known = l }))) states_same infos_same numbers_same (plans_same views id v l sits (ap (λ (z : Prepared). z.planned) same)) stands.planned)
      (subst (λ (z : Parts (Box Job)). FieldAt (asks code) (code_main code fuel) code.first (is_job_of code stands.before) n stands.net stands.gave stands.role z (set (sights_of views) id (sight_of l))) parts_now rule)
