-- The value that was left in an entry is combined into its cell, by the law of joins.
use Rattle.std.proofs.Common.{◌≡◌, ◌≢◌, sym, subst, refl, ◌∙◌, ap, ℕ, List, [], ◌∷◌, length, set, Option}
use Rattle.std.specs.Prelude.{slice_index}
use Rattle.std.specs.Global.{Box}
use mathlib.Core.Option as maybe
use lib.ListN.{get_elem?}
use Rattle.oss_body.specs.Mains.{code_main}
use Rattle.oss_code.specs.declared.code.CodeParts.{CodeParts}
use Rattle.oss_jobs.specs.declared.job.Job.{Job}
use Rattle.oss_machine.specs.Frames.{CodeScript}
use Rattle.oss_machine.specs.Machines.{asks}
use Rattle.oss_model.specs.Moves.{combine}
use Rattle.oss_syntax.specs.declared.access.Op.{Op}
use Rattle.oss_words.specs.declared.entry.EntryInfo.{EntryInfo}
use Rattle.oss_words.specs.Bits.{info_at}
use Rattle.oss_words.specs.Net.{Net, apart}
use Rattle.oss_words.specs.Views.{Among}
use Rattle.oss_roles.specs.Field.{Field, FieldAt, Parts}
use Rattle.oss_roles.specs.Roles.{Role}
use Rattle.oss_roles.proofs.WordClaims.{joins_keep}
use Rattle.oss_field.specs.declared.view.SeatView.{SeatView}
use Rattle.oss_field.specs.Folding.{MayCombine, combined}
use Rattle.oss_field.specs.Known.{Known, sight_of}
use Rattle.oss_field.specs.Layout.{cell_word, parts_of}
use Rattle.oss_field.specs.Marks.{cell_is, value_is}
use Rattle.oss_field.specs.Steps.{Steps}
use Rattle.oss_field.specs.Table.{Slot, is_job_of, sights_of, Stands}
use Rattle.oss_field.proofs.CellTable.{cell_stands}
use Rattle.oss_field.proofs.HearLemmas.{told_hangs}
use Rattle.oss_field.proofs.TableLemmas.{chained, sits_at}

module _ (code : CodeParts) (fuel n id : ℕ) (v : SeatView) (e w : ℕ) (op : Op) (cell value : ℕ) (may : MayCombine (length code.first) v.known e w op cell value) where
  module _ (ws : List ℕ) (homes : List (maybe.Option Slot)) (views : List SeatView) (stands : Stands code fuel n ws homes views) (sits : get_elem? views id ≡ maybe.some v) where
    abbrev k : Parts (Box Job)
    k = parts_of (length code.first) ws homes stands.cells

    abbrev f : Field (asks code) (code_main code fuel) code.first (is_job_of code stands.before) n k (sights_of views)
    f = stands.rule.field

    abbrev x : ℕ
    x = slice_index ws (cell_word cell)

    abbrev l : Known
    l = combined e cell (slice_index ws (cell_word cell)) v.known

    -- what is kept of the entry is so
    number_is : k.cell_of e ≡ cell
    number_is =
        let m = stands.marked.each id v sits (record { entry = e; fact = cell_is cell }) may.number in
        f.numbered e cell m.fact.0 (ap (λ (z : ℕ → Option Role). z e) stands.rule.same_role ∙ m.fact.1) (subst (λ (z : Net). z.place e ≢ apart) (sym stands.rule.same_net) m.hangs) m.fact.2

    value_left : k.values e ≡ value
    value_left = (stands.marked.each id v sits (record { entry = e; fact = value_is value }) may.left).fact

    none : (z : ℕ) → Among z v.known.joined → z ≡ e → ⊥
    none z a q = nothing z (subst (λ (y : List ℕ). Among z y) may.unjoined a)
      where
        nothing : (y : ℕ) → Among y [] → ⊥
        nothing y b = elim b [ ]

    abbrev After : ℕ → Type 0
    After y = FieldAt (asks code) (code_main code fuel) code.first (is_job_of code stands.before) n stands.net stands.gave stands.role (record (parts_of (length code.first) ws homes stands.cells) { cells = set stands.cells cell y }) (set (sights_of views) id (sight_of (combined e cell (slice_index ws (cell_word cell)) v.known)))

    rule : After (combine op x value)
    rule = subst After (λ i. combine op (sym (stands.cell_words cell may.inside) i) (value_left i)) (chained stands
        (joins_keep CodeScript (Box Job) (is_job_of code stands.before) (asks code) (code_main code fuel) code.first n k (sights_of views) f id (sight_of v.known) (sight_of l) e cell op (record {
          sits = sits_at views id v sits;
          held = may.held;
          others = none;
          number = number_is;
          mode = ap (λ (z : EntryInfo). z.mode) (told_hangs code fuel n ws homes views stands id v sits e (info_at w) may.told).1 ∙ may.mode;
          view = record { bears = refl; makes = refl; words = refl; owes = refl; ready = refl; loaded = refl; seen = refl; still = refl; joined = ap (λ (z : List ℕ). e ∷ z) (sym may.unjoined) };
        })))

    combined_stands : Stands code fuel n (set ws (cell_word cell) (combine op x value)) homes (set views id (record { known = l }))
    combined_stands = cell_stands code fuel n id v cell may.inside ws homes views stands (combine op x value) l sits refl refl (stands.told id v sits) rule

  pub combines : Steps code fuel n id v (cell_word cell) (λ y. combine op y value) (λ y z. z ≡ combined e cell y v.known)
  combines ws homes views stands sits bits = (combined e cell (slice_index ws (cell_word cell)) v.known, combined_stands ws homes views stands sits, refl)
