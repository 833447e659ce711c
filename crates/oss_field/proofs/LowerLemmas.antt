-- A count is lowered that is owed, by the law of count downs.
use Rattle.std.proofs.Common.{◌≡◌, ◌≢◌, ◌⊎◌, inl, inr, sym, subst, refl, ◌∙◌, ap, ℕ, ◌<◌, ◌+◌, ◌-◌, ◌%◌, ◌^◌, arith, Bool, true, false, List, [], ◌∷◌, length, set}
use Rattle.std.specs.Prelude.{slice_index, ◌==◌}
use Rattle.std.specs.Global.{Box}
use Rattle.std.proofs.lemmas.Bool.Decides.{eqb_tells}
use Rattle.std.proofs.lemmas.List.{get_or-set_same, get_or-set_other, length-set}
use mathlib.Core.Option as maybe
use lib.ListN.{get_elem?}
use Rattle.oss_body.specs.Mains.{code_main}
use Rattle.oss_code.specs.declared.code.CodeParts.{CodeParts}
use Rattle.oss_jobs.specs.declared.job.Job.{Job}
use Rattle.oss_machine.specs.Frames.{CodeScript}
use Rattle.oss_machine.specs.Machines.{asks}
use Rattle.oss_words.specs.declared.entry.EntryInfo.{EntryInfo}
use Rattle.oss_words.specs.Bits.{info_at, state_at}
use Rattle.oss_words.specs.Sums.{num}
use Rattle.oss_words.specs.Views.{Among}
use Rattle.oss_words.proofs.SumLemmas.{total_at}
use Rattle.oss_roles.specs.Field.{Field, FieldAt, Parts, times}
use Rattle.oss_roles.specs.Sights.{Sight}
use Rattle.oss_roles.proofs.WordClaims.{count_downs_keep}
use Rattle.oss_field.specs.declared.view.SeatView.{SeatView}
use Rattle.oss_field.specs.Known.{Known, sight_of}
use Rattle.oss_field.specs.Layout.{cell_word, state_word_of, info_word_of, value_word_of, number_word_of, count_word_of, body_word_of, parts_of, job_in}
use Rattle.oss_field.specs.Messages.{Lowers, lowered_by}
use Rattle.oss_field.specs.Steps.{Steps}
use Rattle.oss_field.specs.Table.{Slot, is_job_of, planned_by, sights_of, Stands}
use Rattle.oss_field.proofs.HearLemmas.{told_hangs}
use Rattle.oss_field.proofs.TableLemmas.{chained, next_stands, plans_same, plans_stand, sits_at}

mod_down : (x : ℕ) → 0 < x → x < 18446744073709551616 → (x + (2 ^ 64 - 1)) % 2 ^ 64 ≡ x - 1
mod_down x some small = omega (arith, some, small)

-- a table in which the count of the task t is y
module _ (code : CodeParts) (fuel n : ℕ) (ws : List ℕ) (homes : List (maybe.Option Slot)) (views : List SeatView) (stands : Stands code fuel n ws homes views) (t : ℕ) (inside : t < n) (y : ℕ) where
  abbrev ws' : List ℕ
  ws' = set ws (count_word_of (length code.first) t) y

  abbrev counts' : ℕ → ℕ
  counts' e = slice_index (set ws (count_word_of (length code.first) t) y) (count_word_of (length code.first) e)

  here : counts' t ≡ y
  here = get_or-set_same ws (count_word_of (length code.first) t) y 0 (let s = stands.size in omega (arith, s, inside))

  else_is : (e : ℕ) → e ≢ t → counts' e ≡ slice_index ws (count_word_of (length code.first) e)
  else_is e ne = get_or-set_other ws (count_word_of (length code.first) t) (count_word_of (length code.first) e) y 0 (λ q. ne (omega (arith, q)))

  states_same : (e : ℕ) → slice_index ws' (state_word_of (length code.first) e) ≡ slice_index ws (state_word_of (length code.first) e)
  states_same e = get_or-set_other ws (count_word_of (length code.first) t) (state_word_of (length code.first) e) y 0 (λ q. absurd (omega (arith, q)))

  infos_same : (e : ℕ) → slice_index ws' (info_word_of (length code.first) e) ≡ slice_index ws (info_word_of (length code.first) e)
  infos_same e = get_or-set_other ws (count_word_of (length code.first) t) (info_word_of (length code.first) e) y 0 (λ q. absurd (omega (arith, q)))

  values_same : (e : ℕ) → slice_index ws' (value_word_of (length code.first) e) ≡ slice_index ws (value_word_of (length code.first) e)
  values_same e = get_or-set_other ws (count_word_of (length code.first) t) (value_word_of (length code.first) e) y 0 (λ q. absurd (omega (arith, q)))

  numbers_same : (e : ℕ) → slice_index ws' (number_word_of (length code.first) e) ≡ slice_index ws (number_word_of (length code.first) e)
  numbers_same e = get_or-set_other ws (count_word_of (length code.first) t) (number_word_of (length code.first) e) y 0 (λ q. absurd (omega (arith, q)))

  bodies_same : (e : ℕ) → slice_index ws' (body_word_of (length code.first) e) ≡ slice_index ws (body_word_of (length code.first) e)
  bodies_same e = get_or-set_other ws (count_word_of (length code.first) t) (body_word_of (length code.first) e) y 0 (λ q. absurd (omega (arith, q)))

  parts_now : ◌≡◌ {A = Parts (Box Job)} (record (parts_of (length code.first) ws homes stands.cells) { counts = counts' }) (parts_of (length code.first) ws' homes stands.cells)
  parts_now = λ i. record {
    states = λ e. state_at (sym (states_same e) i);
    infos = λ e. info_at (sym (infos_same e) i);
    values = λ e. sym (values_same e) i;
    cell_of = λ e. sym (numbers_same e) i;
    counts = counts';
    bodies = λ e. sym (bodies_same e) i;
    jobs = λ e. job_in (get_elem? homes e);
    cells = stands.cells;
  }

  lowered_stands : (id : ℕ) (v : SeatView) → get_elem? views id ≡ maybe.some v → (x : ℕ)
      → FieldAt (asks code) (code_main code fuel) code.first (is_job_of code stands.before) n stands.net stands.gave stands.role
      (record (parts_of (length code.first) ws homes stands.cells) { counts = λ e. slice_index (set ws (count_word_of (length code.first) t) y) (count_word_of (length code.first) e) })
      (set (sights_of views) id (sight_of (lowered_by (length code.first) t x v.known)))
      → Stands code fuel n (set ws (count_word_of (length code.first) t) y) homes (set views id (record { known = lowered_by (length code.first) t x v.known }))
  lowered_stands id v sits x rule =
      let l : Known = lowered_by (length code.first) t x v.known in
      next_stands code fuel n ws homes views stands id v l sits refl refl refl (stands.told id v sits) ws' homes stands.cells
      (length-set ws (count_word_of (length code.first) t) y ∙ stands.size) stands.slots stands.sized
      (λ c low. get_or-set_other ws (count_word_of (length code.first) t) (cell_word c) y 0 (λ q. absurd (omega (arith, q, low))) ∙ stands.cell_words c low)
      (λ e low z. stands.empty e low (sym (bodies_same e) ∙ z))
      states_same (λ e hangs. infos_same e) (λ e left. values_same e)
      (get_or-set_other ws (count_word_of (length code.first) t) 0 y 0 (λ q. absurd (omega (arith, q))))
      (plans_stand code n stands.net stands.role ws ws' (planned_by views) (planned_by (set views id (record { known = l }))) states_same infos_same numbers_same (plans_same views id v l sits refl) stands.planned)
      (subst (λ (z : Parts (Box Job)). FieldAt (asks code) (code_main code fuel) code.first (is_job_of code stands.before) n stands.net stands.gave stands.role z (set (sights_of views) id (sight_of l))) parts_now rule)

module _ (code : CodeParts) (fuel n id : ℕ) (v : SeatView) (e : ℕ) (i : EntryInfo) (told : Among (record { entry = e; info = i }) v.known.told) (t : ℕ) (task : i.task ≡ t) (owes : v.known.owes ≡ t ∷ []) (inside : t < n) where
  one_each : (j : ℕ) → 0 + num (j == t) ≡ num (t == j) + 0
  one_each j = go (j == t) (t == j) (eqb_tells j t) (eqb_tells t j)
    where
      go : (a b : Bool) → ((a ≡ true) × (j ≡ t)) ⊎ ((a ≡ false) × (j ≢ t)) → ((b ≡ true) × (t ≡ j)) ⊎ ((b ≡ false) × (t ≢ j)) → 0 + num a ≡ num b + 0
      go true true p q = refl
      go false false p q = refl
      go true false (inl p) (inr q) = absurd (q.1 (sym p.1))
      go true false (inl p) (inl q) = absurd (let z : false ≡ true = q.0 in let bad : ⊥ = cc in bad)
      go true false (inr p) q = absurd (let z : true ≡ false = p.0 in let bad : ⊥ = cc in bad)
      go false true (inr p) (inl q) = absurd (p.1 (sym q.1))
      go false true (inr p) (inr q) = absurd (let z : true ≡ false = q.0 in let bad : ⊥ = cc in bad)
      go false true (inl p) q = absurd (let z : false ≡ true = p.0 in let bad : ⊥ = cc in bad)

  due : 0 < times t v.known.owes
  due = subst (λ (l : List ℕ). 0 < times t l) (sym owes) (pays (one_each t))
    where
      here : (z : ℕ) → num (z == z) ≡ 1
      here z = elim (eqb_tells z z) [ inl q ↦ ap num q.0 | inr q ↦ absurd (q.1 refl) ]

      pays : 0 + num (t == t) ≡ num (t == t) + 0 → 0 < num (t == t) + 0
      pays a = let b = here t in omega (arith, b)

  module _ (ws : List ℕ) (homes : List (maybe.Option Slot)) (views : List SeatView) (stands : Stands code fuel n ws homes views) (sits : get_elem? views id ≡ maybe.some v) where
    abbrev f : Field (asks code) (code_main code fuel) code.first (is_job_of code stands.before) n (parts_of (length code.first) ws homes stands.cells) (sights_of views)
    f = stands.rule.field

    -- the count is above 0
    some : 0 < slice_index ws (count_word_of (length code.first) t)
    some =
        let known = told_hangs code fuel n ws homes views stands id v sits e i told in
        let r = f.roles.hung e known.0 in
        let tells = f.roles.told e r.0 r.1 known.0 in
        let own = f.roles.number e r.0 r.1 in
        let same : r.0.task ≡ t = sym tells.2 ∙ (ap (λ (z : EntryInfo). z.task) known.1 ∙ task) in
        let count = f.counts.sum t own.0 (ap f.role (sym same) ∙ own.1) own.3 in
        let mine = total_at (λ (z : Sight CodeScript). times t z.owes) (sights_of views) id (sight_of v.known) (sits_at views id v sits) in
        let d = due in
        omega (arith, count, mine, d)

    lowers_to : (y : ℕ) → y + 1 ≡ slice_index ws (count_word_of (length code.first) t)
        → Stands code fuel n (set ws (count_word_of (length code.first) t) y) homes (set views id (record { known = lowered_by (length code.first) t (slice_index ws (count_word_of (length code.first) t)) v.known }))
    lowers_to y is =
        let x : ℕ = slice_index ws (count_word_of (length code.first) t) in
        let l : Known = lowered_by (length code.first) t x v.known in
        lowered_stands code fuel n ws homes views stands t inside y id v sits x (chained stands
        (count_downs_keep CodeScript (Box Job) (is_job_of code stands.before) (asks code) (code_main code fuel) code.first n (parts_of (length code.first) ws homes stands.cells) (sights_of views) f id (sight_of v.known) (sight_of l) t
        (λ j. slice_index (set ws (count_word_of (length code.first) t) y) (count_word_of (length code.first) j)) (record {
          sits = sits_at views id v sits;
          due = due;
          owes = λ j. subst (λ (z : List ℕ). 0 + num (j == t) ≡ times j z) (sym owes) (one_each j);
          down = ap (λ (z : ℕ). z + 1) (here code fuel n ws homes views stands t inside y) ∙ is;
          others = else_is code fuel n ws homes views stands t inside y;
          words = refl;
          same = record { bears = refl; makes = refl; ready = refl; loaded = refl; joined = refl; seen = refl; still = refl };
        })))

  pub lowers : Steps code fuel n id v (count_word_of (length code.first) t) (λ x. (x + (2 ^ 64 - 1)) % 2 ^ 64) (λ x l. Lowers (length code.first) t x v.known l)
  lowers ws homes views stands sits bits =
      let x : ℕ = slice_index ws (count_word_of (length code.first) t) in
      let l : Known = lowered_by (length code.first) t x v.known in
      let more = some ws homes views stands sits in
      let down : (x + (2 ^ 64 - 1)) % 2 ^ 64 ≡ x - 1 = mod_down x more bits in (
        l,
        subst (λ (z : ℕ). Stands code fuel n (set ws (count_word_of (length code.first) t) z) homes (set views id (record { known = l }))) (sym down) (lowers_to ws homes views stands sits (x - 1) (omega (arith, more))),
        record { known = refl; some = more },
      )
