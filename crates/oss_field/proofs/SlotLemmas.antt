-- Counts that are read, jobs that are taken, and jobs that are put, each by its law.
use Rattle.std.proofs.Common.{◌≡◌, ◌≢◌, inl, inr, sym, subst, refl, ◌∙◌, ap, ℕ, zero, suc, ◌<◌, arith, Bool, true, ◌==◌, List, [], ◌∷◌, length, set}
use Rattle.std.specs.Prelude.{slice_index, map, Option, Some, None, IfNone, box_value}
use Rattle.std.specs.Global.{Box}
use mathlib.Core.Option as maybe
use lib.ListN.{get_elem?}
use prog.Atomic.{either}
use Rattle.std.proofs.lemmas.Bool.Decides.{eqb_tells}
use Rattle.std.proofs.lemmas.List.{get_or-set_same, get_or-set_other, length-set}
use Rattle.atomic_table.specs.Table.{State, Me, Act, Allows, Valid, keeps, takes, gives, rest, carried_after, stepped}
use Rattle.atomic_table.proofs.Lists.{set_here, set_else}
use Rattle.oss_body.specs.Mains.{code_main}
use Rattle.oss_code.specs.declared.code.CodeParts.{CodeParts}
use Rattle.oss_jobs.specs.declared.job.Job.{Job}
use Rattle.oss_jobs.specs.Jobs.{IsJob}
use Rattle.oss_machine.specs.Frames.{CodeScript}
use Rattle.oss_machine.specs.Machines.{asks}
use Rattle.oss_model.specs.Bodies.{Body, Start}
use Rattle.oss_model.specs.Context.{right_of}
use Rattle.oss_model.specs.Rights.{Holds}
use Rattle.oss_model.proofs.RecallLemmas.{right_in_memory}
use Rattle.oss_model.proofs.TreeLemmas.{starts_well}
use Rattle.oss_syntax.specs.declared.access.Mode.{Mode}
use Rattle.oss_ranges.specs.declared.piece.Piece.{Piece}
use Rattle.oss_ranges.specs.Cells.{value_at}
use Rattle.oss_jobs.specs.Entries.{entry_told}
use Rattle.oss_words.specs.Bits.{state_at, info_at}
use Rattle.oss_words.specs.Views.{Among, among_first, among_later}
use Rattle.oss_words.proofs.KeptLaw.{at_here}
use Rattle.oss_roles.specs.Field.{Field, FieldAt, Parts, Sits}
use Rattle.oss_roles.specs.JobSteps.{of_other}
use Rattle.oss_roles.specs.Roles.{Site, itself, on}
use Rattle.oss_roles.specs.Sights.{Bearing, Sight, Telling}
use Rattle.oss_roles.proofs.JobClaims.{own_acts_keep}
use Rattle.oss_roles.proofs.MakeClaims.{takes_keep, puts_keep}
use Rattle.oss_roles.proofs.MoveLaw.{agrees}
use Rattle.oss_roles.proofs.WordClaims.{count_reads_keep, quiet_steps_keep}
use Rattle.oss_field.specs.declared.view.SeatView.{SeatView}
use Rattle.oss_field.specs.Known.{Holding, Known, bearing_of, last_of, sight_of}
use Rattle.oss_field.specs.Layout.{Home, job_in, cell_word, state_word_of, info_word_of, value_word_of, number_word_of, count_word_of, body_word_of, parts_of}
use Rattle.oss_field.specs.Moves.{loaded_beside, put_back, touched, with_body}
use Rattle.oss_field.specs.Plans.{Prepared, prepared_of}
use Rattle.oss_field.specs.Steps.{Steps}
use Rattle.oss_field.specs.Table.{Slot, is_job_of, planned_by, sights_of, Stands}
use Rattle.oss_field.specs.Taking.{IsPut, IsWithin, MayPut, Puts, Takes, after_count, after_miss, after_take}
use Rattle.oss_field.proofs.CellLemmas.{beside_is, job_goes}
use Rattle.oss_field.proofs.OwnLemmas.{borne, cell_filed}
use Rattle.oss_field.proofs.TableLemmas.{sits_at, then_at, chained, quiet_stands, next_stands, plans_same, plans_stand, read_stands}

-- the job that is told to stand in a slot stands there
job_in_is : {J : Type 0} (x : Home J) (j : J) → job_in x ≡ Some j → x ≡ maybe.some (maybe.some (Some j))
job_in_is (maybe.some (maybe.some x)) j h = ap (λ z. maybe.some (maybe.some z)) h
job_in_is (maybe.some maybe.none) j h = absurd (let z : None ≡ Some j = h in let bad : ⊥ = cc in bad)
job_in_is maybe.none j h = absurd (let z : None ≡ Some j = h in let bad : ⊥ = cc in bad)

-- a count is read
module _ (code : CodeParts) (fuel n id : ℕ) (v : SeatView) (t : ℕ) (inside : t < n) where
  module _ (ws : List ℕ) (homes : List (maybe.Option Slot)) (views : List SeatView) (stands : Stands code fuel n ws homes views) (sits : get_elem? views id ≡ maybe.some v) where
    count_stands : (x : ℕ) → slice_index ws (count_word_of (length code.first) t) ≡ x → Stands code fuel n ws homes (set views id (record { known = after_count (length code.first) t x v.known }))
    count_stands zero e = quiet_stands code fuel n ws homes views stands id v (after_count (length code.first) t 0 v.known) sits refl refl (stands.told id v sits) (chained stands
        (count_reads_keep CodeScript (Box Job) (is_job_of code stands.before) (asks code) (code_main code fuel) code.first n (parts_of (length code.first) ws homes stands.cells) (sights_of views) stands.rule.field
        id (sight_of v.known) (sight_of (after_count (length code.first) t 0 v.known)) t (record {
          sits = sits_at views id v sits;
          inside = inside;
          spent = e;
          ready = refl;
          seen = refl;
          still = refl;
          same = record { words = refl; bears = refl; makes = refl; loaded = refl; joined = refl; owes = refl };
        })))
    count_stands (suc x) e = quiet_stands code fuel n ws homes views stands id v (after_count (length code.first) t (suc x) v.known) sits refl refl (stands.told id v sits) (chained stands
        (quiet_steps_keep CodeScript (Box Job) (is_job_of code stands.before) (asks code) (code_main code fuel) code.first n (parts_of (length code.first) ws homes stands.cells) (sights_of views) stands.rule.field
        id (sight_of v.known) (sight_of (after_count (length code.first) t (suc x) v.known)) (sits_at views id v sits) (record {
          held = refl;
          half = refl;
          bears = refl;
          makes = refl;
          joined = refl;
          owes = refl;
          ready = λ u a. a;
          loaded = λ y a. a;
          seen = λ y a. a;
          still = λ y a. a;
        })))

  pub counts : Steps code fuel n id v (count_word_of (length code.first) t) (λ x. x) (λ x l. l ≡ after_count (length code.first) t x v.known)
  counts ws homes views stands sits bits =
      let i = count_word_of (length code.first) t in
      let x = slice_index ws i in (
        after_count (length code.first) t x v.known,
        read_stands code fuel n i ws homes (set views id (record { known = after_count (length code.first) t x v.known })) (count_stands ws homes views stands sits x refl),
        refl,
      )

-- a table in which the body word of t and its slot are new
module _ (code : CodeParts) (fuel n : ℕ) (ws : List ℕ) (homes : List (maybe.Option Slot)) (views : List SeatView) (stands : Stands code fuel n ws homes views) (t : ℕ) (inside : t < n) (x : ℕ) (home' : maybe.Option Slot) where
  abbrev m : ℕ
  m = length code.first

  abbrev ws' : List ℕ
  ws' = set ws (body_word_of (length code.first) t) x

  abbrev homes' : List (maybe.Option Slot)
  homes' = set homes t home'

  pub here : slice_index ws' (body_word_of (length code.first) t) ≡ x
  here = get_or-set_same ws (body_word_of (length code.first) t) x 0 (let s = stands.size in omega (arith, s, inside))

  states_same : (e : ℕ) → slice_index ws' (state_word_of (length code.first) e) ≡ slice_index ws (state_word_of (length code.first) e)
  states_same e = get_or-set_other ws (body_word_of (length code.first) t) (state_word_of (length code.first) e) x 0 (λ q. absurd (omega (arith, q)))

  infos_same : (e : ℕ) → slice_index ws' (info_word_of (length code.first) e) ≡ slice_index ws (info_word_of (length code.first) e)
  infos_same e = get_or-set_other ws (body_word_of (length code.first) t) (info_word_of (length code.first) e) x 0 (λ q. absurd (omega (arith, q)))

  values_same : (e : ℕ) → slice_index ws' (value_word_of (length code.first) e) ≡ slice_index ws (value_word_of (length code.first) e)
  values_same e = get_or-set_other ws (body_word_of (length code.first) t) (value_word_of (length code.first) e) x 0 (λ q. absurd (omega (arith, q)))

  numbers_same : (e : ℕ) → slice_index ws' (number_word_of (length code.first) e) ≡ slice_index ws (number_word_of (length code.first) e)
  numbers_same e = get_or-set_other ws (body_word_of (length code.first) t) (number_word_of (length code.first) e) x 0 (λ q. absurd (omega (arith, q)))

  counts_same : (e : ℕ) → slice_index ws' (count_word_of (length code.first) e) ≡ slice_index ws (count_word_of (length code.first) e)
  counts_same e = get_or-set_other ws (body_word_of (length code.first) t) (count_word_of (length code.first) e) x 0 (λ q. absurd (omega (arith, q)))

  pub bodies_else : (e : ℕ) → e ≢ t → slice_index ws' (body_word_of (length code.first) e) ≡ slice_index ws (body_word_of (length code.first) e)
  bodies_else e ne = get_or-set_other ws (body_word_of (length code.first) t) (body_word_of (length code.first) e) x 0 (λ q. ne (omega (arith, q)))

  pub jobs_else : (e : ℕ) → e ≢ t → job_in (get_elem? homes' e) ≡ job_in (get_elem? homes e)
  jobs_else e ne = ap (λ (z : Home (Box Job)). job_in z) (set_else homes t e home' ne)

  parts_now : ◌≡◌ {A = Parts (Box Job)} (record (parts_of (length code.first) ws homes stands.cells) { bodies = (parts_of (length code.first) ws' homes' stands.cells).bodies; jobs = (parts_of (length code.first) ws' homes' stands.cells).jobs }) (parts_of (length code.first) ws' homes' stands.cells)
  parts_now = λ i. record {
    states = λ e. state_at (sym (states_same e) i);
    infos = λ e. info_at (sym (infos_same e) i);
    values = λ e. sym (values_same e) i;
    cell_of = λ e. sym (numbers_same e) i;
    counts = λ e. sym (counts_same e) i;
    bodies = λ e. slice_index ws' (body_word_of (length code.first) e);
    jobs = λ e. job_in (get_elem? homes' e);
    cells = stands.cells;
  }

  pub slot_stands : (id : ℕ) (v : SeatView) (l : Known) → get_elem? views id ≡ maybe.some v → l.words ≡ v.known.words → prepared_of l ≡ prepared_of v.known → ((h : Holding) → Among h l.bears → stands.before h.number ≡ h.before)
      → (x ≡ 0 → ⊥)
      → FieldAt (asks code) (code_main code fuel) code.first (is_job_of code stands.before) n stands.net stands.gave stands.role
      (record (parts_of (length code.first) ws homes stands.cells) { bodies = (parts_of (length code.first) ws' homes' stands.cells).bodies; jobs = (parts_of (length code.first) ws' homes' stands.cells).jobs }) (set (sights_of views) id (sight_of l))
      → Stands code fuel n (set ws (body_word_of (length code.first) t) x) (set homes t home') (set views id (record { known = l }))
  slot_stands id v l sits words drawn told some rule = next_stands code fuel n ws homes views stands id v l sits words (ap (λ (z : Prepared). z.drawn) drawn) (ap (λ (z : Prepared). z.heard) drawn) told ws' homes' stands.cells
      (length-set ws (body_word_of (length code.first) t) x ∙ stands.size) (length-set homes t home' ∙ stands.slots) stands.sized
      (λ c low. get_or-set_other ws (body_word_of (length code.first) t) (cell_word c) x 0 (λ q. absurd (omega (arith, q, low))) ∙ stands.cell_words c low)
      (λ e low z. elim (eqb_tells e t) [
        | inl h ↦ absurd (some (sym here ∙ (ap (λ (j : ℕ). slice_index ws' (body_word_of (length code.first) j)) (sym h.1) ∙ z)))
        | inr h ↦ set_else homes t e home' h.1 ∙ stands.empty e low (sym (bodies_else e h.1) ∙ z)
      ])
      states_same (λ e hangs. infos_same e) (λ e left. values_same e)
      (get_or-set_other ws (body_word_of (length code.first) t) 0 x 0 (λ q. absurd (omega (arith, q))))
      (plans_stand code n stands.net stands.role ws ws' (planned_by views) (planned_by (set views id (record { known = l }))) states_same infos_same numbers_same (plans_same views id v l sits (ap (λ (z : Prepared). z.planned) drawn)) stands.planned)
      (subst (λ (z : Parts (Box Job)). FieldAt (asks code) (code_main code fuel) code.first (is_job_of code stands.before) n stands.net stands.gave stands.role z (set (sights_of views) id (sight_of l))) parts_now rule)

-- a task whose job a seat holds is within the cells and the entries
pub within : (code : CodeParts) (main : Start CodeScript) (first : List ℕ) (is_job : Telling CodeScript (Box Job)) (n : ℕ) (k : Parts (Box Job)) (sights : List (Sight CodeScript)) (f : Field (asks code) main first is_job n k sights)
    (id : ℕ) (v : Known) (sits : Sits sights id (sight_of v)) (place : ℕ) (h : Holding) → get_elem? v.bears place ≡ maybe.some h → IsWithin (length first) n h
within code main first is_job n k sights f id v sits place h holds =
    let b = borne code n k sights f id v sits place h holds in
    let made = (agrees (asks code) main first f.state f.setting f.reached).made in
    let start = ap (λ (z : Body CodeScript). z.start) b.body in record {
      inside = λ c mode strong right. right_in_memory (asks code) main f.state first c h.path mode made f.setting.memory (record {
        task = b.task;
        at_ = b.at_;
        strong = strong;
        right = subst (λ (z : Start CodeScript). right_of z.context c ≡ Holds mode strong) (sym start) right;
      });
      strongly = subst (λ (z : Start CodeScript). (c : ℕ) (mode : Mode) (strong : Bool) → z.context.final ≡ true → right_of z.context c ≡ Holds mode strong → strong ≡ true) start
          (starts_well (asks code) main f.state f.setting.starts made h.path b.task b.at_).0;
      entries = λ number c mode strong right.
          let x = cell_filed code n k sights f id v sits place h holds number c mode strong right in
          let low = f.words.flow.words.inside x.0.entry x.0.hangs in
          subst (λ (z : ℕ). z < n) x.3 low;
      lasts = λ y o last. let a = b.last.some y o last in f.words.flow.words.inside o a.3;
    }

-- what a job keeps of its last children tells them
kept_lasts : (code : CodeParts) (before : List ℕ) (j : Job) (t : ℕ) (b : Body CodeScript) (last : Site → Option ℕ) (h : Holding) → IsJob code before j t b last → h.lasts ≡ j.lasts.pieces → h.last_child ≡ j.last_child → (y : Site) → last_of h y ≡ last y
kept_lasts code before j t b last h is lasts child itself = child ∙ is.last_child
kept_lasts code before j t b last h is lasts child (on c) = ap (λ (z : List (Piece ℕ)). entry_told (value_at z c) c) lasts ∙ is.lasts c

-- a job is taken
module _ (code : CodeParts) (fuel n slots id : ℕ) (v : SeatView) (c : List (ℕ × Slot)) (t : ℕ) (inside : t < n) (ready : Among t v.known.ready) where
  abbrev Tells : ℕ → Me Slot SeatView → Type 0
  Tells x w = Takes code fuel n (length code.first) t x (v, c) w

  abbrev i : ℕ
  i = body_word_of (length code.first) t

  -- what the seat and the table are once the word has become y
  abbrev Goal : State Slot SeatView → ℕ → ℕ → Type 0
  Goal z x y = (w : SeatView) × (a : Act Slot) × Valid z.homes c a × Stands code fuel n (stepped z i y id c w a).words (stepped z i y id c w a).homes (stepped z i y id c w a).views × Tells x (w, carried_after c a)

  module _ (z : State Slot SeatView) (stands : Stands code fuel n z.words z.homes z.views) (sits : get_elem? z.views id ≡ maybe.some v) where
    hits : slice_index z.words i ≡ 1 → Goal z (slice_index z.words i) 2
    hits one =
        let k = parts_of (length code.first) z.words z.homes stands.cells in
        let parts' = parts_of (length code.first) (set z.words i 2) (set z.homes t maybe.none) stands.cells in
        let gone : get_elem? (set z.homes t maybe.none) t ≡ maybe.some maybe.none = set_here z.homes t maybe.none (let s = stands.slots in omega (arith, s, inside)) in
        let f = stands.rule.field in
        let tk = takes_keep CodeScript (Box Job) (is_job_of code stands.before) (asks code) (code_main code fuel) code.first n k (sights_of z.views) f id (sight_of v.known) t parts'.bodies parts'.jobs (record {
          sits = sits_at z.views id v sits;
          found = ready;
          one = one;
          out = here code fuel n z.words z.homes z.views stands t inside 2 maybe.none;
          empty = ap (λ (y : Home (Box Job)). job_in y) gone;
          other_bodies = bodies_else code fuel n z.words z.homes z.views stands t inside 2 maybe.none;
          other_jobs = jobs_else code fuel n z.words z.homes z.views stands t inside 2 maybe.none;
        }) in
        let j : Box Job = tk.job in
        let h : Holding = record { number = t; path = tk.bearing.path; body = tk.bearing.body; before = stands.before t; lasts = (box_value j).lasts.pieces; last_child = (box_value j).last_child } in
        let lasts : (y : Site) → last_of h y ≡ tk.bearing.last y = kept_lasts code (stands.before t) (box_value j) t tk.bearing.body tk.bearing.last h tk.is refl refl in
        let same : bearing_of h ≡ tk.bearing = λ e. record { number = sym tk.number e; path = tk.bearing.path; body = tk.bearing.body; last = λ y. lasts y e } in
        let l : Known = after_take (length code.first) t h v.known in
        let w : SeatView = record { known = l } in
        let g = tk.keeps (sight_of l) (record { words = refl; makes = refl; ready = refl; joined = refl; owes = refl; seen = refl }) (ap (λ (y : Bearing CodeScript). y ∷ map bearing_of v.known.bears) same) refl refl in
        let has = g.field.borne id (sight_of l) (at_here (sights_of z.views) id (sight_of v.known) (sight_of l) (sits_at z.views id v sits)) 0 (bearing_of h) refl in
        let told : (u : Holding) → Among u (h ∷ v.known.bears) → stands.before u.number ≡ u.before = λ u a. elim a [ among_first p ↦ subst (λ (y : Holding). stands.before y.number ≡ y.before) p refl | among_later b ↦ stands.told id v sits u b ] in
        let rule = slot_stands code fuel n z.words z.homes z.views stands t inside 2 maybe.none id v l sits refl refl told (λ q. absurd (omega (arith, q))) (chained stands g) in (
          w,
          takes t (Some j),
          job_in_is (get_elem? z.homes t) j tk.stood,
          rule,
          (
            (λ q. (
              j,
              h,
              record {
                number = refl;
                is = subst (λ (y : Site → Option ℕ). IsJob code (stands.before t) (box_value j) t tk.bearing.body y) (λ e y. sym (lasts y) e) tk.is;
                state = g.field.state;
                reached = g.field.reached;
                task = has.task;
                at_ = has.at_;
                body = has.body;
                ready = has.ready;
              },
              within code (code_main code fuel) code.first (is_job_of code stands.before) n (record k { bodies = parts'.bodies; jobs = parts'.jobs }) (set (sights_of z.views) id (sight_of l)) g.field id l (at_here (sights_of z.views) id (sight_of v.known) (sight_of l) (sits_at z.views id v sits)) 0 h refl,
              refl,
              refl,
            )),
            (λ q. absurd (q one)),
          ),
        )

    misses : slice_index z.words i ≢ 1 → Goal z (slice_index z.words i) (slice_index z.words i)
    misses ne =
        let x = slice_index z.words i in
        let l : Known = after_miss (length code.first) t x v.known in
        let quiet = quiet_stands code fuel n z.words z.homes z.views stands id v l sits refl refl (stands.told id v sits) (chained stands
        (quiet_steps_keep CodeScript (Box Job) (is_job_of code stands.before) (asks code) (code_main code fuel) code.first n (parts_of (length code.first) z.words z.homes stands.cells) (sights_of z.views) stands.rule.field
        id (sight_of v.known) (sight_of l) (sits_at z.views id v sits) (record {
          held = refl;
          half = refl;
          bears = refl;
          makes = refl;
          joined = refl;
          owes = refl;
          ready = λ u a. a;
          loaded = λ y a. a;
          seen = λ y a. a;
          still = λ y a. a;
        }))) in (
          record { known = l },
          keeps,
          tt,
          read_stands code fuel n i z.words z.homes (set z.views id (record { known = l })) quiet,
          ((λ q. absurd (ne q)), (λ q. (refl, refl))),
        )

  pub takes_slot : Allows (λ (z : State Slot SeatView). Stands code fuel n z.words z.homes z.views) slots id (v, c) i (λ x. either (x == 1) 2 x) Tells
  takes_slot z stands size sits small = elim (eqb_tells (slice_index z.words i) 1) [
    | inl u ↦ subst (λ (b : Bool). Goal z (slice_index z.words i) (either b 2 (slice_index z.words i))) (sym u.0) (hits z stands sits u.1)
    | inr u ↦ subst (λ (b : Bool). Goal z (slice_index z.words i) (either b 2 (slice_index z.words i))) (sym u.0) (misses z stands sits u.1)
  ]

pub set_twice : {A : Type 0} (xs : List A) (i : ℕ) (a b : A) → set (set xs i a) i b ≡ set xs i b
set_twice [] i a b = refl
set_twice (x ∷ xs) zero a b = refl
set_twice (x ∷ xs) (suc i) a b = ap (λ (z : List _). x ∷ z) (set_twice xs i a b)

abbrev job_of : Box Job → Slot → Box Job
job_of x None = x
job_of x (Some k) = k

abbrev job_first : Box Job → List (ℕ × Slot) → Box Job
job_first x [] = x
job_first x (y ∷ ys) = job_of x y.1

pub first_job : (j : Box Job) {k : Box Job} {t u : ℕ} {c d : List (ℕ × Slot)} → ◌≡◌ {A = List (ℕ × Slot)} ((t, Some j) ∷ c) ((u, Some k) ∷ d) → j ≡ k
first_job j q = ap (job_first j) q

-- the job that was taken last is put
module _ (code : CodeParts) (fuel n slots id : ℕ) (v : SeatView) (c : List (ℕ × Slot)) (j : Box Job) (may : MayPut code (box_value j) v.known) (t : ℕ) (is : t ≡ may.holding.number) (inside : t < n) where
  abbrev h : Holding
  h = may.holding

  puts_stand : (z : State Slot SeatView) → Stands code fuel n z.words z.homes z.views → get_elem? z.views id ≡ maybe.some v
      → Stands code fuel n (set z.words (body_word_of (length code.first) t) 1) (set z.homes t (maybe.some (Some j))) (set z.views id (record { known = touched (body_word_of (length code.first) may.holding.number) 1 (put_back may.holding.number may.others v.known) }))
  puts_stand z stands sits =
      let k = parts_of (length code.first) z.words z.homes stands.cells in
      let parts' = parts_of (length code.first) (set z.words (body_word_of (length code.first) t) 1) (set z.homes t (maybe.some (Some j))) stands.cells in
      let f = stands.rule.field in
      let x = may.body in
      let k1 : Known = record v.known { bears = set v.known.bears 0 (with_body x h); loaded = loaded_beside h.number v.known.loaded } in
      let l : Known = touched (body_word_of (length code.first) h.number) 1 (put_back h.number may.others v.known) in
      let at = sits_at z.views id v sits in
      let g1 = own_acts_keep CodeScript (Box Job) (is_job_of code stands.before) (asks code) (code_main code fuel) code.first n k (sights_of z.views) f
      id (sight_of v.known) (sight_of k1) 0 (bearing_of h) (bearing_of (with_body x h)) x (record {
        with_job = record { sits = at; job = job_goes code (box_value j) v.known 0 h x may.given x refl k1 refl refl refl refl; alone = may.given.may };
        same = record { words = refl; owes = refl; seen = refl; still = refl };
        loaded = λ y a. let r = beside_is h.number v.known.loaded y a in of_other r.0 r.1;
        body = refl;
      }) in
      let full : get_elem? (set z.homes t (maybe.some (Some j))) t ≡ maybe.some (maybe.some (Some j)) = set_here z.homes t (maybe.some (Some j)) (let s = stands.slots in omega (arith, s, inside)) in
      let mine : stands.before h.number ≡ h.before = stands.told id v sits h (subst (λ (y : List Holding). Among h y) (sym may.bears) (among_first refl)) in
      let g2 = puts_keep CodeScript (Box Job) (is_job_of code stands.before) (asks code) (code_main code fuel) code.first n k (set (sights_of z.views) id (sight_of k1)) g1.field
      id (sight_of k1) (sight_of l) (bearing_of (with_body x h)) j parts'.bodies parts'.jobs (record {
        sits = at_here (sights_of z.views) id (sight_of v.known) (sight_of k1) at;
        same = record { words = refl; makes = refl; ready = refl; joined = refl; owes = refl; seen = refl };
        bears = ap (λ (y : List Holding). map bearing_of (set y 0 (with_body x h))) may.bears;
        is = subst (λ (y : List ℕ). IsJob code y (box_value j) h.number x (last_of h)) (sym mine) may.given.is;
        home = ap (λ (y : ℕ). slice_index (set z.words (body_word_of (length code.first) t) 1) (body_word_of (length code.first) y)) (sym is) ∙ here code fuel n z.words z.homes z.views stands t inside 1 (maybe.some (Some j));
        full = ap (λ (y : ℕ). job_in (get_elem? (set z.homes t (maybe.some (Some j))) y)) (sym is) ∙ ap (λ (y : Home (Box Job)). job_in y) full;
        other_bodies = λ e ne. bodies_else code fuel n z.words z.homes z.views stands t inside 1 (maybe.some (Some j)) e (λ q. ne (q ∙ is));
        other_jobs = λ e ne. jobs_else code fuel n z.words z.homes z.views stands t inside 1 (maybe.some (Some j)) e (λ q. ne (q ∙ is));
        makes = may.makes;
        loaded = λ y a. (a, (beside_is h.number v.known.loaded y a).1);
        still = λ y a. elim a [ ];
      }) in
      let told : (u : Holding) → Among u may.others → stands.before u.number ≡ u.before = λ u a. stands.told id v sits u (subst (λ (y : List Holding). Among u y) (sym may.bears) (among_later a)) in
      slot_stands code fuel n z.words z.homes z.views stands t inside 1 (maybe.some (Some j)) id v l sits refl refl told (λ q. absurd (omega (arith, q)))
      (subst (λ (y : List (Sight CodeScript)). FieldAt (asks code) (code_main code fuel) code.first (is_job_of code stands.before) n stands.net stands.gave stands.role (record k { bodies = parts'.bodies; jobs = parts'.jobs }) y)
      (set_twice (sights_of z.views) id (sight_of k1) (sight_of l)) (chained stands (then_at code g1 g2)))

  pub puts_slot : Allows (λ (z : State Slot SeatView). Stands code fuel n z.words z.homes z.views) slots id (v, (t, Some j) ∷ c) (body_word_of (length code.first) t) (λ _. 1)
      (λ _ w. Puts code (length code.first) (v, (t, Some j) ∷ c) w)
  puts_slot z stands size sits small =
      let l : Known = touched (body_word_of (length code.first) may.holding.number) 1 (put_back may.holding.number may.others v.known) in (
        record { known = l },
        gives,
        tt,
        puts_stand z stands sits,
        (λ u k d q. (subst (λ (y : Box Job). IsPut code (box_value y) (length code.first) v.known l) (first_job j q) (record { may = may; known = refl }), ap rest q)),
      )

-- what is in the slot that was taken last
abbrev pub first_slot : Slot → List (ℕ × Slot) → Slot
first_slot x [] = x
first_slot x (y ∷ ys) = y.1

-- what follows of no answer
pub if_none : {A : Type 0} {F G : Type 0} (r : Option A) → (F → G) → IfNone r F → IfNone r G
if_none None h p = h p
if_none (Some x) h p = tt

-- a count that is 0 is known to be
pub found_ready : (m t n : ℕ) (k l : Known) → l ≡ after_count m t n k → n ≡ 0 → Among t l.ready
found_ready m t n k l is zero_is = subst (λ (z : Known). Among t z.ready) (sym (is ∙ ap (λ (x : ℕ). after_count m t x k) zero_is)) (among_first refl)
