-- The count of a new task is filled: its entries have their roles from then on.
use Rattle.std.proofs.Common.{◌≡◌, ◌≢◌, ◌⊎◌, inl, inr, sym, subst, refl, ◌∙◌, ap, ℕ, ◌<◌, ◌≤◌, ◌+◌, arith, Bool, true, false, List, [], ◌∷◌, length, set, Option, Some, None}
use Rattle.std.specs.Prelude.{slice_index}
use Rattle.std.specs.Global.{Box}
use mathlib.Core.Option as maybe
use lib.ListN.{get_elem?}
use Rattle.std.proofs.lemmas.List.{get_or-set_same, get_or-set_other, length-set}
use Rattle.std.proofs.Math.Seq.{map-set}
use Rattle.atomic_table.specs.Seated.{TableId}
use Rattle.atomic_table.proofs.Lists.{at_map, at_set, set_again}
use Rattle.oss_body.specs.Mains.{code_main}
use Rattle.oss_code.specs.declared.code.CodeParts.{CodeParts}
use Rattle.oss_jobs.specs.declared.job.Job.{Job}
use Rattle.oss_machine.specs.Frames.{CodeScript}
use Rattle.oss_machine.specs.Machines.{asks}
use Rattle.oss_model.specs.Bodies.{Body, Order, Start}
use Rattle.oss_model.specs.Bodies.Act.{Created}
use Rattle.oss_model.specs.Context.{right_of}
use Rattle.oss_model.specs.Moves.{act_now, created_now, new_task}
use Rattle.oss_model.specs.Rights.{Right, Holds, Released}
use Rattle.oss_model.proofs.BodyLemmas.{stack_ok}
use Rattle.oss_model.proofs.RecallLemmas.{right_in_memory}
use Rattle.oss_model.proofs.StageLemmas.{creating}
use Rattle.oss_model.proofs.TreeLemmas.{covered_stage}
use Rattle.oss_syntax.specs.declared.access.Mode.{Mode}
use Rattle.oss_syntax.specs.declared.access.Mode.TheVariants.{Fold}
use Rattle.oss_syntax.specs.declared.access.Op.{Op}
use Rattle.oss_words.specs.declared.entry.EntryState.{EntryState}
use Rattle.oss_words.specs.Bits.{info_at, state_at, state_word}
use Rattle.oss_words.specs.Net.{Net, apart}
use Rattle.oss_words.specs.Sums.{below}
use Rattle.oss_words.specs.Views.{View, Among}
use Rattle.oss_words.proofs.KeptLaw.{at_here}
use Rattle.oss_roles.specs.Counting.{weight}
use Rattle.oss_roles.specs.Drawing.{AreDrawn, IsFree}
use Rattle.oss_roles.specs.Field.{Bears, Field, FieldAt, Parts, Sits, words_of}
use Rattle.oss_roles.specs.JobSteps.{of_other}
use Rattle.oss_roles.specs.Numbers.{entry_number}
use Rattle.oss_roles.specs.Roles.{Plans, Role, itself, on}
use Rattle.oss_roles.specs.Sights.{Bearing, Making, Sight, Telling}
use Rattle.oss_roles.proofs.DrawLaw.{plans_draw}
use Rattle.oss_roles.proofs.JobClaims.{own_acts_keep}
use Rattle.oss_roles.proofs.MakeClaims.{plans_keep}
use Rattle.oss_roles.proofs.MoveLaw.{agrees}
use Rattle.oss_roles.proofs.NumberLaw.{counts_are_of_cells}
use Rattle.oss_roles.proofs.OtherLaw.{words_set}
use Rattle.oss_roles.proofs.WordClaims.{new_paths_are_free}
use Rattle.oss_field.specs.declared.view.SeatView.{SeatView}
use Rattle.oss_field.specs.Asks.{AreInside}
use Rattle.oss_field.specs.Known.{Holding, Known, bearing_of, sight_of}
use Rattle.oss_field.specs.Layout.{job_in, cell_word, state_word_of, info_word_of, value_word_of, number_word_of, count_word_of, body_word_of, parts_of}
use Rattle.oss_field.specs.Making.{HasBegun, MayBegin, began, new_cells}
use Rattle.oss_field.specs.Moves.{loaded_beside, touched, with_body}
use Rattle.oss_field.specs.Plans.{begins_list, needs_flag, new_rights, planned_of, waits_for}
use Rattle.oss_field.specs.Standing.{carried}
use Rattle.oss_field.specs.Steps.{Steps}
use Rattle.oss_field.specs.Table.{AreSeats, Neat, Slot, Stands, is_job_of, planned_by, sights_of}
use Rattle.oss_field.proofs.ActLemmas.{carried_on, inside_after}
use Rattle.oss_field.proofs.CellLemmas.{beside_is, held_once, job_goes, told_on}
use Rattle.oss_field.proofs.HeardLemmas.{heard_same}
use Rattle.oss_field.proofs.MarkLemmas.{marked_on, stays_same}
use Rattle.oss_field.proofs.PlanLemmas.{Source, of_task, of_cell, of_old, at_cell, drawn_left, each_role, in_block, not_within, numbered, plans, role_on, source, strongly, with_roles}
use Rattle.oss_field.proofs.PlannedLemmas.{planned_now, role_inside}
use Rattle.oss_field.proofs.SlotLemmas.{set_twice}
use Rattle.oss_field.proofs.TableLemmas.{chained, plans_stand, sights_set, sits_at}

-- the cells to which a new task has a right are cells of the program
new_low : (code : CodeParts) (main : Start CodeScript) (first : List ℕ) (is_job : Telling CodeScript (Box Job)) (n : ℕ) (k : Parts (Box Job)) (sights : List (Sight CodeScript)) (f : Field (asks code) main first is_job n k sights)
    (id i : ℕ) (v : Sight CodeScript) (b : Bearing CodeScript) → Sits sights id v → Bears v i b → (order : Order CodeScript) → act_now (asks code) b.body ≡ Created order false
    → (c : ℕ) (mode : Mode) (strong : Bool) → new_rights code b.body order c ≡ Holds mode strong → c < length first
new_low code main first is_job n k sights f id i v b at has order act c mode strong right =
    let P = asks code in
    let mine = f.borne id v at i b has in
    let x = covered_stage P c mode strong (record { body = b.body; given = [] }) b.body.found order (creating P b.body.start b.body.found order act) (new_task P b.body order) refl right in
    let made = (agrees P main first f.state f.setting f.reached).made in
    right_in_memory P main f.state first c b.path x.mode made f.setting.memory (record {
      task = mine.task;
      at_ = mine.at_;
      strong = x.strong;
      right = ap (λ (z : Body CodeScript). right_of z.start.context c) mine.body ∙ held ((stack_ok P b.body.start b.body.found).right c) x.holds;
    })
  where
    held : {y now : Right} {k : Mode} {s : Bool} → (now ≡ y) ⊎ (now ≡ Released) → now ≡ Holds k s → y ≡ Holds k s
    held (inl e) h = sym e ∙ h
    held {k = k} {s = s} (inr e) h = absurd (let z : Released ≡ Holds k s = sym e ∙ h in let bad : ⊥ = cc in bad)

-- the views' words after a step of a seat that leaves its own
pub words_stay : (views : List SeatView) (id : ℕ) (v : SeatView) (l : Known) → get_elem? views id ≡ maybe.some v → l.words ≡ v.known.words → words_of (sights_of (set views id (record { known = l }))) ≡ words_of (sights_of views)
words_stay views id v l at words =
    ap (λ (z : List (Sight CodeScript)). words_of z) (sights_set views id l)
    ∙ (words_set (sights_of views) id (sight_of l)
    ∙ (ap (λ (z : View). set (words_of (sights_of views)) id z) words
    ∙ set_again (words_of (sights_of views)) id v.known.words (at_map (λ (z : Sight CodeScript). z.words) (sights_of views) id (sight_of v.known) (sits_at views id v at))))

-- a table in which a count word is new
module _ (code : CodeParts) (n : ℕ) (ws : List ℕ) (homes : List (maybe.Option Slot)) (cells : List ℕ) (t x : ℕ) where
  abbrev pub ws' : List ℕ
  ws' = set ws (count_word_of (length code.first) t) x

  pub states_same : (e : ℕ) → slice_index (set ws (count_word_of (length code.first) t) x) (state_word_of (length code.first) e) ≡ slice_index ws (state_word_of (length code.first) e)
  states_same e = get_or-set_other ws (count_word_of (length code.first) t) (state_word_of (length code.first) e) x 0 (λ q. absurd (omega (arith, q)))

  pub infos_same : (e : ℕ) → slice_index (set ws (count_word_of (length code.first) t) x) (info_word_of (length code.first) e) ≡ slice_index ws (info_word_of (length code.first) e)
  infos_same e = get_or-set_other ws (count_word_of (length code.first) t) (info_word_of (length code.first) e) x 0 (λ q. absurd (omega (arith, q)))

  pub values_same : (e : ℕ) → slice_index (set ws (count_word_of (length code.first) t) x) (value_word_of (length code.first) e) ≡ slice_index ws (value_word_of (length code.first) e)
  values_same e = get_or-set_other ws (count_word_of (length code.first) t) (value_word_of (length code.first) e) x 0 (λ q. absurd (omega (arith, q)))

  pub numbers_same : (e : ℕ) → slice_index (set ws (count_word_of (length code.first) t) x) (number_word_of (length code.first) e) ≡ slice_index ws (number_word_of (length code.first) e)
  numbers_same e = get_or-set_other ws (count_word_of (length code.first) t) (number_word_of (length code.first) e) x 0 (λ q. absurd (omega (arith, q)))

  pub bodies_same : (e : ℕ) → slice_index (set ws (count_word_of (length code.first) t) x) (body_word_of (length code.first) e) ≡ slice_index ws (body_word_of (length code.first) e)
  bodies_same e = get_or-set_other ws (count_word_of (length code.first) t) (body_word_of (length code.first) e) x 0 (λ q. absurd (omega (arith, q)))

  pub counts_else : (e : ℕ) → e ≢ t → slice_index (set ws (count_word_of (length code.first) t) x) (count_word_of (length code.first) e) ≡ slice_index ws (count_word_of (length code.first) e)
  counts_else e ne = get_or-set_other ws (count_word_of (length code.first) t) (count_word_of (length code.first) e) x 0 (λ q. ne (omega (arith, q)))

  pub cells_same : (c : ℕ) → c < length code.first → slice_index (set ws (count_word_of (length code.first) t) x) (cell_word c) ≡ slice_index ws (cell_word c)
  cells_same c low = get_or-set_other ws (count_word_of (length code.first) t) (cell_word c) x 0 (λ q. absurd (omega (arith, q, low)))

  pub draw_same : slice_index (set ws (count_word_of (length code.first) t) x) 0 ≡ slice_index ws 0
  draw_same = get_or-set_other ws (count_word_of (length code.first) t) 0 x 0 (λ q. absurd (omega (arith, q)))

  pub count_here : count_word_of (length code.first) t < length ws → slice_index (set ws (count_word_of (length code.first) t) x) (count_word_of (length code.first) t) ≡ x
  count_here low = get_or-set_same ws (count_word_of (length code.first) t) x 0 low

  pub parts_now : ◌≡◌ {A = Parts (Box Job)} (record (parts_of (length code.first) ws homes cells) { counts = (parts_of (length code.first) (set ws (count_word_of (length code.first) t) x) homes cells).counts })
      (parts_of (length code.first) (set ws (count_word_of (length code.first) t) x) homes cells)
  parts_now = λ i. record {
    states = λ e. state_at (sym (states_same e) i);
    infos = λ e. info_at (sym (infos_same e) i);
    values = λ e. sym (values_same e) i;
    cell_of = λ e. sym (numbers_same e) i;
    counts = λ e. slice_index (set ws (count_word_of (length code.first) t) x) (count_word_of (length code.first) e);
    bodies = λ e. sym (bodies_same e) i;
    jobs = λ e. job_in (get_elem? homes e);
    cells = cells;
  }

-- the count of a new task is filled
module _ (code : CodeParts) (fuel n id : ℕ) (v : SeatView) (job : Job) (t count : ℕ) (may : MayBegin code n job t count v.known) where
  abbrev h : Holding
  h = may.before.holding

  abbrev x : Body CodeScript
  x = may.before.body

  abbrev own : ℕ → Right
  own = new_rights code may.before.body may.order

  abbrev path : List ℕ
  path = created_now (asks code) may.before.body ∷ may.before.holding.path

  abbrev gone : Known
  gone = record v.known { bears = set v.known.bears may.before.place (with_body may.before.body may.before.holding); loaded = loaded_beside may.before.holding.number v.known.loaded }

  abbrev l : Known
  l = touched (count_word_of (length code.first) t) count (began may.before.place may.before.holding may.before.body may.order t (new_cells code may.before.body may.order) v.known)

  abbrev making : Making
  making = record { by = may.before.holding.number; task = t; stage = 0 }

  pos : t ≢ 0
  pos q = let a = may.above.number in omega (arith, a, q)

  module _ (ws : List ℕ) (homes : List (maybe.Option Slot)) (views : List SeatView) (stands : Stands code fuel n ws homes views) (sits : get_elem? views id ≡ maybe.some v) where
    abbrev k : Parts (Box Job)
    k = parts_of (length code.first) ws homes stands.cells

    abbrev role' : ℕ → Option Role
    role' = with_roles path t own (begins_list h) (length code.first) stands.role

    -- the job has gone on to the creation
    went : FieldAt (asks code) (code_main code fuel) code.first (is_job_of code stands.before) n stands.net stands.gave stands.role k (set (sights_of views) id (sight_of gone))
    went = chained stands (own_acts_keep CodeScript (Box Job) (is_job_of code stands.before) (asks code) (code_main code fuel) code.first n k (sights_of views) stands.rule.field
        id (sight_of v.known) (sight_of gone) may.before.place (bearing_of h) (bearing_of (with_body x h)) x (record {
          with_job = record { sits = sits_at views id v sits; job = job_goes code job v.known may.before.place h x may.before.given x refl gone refl refl refl refl; alone = may.before.given.may };
          same = record { words = refl; owes = refl; seen = refl; still = refl };
          loaded = λ y a. let r = beside_is h.number v.known.loaded y a in of_other r.0 r.1;
          body = refl;
        }))

    abbrev f : Field (asks code) (code_main code fuel) code.first (is_job_of code stands.before) n k (set (sights_of views) id (sight_of gone))
    f = went.field

    here : Sits (set (sights_of views) id (sight_of gone)) id (sight_of gone)
    here = at_here (sights_of views) id (sight_of v.known) (sight_of gone) (sits_at views id v sits)

    has : Bears (sight_of gone) may.before.place (bearing_of (with_body x h))
    has = at_map bearing_of gone.bears may.before.place (with_body x h) (at_here v.known.bears may.before.place h (with_body x h) may.before.given.holds)

    no_role : (e : ℕ) → t ≤ e → e < t + 1 + new_cells code x may.order → stands.role e ≡ None
    no_role e low high = stands.drawn.none id (sight_of v.known) (sits_at views id v sits) e (may.drawn e low high)

    hung : (e : ℕ) → stands.net.place e ≢ apart → (r : Role) × (stands.role e ≡ Some r)
    hung e ne =
        let r = f.roles.hung e (subst (λ (z : Net). z.place e ≢ apart) (sym went.same_net) ne) in
        (r.0, ap (λ (z : ℕ → Option Role). z e) (sym went.same_role) ∙ r.1)

    old_task : (e : ℕ) (r : Role) → stands.role e ≡ Some r → r.task ≢ t
    old_task e r is q =
        let o = f.roles.number e r (ap (λ (z : ℕ → Option Role). z e) went.same_role ∙ is) in
        let z : None ≡ Some o.0 = sym (no_role t (omega arith) (omega arith)) ∙ (ap (λ (z : ℕ → Option Role). z t) (sym went.same_role) ∙ (ap (λ (y : ℕ). f.role y) (sym q) ∙ o.1)) in
        cc

    fresh : (e : ℕ) (r : Role) → stands.role e ≡ Some r → ◌≢◌ {A = List ℕ} r.path (created_now (asks code) may.before.body ∷ may.before.holding.path)
    fresh e r is = new_paths_are_free CodeScript (Box Job) (is_job_of code stands.before) (asks code) (code_main code fuel) code.first n k (set (sights_of views) id (sight_of gone)) f
        id may.before.place (sight_of gone) (bearing_of (with_body x h)) e r here has may.makes (ap (λ (z : ℕ → Option Role). z e) went.same_role ∙ is)

    main : stands.role 0 ≡ None
    main = ap (λ (z : ℕ → Option Role). z 0) (sym went.same_role) ∙ f.roles.main

    low : (c : ℕ) (mode : Mode) (strong : Bool) → new_rights code may.before.body may.order c ≡ Holds mode strong → c < length code.first
    low = new_low code (code_main code fuel) code.first (is_job_of code stands.before) n k (set (sights_of views) id (sight_of gone)) f id may.before.place (sight_of gone) (bearing_of (with_body x h)) here has may.order may.before.act

    in_table : count_word_of (length code.first) t < length ws
    in_table = let s = stands.size in let i = may.inside in omega (arith, s, i)

    plans_of : Plans f.net f.role role' t path
    plans_of =
        subst (λ (z : ℕ → Option Role). Plans f.net z role' t path) (sym went.same_role)
        (subst (λ (z : Net). Plans z stands.role role' t path) (sym went.same_net)
        (plans path t own (begins_list h) (length code.first) stands.role stands.net hung no_role fresh old_task main pos (created_now (asks code) may.before.body) may.before.holding.path refl))

    -- what has a role keeps it
    old_role : (e : ℕ) (r : Role) → stands.role e ≡ Some r → role' e ≡ Some r
    old_role e r is = elim (plans_of.each e) [
      | inl q ↦ q ∙ (ap (λ (z : ℕ → Option Role). z e) went.same_role ∙ is)
      | inr q ↦ absurd (let z : None ≡ Some r = sym q.0 ∙ (ap (λ (z : ℕ → Option Role). z e) went.same_role ∙ is) in let bad : ⊥ = cc in bad)
    ]

    filled : slice_index (set ws (count_word_of (length code.first) t) count) (count_word_of (length code.first) t) ≡ 1 + below (λ e. weight t (role' e) (k.states e)) n
    filled =
        let i = may.inside in
        count_here code n ws homes stands.cells t count in_table
        ∙ (may.count_is
        ∙ ap (λ (z : ℕ). 1 + z) (sym (counts_are_of_cells role' k.states t n (length code.first) own (λ c. waits_for (own c) (begins_list h c))
        (numbered path t own (begins_list h) (length code.first) stands.role stands.net hung no_role fresh old_task k.states stands.planned.blank) (omega (arith, i)))))

    inside_all : (e : ℕ) (r : Role) → role' e ≡ Some r → e < n
    inside_all e r is = role_inside code n stands.net stands.role k.states k.infos k.cell_of (planned_by views) stands.planned id (planned_of v.known) (at_map (λ (z : SeatView). planned_of z.known) views id v sits)
        path t (with_body x h) may.order hung no_role old_task may.inside e r (source path t own (begins_list h) (length code.first) stands.role e r is)

    rule_now : FieldAt (asks code) (code_main code fuel) code.first (is_job_of code stands.before) n stands.net stands.gave role'
        (record k { counts = (parts_of (length code.first) (set ws (count_word_of (length code.first) t) count) homes stands.cells).counts }) (set (set (sights_of views) id (sight_of gone)) id (sight_of l))
    rule_now =
        let g = plans_keep CodeScript (Box Job) (is_job_of code stands.before) (asks code) (code_main code fuel) code.first n k (set (sights_of views) id (sight_of gone)) f
        id (sight_of gone) (sight_of l) may.before.place (bearing_of (with_body x h)) may.order t role' making
        (parts_of (length code.first) (set ws (count_word_of (length code.first) t) count) homes stands.cells).counts (record {
          sits = here;
          has = has;
          act = may.before.act;
          plans = plans_of;
          inside = inside_all;
          access = λ c mode strong right. let small = low c mode strong right in
              (entry_number t own c, role_on path t c mode strong (waits_for (Holds mode strong) (begins_list h c)), at_cell path t own (begins_list h) (length code.first) stands.role c small mode strong right, refl, refl, refl, refl, refl, refl);
          strongly = strongly path t own (begins_list h) (length code.first) stands.role fresh;
          by = refl;
          task = refl;
          stage = refl;
          filled = filled;
          others = counts_else code n ws homes stands.cells t count;
          bears = refl;
          makes = refl;
          same = record { words = refl; owes = refl; joined = refl; ready = refl; loaded = refl; seen = refl; still = refl };
        }) in
        record { field = g.field; same_net = g.same_net ∙ went.same_net; same_gave = g.same_gave ∙ went.same_gave; same_role = g.same_role }

    -- an entry of the block is drawn
    block_drawn : (e : ℕ) → (role' e ≡ stands.role e) ⊎ ((t ≤ e) × (e < t + 1 + new_cells code x may.order))
    block_drawn e = elim (each_role path t own (begins_list h) (length code.first) stands.role e) [
      | inl q ↦ let s = q.0 in inr (omega (arith, s), omega (arith, s))
      | inr g ↦ elim g [
        | inl q ↦ inr (in_block path t own (begins_list h) (length code.first) stands.role e q.0 q.1)
        | inr q ↦ inl q
      ]
    ]

    left : (e : ℕ) → Among e l.drawn → Among e v.known.drawn × (role' e ≡ None)
    left e a =
        let r = drawn_left t (t + 1 + new_cells code x may.order) v.known.drawn e a in (
          r.0,
          elim (block_drawn e) [
            | inl q ↦ q ∙ stands.drawn.none id (sight_of v.known) (sits_at views id v sits) e r.0
            | inr q ↦ absurd (not_within t (t + 1 + new_cells code x may.order) e r.1 q.0 q.1)
          ],
        )

    still_free : (e : ℕ) → slice_index ws 0 ≤ e → IsFree role' (set (sights_of views) id (sight_of l)) e
    still_free e high =
        let free = stands.undrawn e high in
        record {
          none = elim (block_drawn e) [
            | inl q ↦ q ∙ free.none
            | inr q ↦ absurd (free.undrawn id (sight_of v.known) (sits_at views id v sits) (may.drawn e q.0 q.1))
          ];
          undrawn = λ j y at a. elim (at_set (sights_of views) id j (sight_of l) y at) [
            | inl q ↦ free.undrawn id (sight_of v.known) (sits_at views id v sits) (left e (subst (λ (z : Sight CodeScript). Among e z.drawn) (sym q.1) a)).0
            | inr q ↦ free.undrawn j y q.1 a
          ];
        }

    -- the own entry of a task is none of a reduction
    own_reads : (e : ℕ) (q : Role) → Source path t own (begins_list h) (length code.first) stands.role e q → q.site ≡ itself → (op : Op) → q.mode ≢ Fold op
    own_reads e q (of_old is same) site op = stands.selves e q is site op
    own_reads e q (of_task here_is it) site op = λ folds. let z : true ≡ false = ap needs_flag (ap (λ (x : Role). x.mode) (sym it) ∙ folds) in let bad : ⊥ = cc in bad
    own_reads e q (of_cell c) site op = absurd (let z : on c.cell ≡ itself = ap (λ (x : Role). x.site) (sym c.it) ∙ site in let bad : ⊥ = cc in bad)

    pub begins_stand : Stands code fuel n (set ws (count_word_of (length code.first) t) count) homes (set views id (record { known = l }))
    begins_stand = record {
      net = stands.net;
      gave = stands.gave;
      role = role';
      before = stands.before;
      fresh = stands.fresh;
      cells = stands.cells;
      size = length-set ws (count_word_of (length code.first) t) count ∙ stands.size;
      slots = stands.slots;
      sized = stands.sized;
      cell_words = λ c small. cells_same code n ws homes stands.cells t count c small ∙ stands.cell_words c small;
      empty = λ e small z. stands.empty e small (sym (bodies_same code n ws homes stands.cells t count e) ∙ z);
      whole = λ e. subst (λ (z : ℕ). z ≡ state_word (state_at z)) (sym (states_same code n ws homes stands.cells t count e)) (stands.whole e);
      neat = λ e. subst (λ (z : ℕ). Neat (state_at z)) (sym (states_same code n ws homes stands.cells t count e)) (stands.neat e);
      rule = subst (λ (z : List (Sight CodeScript)). FieldAt (asks code) (code_main code fuel) code.first (is_job_of code stands.before) n stands.net stands.gave role' (parts_of (length code.first) (set ws (count_word_of (length code.first) t) count) homes stands.cells) z) (sym (sights_set views id l))
          (subst (λ (z : Parts (Box Job)). FieldAt (asks code) (code_main code fuel) code.first (is_job_of code stands.before) n stands.net stands.gave role' z (set (sights_of views) id (sight_of l))) (parts_now code n ws homes stands.cells t count)
          (subst (λ (z : List (Sight CodeScript)). FieldAt (asks code) (code_main code fuel) code.first (is_job_of code stands.before) n stands.net stands.gave role' (record k { counts = (parts_of (length code.first) (set ws (count_word_of (length code.first) t) count) homes stands.cells).counts }) z) (set_twice (sights_of views) id (sight_of gone) (sight_of l)) rule_now));
      told = λ j y at u among. elim (at_set views id j (record { known = l }) y at) [
        | inl e ↦ told_on stands.before v.known.bears may.before.place h x may.before.given.holds (stands.told id v sits) u (subst (λ (z : SeatView). Among u z.known.bears) (sym e.1) among)
        | inr e ↦ stands.told j y e.1 u among
      ];
      drawn = subst (λ (z : List (Sight CodeScript)). AreDrawn role' z) (sym (sights_set views id l))
          (plans_draw CodeScript stands.role role' (sights_of views) id (sight_of v.known) (sight_of l) (sits_at views id v sits) (λ e. elim (block_drawn e) [ inl q ↦ inl q | inr q ↦ inr (may.drawn e q.0 q.1) ]) left stands.drawn);
      undrawn = λ e high. subst (λ (z : List (Sight CodeScript)). IsFree role' z e) (sym (sights_set views id l)) (still_free e (subst (λ (z : ℕ). z ≤ e) (draw_same code n ws homes stands.cells t count) high));
      selves = λ e q is. own_reads e q (source path t own (begins_list h) (length code.first) stands.role e q is);
      heard = heard_same stands.net k.infos (λ e. info_at (slice_index (set ws (count_word_of (length code.first) t) count) (info_word_of (length code.first) e))) views id v l sits refl (λ e. ap info_at (infos_same code n ws homes stands.cells t count e)) stands.heard;
      marked = marked_on stands.net stands.net stands.role role' k.states (λ e. state_at (slice_index (set ws (count_word_of (length code.first) t) count) (state_word_of (length code.first) e))) k.values (λ e. slice_index (set ws (count_word_of (length code.first) t) count) (value_word_of (length code.first) e))
          (record {
            place = λ e hangs. refl;
            last = λ e hangs left. refl;
            role_is = old_role;
            stays = λ e hangs. stays_same (k.states e) (state_at (slice_index (set ws (count_word_of (length code.first) t) count) (state_word_of (length code.first) e))) (ap state_at (states_same code n ws homes stands.cells t count e));
            value = λ e hangs left. values_same code n ws homes stands.cells t count e;
          }) views id v l sits refl stands.marked;
      seats = subst (λ (z : List View). AreSeats n stands.net (λ e. state_at (slice_index (set ws (count_word_of (length code.first) t) count) (state_word_of (length code.first) e))) (slice_index (set ws (count_word_of (length code.first) t) count) 0) z) (sym (words_stay views id v l sits refl))
          (subst (λ (z : ℕ). AreSeats n stands.net (λ e. state_at (slice_index (set ws (count_word_of (length code.first) t) count) (state_word_of (length code.first) e))) z (words_of (sights_of views))) (sym (draw_same code n ws homes stands.cells t count))
          (subst (λ (g : ℕ → EntryState). AreSeats n stands.net g (slice_index ws 0) (words_of (sights_of views))) (λ i e. state_at (sym (states_same code n ws homes stands.cells t count e) i)) stands.seats));
      planned = plans_stand code n stands.net role' ws (set ws (count_word_of (length code.first) t) count) (set (planned_by views) id (planned_of l)) (planned_by (set views id (record { known = l })))
          (states_same code n ws homes stands.cells t count) (infos_same code n ws homes stands.cells t count) (numbers_same code n ws homes stands.cells t count) (map-set (λ (z : SeatView). planned_of z.known) views id (record { known = l }))
          (planned_now code n stands.net stands.role k.states k.infos k.cell_of (planned_by views) stands.planned id (planned_of v.known) (at_map (λ (z : SeatView). planned_of z.known) views id v sits)
          path t (with_body x h) may.order hung no_role old_task may.inside);
    }

  pub begins : Steps code fuel n id v (count_word_of (length code.first) t) (λ y. count) (λ y k. HasBegun code n job t count v.known k)
  begins ws homes views stands sits bits = (
    l,
    begins_stand ws homes views stands sits,
    record {
      may = may;
      once = held_once code (code_main code fuel) code.first (is_job_of code stands.before) n (parts_of (length code.first) ws homes stands.cells) (sights_of views) stands.rule.field id v.known (sits_at views id v sits) may.before.place h may.before.given.holds;
      known = refl;
    },
  )

-- what the seat holds after it
module _ (code : CodeParts) (n : ℕ) (job : Job) (t count : ℕ) (k l : Known) (o : HasBegun code n job t count k l) where
  pub begun_slots : carried l.bears ≡ carried k.bears
  begun_slots = ap (λ (z : Known). carried z.bears) o.known ∙ carried_on k.bears o.may.before.place o.may.before.holding o.may.before.body o.may.before.given.holds

  pub begun_inside : (d : TableId) → AreInside d k.bears → AreInside d l.bears
  begun_inside d inside = subst (λ (z : Known). AreInside d z.bears) (sym o.known) (inside_after d code job k inside (Created o.may.order false) o.may.before o.may.before.body refl)
