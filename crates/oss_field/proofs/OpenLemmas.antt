-- The count down that opens a new task.
use Rattle.std.proofs.Common.{◌≡◌, ◌≢◌, ◌⊎◌, inl, inr, sym, subst, refl, ◌∙◌, ap, ℕ, zero, suc, ◌<◌, ◌+◌, ◌-◌, ◌*◌, ◌%◌, ◌^◌, arith, Bool, true, false, ◌==◌, List, [], ◌∷◌, length, set, Option, Some, None}
use Rattle.std.specs.Prelude.{slice_index, cond, not, if◌then◌else◌}
use Rattle.std.specs.Global.{Box}
use mathlib.Core.Option as maybe
use native.Mathlib.Nat.{add-mul-mod_self_right}
use lib.ListN.{get_elem?}
use Rattle.std.proofs.lemmas.Bool.Decides.{eqb_tells}
use Rattle.std.proofs.lemmas.List.{length-set}
use Rattle.std.proofs.Math.Seq.{map-set}
use Rattle.atomic_table.specs.Seated.{TableId}
use Rattle.atomic_table.proofs.Lists.{at_map, at_set, set_again}
use Rattle.oss_body.specs.Mains.{code_main}
use Rattle.oss_code.specs.declared.code.CodeParts.{CodeParts}
use Rattle.oss_jobs.specs.declared.job.Job.{Job}
use Rattle.oss_jobs.specs.Jobs.{noted, or_else}
use Rattle.oss_machine.specs.Frames.{CodeScript}
use Rattle.oss_machine.specs.Machines.{asks}
use Rattle.oss_model.specs.Bodies.{Order, Start}
use Rattle.oss_model.specs.Bodies.Act.{Created}
use Rattle.oss_model.specs.Moves.{act_now}
use Rattle.oss_model.specs.Rights.{Right, Holds}
use Rattle.oss_syntax.specs.declared.access.Mode.{Mode}
use Rattle.oss_words.specs.declared.entry.EntryInfo.{EntryInfo}
use Rattle.oss_words.specs.declared.entry.EntryState.{EntryState}
use Rattle.oss_words.specs.Net.{Net, apart}
use Rattle.oss_words.specs.Sums.{num}
use Rattle.oss_words.specs.Views.{Among, among_first, among_later}
use Rattle.oss_words.proofs.KeptLaw.{at_here}
use Rattle.oss_words.proofs.SeatLemmas.{among_none}
use Rattle.oss_roles.specs.Field.{Bears, Field, FieldAt, IsMade, IsNumberOf, Parts, Sits}
use Rattle.oss_roles.specs.MakeSteps.{MovesLast}
use Rattle.oss_roles.specs.Numbers.{entry_number, has_cell}
use Rattle.oss_roles.specs.Roles.{Role, Site, itself, on}
use Rattle.oss_roles.specs.Sights.{Bearing, Making, Sight, Telling}
use Rattle.oss_roles.proofs.GoesLaw.{one_holder}
use Rattle.oss_roles.proofs.MakeClaims.{openings_keep}
use Rattle.oss_roles.proofs.TakeLaw.{path_one}
use Rattle.oss_field.specs.declared.view.SeatView.{SeatView}
use Rattle.oss_field.specs.Asks.{AreInside, IsInside}
use Rattle.oss_field.specs.Known.{Holding, Known, Plan, Unlinked, bearing_of, last_of, sight_of}
use Rattle.oss_field.specs.Layout.{count_word_of, parts_of}
use Rattle.oss_field.specs.Making.{IsOpened, MayOpen, Opens, created_by, opened, plans_beside}
use Rattle.oss_field.specs.Moves.{touched}
use Rattle.oss_field.specs.Plans.{ArePlanned, IsLoose, IsRoleOf, is_cell, is_own, IsUnlinked, Planned, new_rights, planned_of}
use Rattle.oss_field.specs.Standing.{carried}
use Rattle.oss_field.specs.Steps.{Steps}
use Rattle.oss_field.specs.Table.{Slot, is_job_of, planned_by, sights_of, Stands}
use Rattle.oss_field.proofs.ActLemmas.{carried_one}
use Rattle.oss_field.proofs.DrawLemmas.{mod_small}
use Rattle.oss_field.proofs.MakingLemmas.{bodies_same, cells_same, count_here, counts_else, draw_same, infos_same, numbers_same, parts_now, states_same, values_same}
use Rattle.oss_field.proofs.PlanLemmas.{has_held, right_held, site_cell}
use Rattle.oss_field.proofs.SlotLemmas.{within}
use Rattle.oss_field.proofs.StageLemmas.{made_is, made_kept}
use Rattle.oss_field.proofs.TableLemmas.{among_at, among_set, chained, next_stands, plans_stand, sits_at}

-- the plans of other tasks
plans_is : (t : ℕ) (l : List Plan) (y : Plan) → Among y (plans_beside t l) → Among y l × (y.task ≢ t)
plans_is t [] y h = among_none y h
plans_is t (x ∷ l) y h = go (x.task == t) (eqb_tells x.task t) (λ b. plans_is t l y b) h
  where
    go : (b : Bool) → ((b ≡ true) × (x.task ≡ t)) ⊎ ((b ≡ false) × (x.task ≢ t)) → (Among y (plans_beside t l) → Among y l × (y.task ≢ t)) → Among y (cond b (plans_beside t l) (x ∷ plans_beside t l)) → Among y (x ∷ l) × (y.task ≢ t)
    go true q again h = let r = again h in (among_later r.0, r.1)
    go false (inl q) again h = absurd (let e : false ≡ true = q.0 in let bad : ⊥ = cc in bad)
    go false (inr q) again h = elim h [
      | among_first p ↦ (among_first p, subst (λ (u : Plan). u.task ≢ t) p q.1)
      | among_later b ↦ let r = again b in (among_later r.0, r.1)
    ]

plans_kept : (t : ℕ) (l : List Plan) (y : Plan) → Among y l → y.task ≢ t → Among y (plans_beside t l)
plans_kept t [] y h ne = among_none y h
plans_kept t (x ∷ l) y h ne = go (x.task == t) (eqb_tells x.task t) (λ b. plans_kept t l y b ne) h
  where
    go : (b : Bool) → ((b ≡ true) × (x.task ≡ t)) ⊎ ((b ≡ false) × (x.task ≢ t)) → (Among y l → Among y (plans_beside t l)) → Among y (x ∷ l) → Among y (cond b (plans_beside t l) (x ∷ plans_beside t l))
    go true (inl q) again h = elim h [
      | among_first p ↦ absurd (ne (sym (ap (λ (u : Plan). u.task) p) ∙ q.1))
      | among_later b ↦ again b
    ]
    go true (inr q) again h = absurd (let e : true ≡ false = q.0 in let bad : ⊥ = cc in bad)
    go false q again h = elim h [ among_first p ↦ among_first p | among_later b ↦ among_later (again b) ]

-- what all seats keep, without the plan of a task of which no entry is left that is not linked
module _ (code : CodeParts) (n : ℕ) (net : Net) (role : ℕ → Option Role) (states : ℕ → EntryState) (infos : ℕ → EntryInfo) (cell_of : ℕ → ℕ) (seats : List Planned) (a : ArePlanned code n net role states infos cell_of seats)
    (id : ℕ) (s : Planned) (at : get_elem? seats id ≡ maybe.some s) (t : ℕ) (linked : (z : Unlinked) → Among z s.unlinked → z.task ≢ t) where
  abbrev after : Planned
  after = record { plans = plans_beside t s.plans; unlinked = s.unlinked }

  before : (j : ℕ) (u : Planned) → get_elem? (set seats id (record { plans = plans_beside t s.plans; unlinked = s.unlinked })) j ≡ maybe.some u
      → (w : Planned) × (get_elem? seats j ≡ maybe.some w) × ((y : Plan) → Among y u.plans → Among y w.plans) × (u.unlinked ≡ w.unlinked)
  before j u sits = elim (at_set seats id j after u sits) [
    | inl h ↦ (s, ap (λ (z : ℕ). get_elem? seats z) h.0 ∙ at, (λ y b. (plans_is t s.plans y (subst (λ (z : Planned). Among y z.plans) (sym h.1) b)).0), ap (λ (z : Planned). z.unlinked) (sym h.1))
    | inr h ↦ (u, h.1, (λ y b. b), refl)
  ]

  still_loose : (z : Unlinked) → Among z s.unlinked → IsLoose net role states infos cell_of s.plans z → IsLoose net role states infos cell_of (plans_beside t s.plans) z
  still_loose z b l = record {
    plan = l.plan;
    among = plans_kept t s.plans l.plan l.among (λ q. linked z b (sym l.task ∙ q));
    task = l.task;
    it = l.it;
    is = l.is;
    of_task = l.of_task;
    loose = l.loose;
    state = l.state;
    info = l.info;
    cell = l.cell;
  }

  pub planned_less : ArePlanned code n net role states infos cell_of (set seats id (record { plans = plans_beside t s.plans; unlinked = s.unlinked }))
  planned_less = record {
    inside = a.inside;
    blank = a.blank;
    own = λ j u sits y b. let w = before j u sits in a.own j w.0 w.1 y (w.2 y b);
    roles = λ j u sits y b. let w = before j u sits in a.roles j w.0 w.1 y (w.2 y b);
    rest = λ j u sits y b e r is task. let w = before j u sits in subst (λ (z : List Unlinked). (net.place e ≢ apart) ⊎ IsUnlinked e z) (sym w.3) (a.rest j w.0 w.1 y (w.2 y b) e r is task);
    one = λ i j u x su sx y z b d same. let w = before i u su in let o = before j x sx in a.one i j w.0 o.0 w.1 o.1 y z (w.2 y b) (o.2 z d) same;
    loose = λ j u sits z b. elim (at_set seats id j after u sits) [
      | inl h ↦
          let c = subst (λ (x : Planned). Among z x.unlinked) (sym h.1) b in
          subst (λ (x : Planned). IsLoose net role states infos cell_of x.plans z) h.1 (still_loose z c (a.loose id s at z c))
      | inr h ↦ a.loose j u h.1 z b
    ];
  }

-- the seat's making is by the job that it holds
module _ (code : CodeParts) (main : Start CodeScript) (first : List ℕ) (is_job : Telling CodeScript (Box Job)) (n : ℕ) (k : Parts (Box Job)) (sights : List (Sight CodeScript)) (f : Field (asks code) main first is_job n k sights)
    (id : ℕ) (v : Sight CodeScript) (at : Sits sights id v) (m : Making) (among : Among m v.makes) (i : ℕ) (b : Bearing CodeScript) (has : Bears v i b) (by : b.number ≡ m.by) where
  abbrev g : IsMade (asks code) is_job k f.net f.role f.opened v m
  g = f.made id v at m among

  pub creator_is : g.creator ≡ b
  creator_is =
      let c = f.borne id v at g.place g.creator g.held in
      let d = f.borne id v at i b has in
      let path : g.creator.path ≡ b.path = path_one (asks code) main first is_job n k sights f b.number g.creator.path b.path (subst (λ (z : ℕ). IsNumberOf f.role z g.creator.path) (g.by ∙ sym by) c.number) d.number in
      let h = one_holder (asks code) main first is_job n k sights f id id g.place i v v g.creator b at g.held at has path in
      maybe.some-injective g.creator b (sym g.held ∙ ap (λ (z : ℕ). get_elem? v.bears z) h.1 ∙ has)

  order_same : (x y : Order CodeScript) → Created x false ≡ Created y false → x ≡ y
  order_same x y h = cc

  pub order_is : (order : Order CodeScript) → act_now (asks code) b.body ≡ Created order false → g.order ≡ order
  order_is order act = order_same g.order order (sym g.act ∙ ap (λ (z : Bearing CodeScript). act_now (asks code) z.body) creator_is ∙ act)

  -- the entry of the new task on a cell to which it has a right
  pub entry_there : (order : Order CodeScript) → act_now (asks code) b.body ≡ Created order false → (c : ℕ) (mode : Mode) (strong : Bool) → new_rights code b.body order c ≡ Holds mode strong
      → (r : Role) × (f.role (entry_number m.task (new_rights code b.body order) c) ≡ Some r) × (r.site ≡ on c) × (r.task ≡ m.task)
  entry_there order act c mode strong right =
      let same : new_rights code g.creator.body g.order ≡ new_rights code b.body order = ap (λ (z : Bearing CodeScript). new_rights code z.body g.order) creator_is ∙ ap (λ (z : Order CodeScript). new_rights code b.body z) (order_is order act) in
      let x = g.access c mode strong (ap (λ (z : ℕ → Right). z c) same ∙ right) in
      (x.1, ap (λ (z : ℕ → Right). f.role (entry_number m.task z c)) (sym same) ∙ (ap f.role (sym x.8) ∙ x.2), x.4, x.5)

-- The task is opened

module _ (code : CodeParts) (fuel n id : ℕ) (v : SeatView) (job : Job) (t : ℕ) (inside : t < n) (may : MayOpen code job t v.known) where
  abbrev h : Holding
  h = may.holding

  abbrev own : ℕ → Right
  own = new_rights code may.holding.body may.order

  abbrev making : Making
  making = record { by = may.holding.number; task = t; stage = 2 }

  abbrev plan : Plan
  plan = record { task = t; holding = may.holding; order = may.order }

  abbrev b : Bearing CodeScript
  b = bearing_of may.holding

  abbrev d : Bearing CodeScript
  d = bearing_of (created_by job may.holding)

  module _ (ws : List ℕ) (homes : List (maybe.Option Slot)) (views : List SeatView) (stands : Stands code fuel n ws homes views) (sits : get_elem? views id ≡ maybe.some v) where
    abbrev k : Parts (Box Job)
    k = parts_of (length code.first) ws homes stands.cells

    abbrev f : Field (asks code) (code_main code fuel) code.first (is_job_of code stands.before) n k (sights_of views)
    f = stands.rule.field

    abbrev found : ℕ
    found = slice_index ws (count_word_of (length code.first) t)

    abbrev l : Known
    l = touched (count_word_of (length code.first) t) (slice_index ws (count_word_of (length code.first) t)) (opened may.place may.holding job t v.known)

    at : Sits (sights_of views) id (sight_of v.known)
    at = sits_at views id v sits

    has : Bears (sight_of v.known) may.place (bearing_of may.holding)
    has = at_map bearing_of v.known.bears may.place may.holding may.holds

    made : IsMade (asks code) (is_job_of code stands.before) k f.net f.role f.opened (sight_of v.known) making
    made = f.made id (sight_of v.known) at making may.among

    -- the count is above 0, since the task is not opened yet
    counted : 0 < slice_index ws (count_word_of (length code.first) t)
    counted =
        let o = made.own in
        let sum = f.counts.sum t o.0 o.1 o.3 in
        let one = ap (λ (z : Bool). num (not z)) made.closed in
        omega (arith, sum, one)

    planned_at : get_elem? (planned_by views) id ≡ maybe.some (planned_of v.known)
    planned_at = at_map (λ (z : SeatView). planned_of z.known) views id v sits

    old : (e : ℕ) (r : Role) → f.role e ≡ Some r → stands.role e ≡ Some r
    old e r is = ap (λ (z : ℕ → Option Role). z e) (sym stands.rule.same_role) ∙ is

    -- all entries of the task hang
    hung : (e : ℕ) (r : Role) → f.role e ≡ Some r → r.task ≡ t → f.net.place e ≢ apart
    hung e r is task = elim (stands.planned.rest id (planned_of v.known) planned_at plan may.plan e r (old e r is) task) [
      | inl ne ↦ subst (λ (z : Net). z.place e ≢ apart) (sym stands.rule.same_net) ne
      | inr u ↦
          let z = stands.planned.loose id (planned_of v.known) planned_at u.it u.among in
          let same : Some z.it ≡ Some r = sym z.is ∙ (ap stands.role u.entry ∙ old e r is) in
          let one : z.it ≡ r = role_same z.it r same in
          absurd (may.linked u.it u.among (sym z.of_task ∙ (ap (λ (y : Role). y.task) one ∙ task)))
    ]
      where
        role_same : (x y : Role) → Some x ≡ Some y → x ≡ y
        role_same x y q = cc

    -- no entry of the task is one of a cell that it does not have
    no_cell : (c : ℕ) {o : ℕ} (r : Role) → r.site ≡ on c → has_cell (own c) ≡ false → IsRoleOf code plan o r → ⊥
    no_cell c r site none (is_own q own_site mode strong counts) = let z : itself ≡ on c = sym own_site ∙ site in cc
    no_cell c r site none (is_cell e mode strong right q at_cell m s w) =
        let same : e ≡ c = site_cell e c (sym at_cell ∙ site) in
        let has_it : has_cell (own c) ≡ true = subst (λ (z : ℕ). has_cell (own z) ≡ true) same (has_held (own e) mode strong right) in
        let z : false ≡ true = sym none ∙ has_it in
        cc

    last_on : (c : ℕ) (y : Bool) → has_cell (own c) ≡ y → MovesLast f id (sight_of v.known) (sight_of l) t (bearing_of may.holding) (bearing_of (created_by job may.holding)) (on c)
    last_on c true has_it =
        let r = right_held (own c) has_it in
        let x = entry_there code (code_main code fuel) code.first (is_job_of code stands.before) n k (sights_of views) f id (sight_of v.known) at making may.among may.place (bearing_of may.holding) has refl may.order may.act c r.0 r.1 r.2 in
        inl (entry_number t own c, x.0, x.1, x.3, x.2, may.is.lasts c ∙ told_last has_it)
      where
        told_last : has_cell (own c) ≡ true → noted t own (last_of may.holding) (on c) ≡ Some (entry_number t own c)
        told_last q = ap (λ (z : Bool). or_else (if z then Some (entry_number t own c) else None) (last_of may.holding (on c))) q
    last_on c false none =
        inr (
          (λ o r is task site. no_cell c r site none (stands.planned.roles id (planned_of v.known) planned_at plan may.plan o r (old o r is) task)),
          may.is.lasts c ∙ ap (λ (z : Bool). or_else (if z then Some (entry_number t own c) else None) (last_of may.holding (on c))) none,
        )

    last : (y : Site) → MovesLast f id (sight_of v.known) (sight_of l) t (bearing_of may.holding) (bearing_of (created_by job may.holding)) y
    last itself = let o = made.own in inl (t, o.0, o.1, o.4, o.3, may.is.last_child)
    last (on c) = last_on c (has_cell (own c)) refl

    in_table : count_word_of (length code.first) t < length ws
    in_table = let s = stands.size in omega (arith, s, inside)

    told : (u : Holding) → Among u l.bears → stands.before u.number ≡ u.before
    told u a = elim (among_set v.known.bears may.place (created_by job may.holding) u a) [
      | inl e ↦ subst (λ (z : Holding). stands.before z.number ≡ z.before) e (stands.told id v sits may.holding (among_at v.known.bears may.place may.holding may.holds))
      | inr q ↦ stands.told id v sits u q
    ]

    rule_now : FieldAt (asks code) (code_main code fuel) code.first (is_job_of code stands.before) n f.net f.gave f.role
        (record k { counts = (parts_of (length code.first) (set ws (count_word_of (length code.first) t) (slice_index ws (count_word_of (length code.first) t) - 1)) homes stands.cells).counts }) (set (sights_of views) id (sight_of l))
    rule_now = openings_keep CodeScript (Box Job) (is_job_of code stands.before) (asks code) (code_main code fuel) code.first n k (sights_of views) f
        id (sight_of v.known) (sight_of l) may.place (bearing_of may.holding) (bearing_of (created_by job may.holding)) making
        (parts_of (length code.first) (set ws (count_word_of (length code.first) t) (slice_index ws (count_word_of (length code.first) t) - 1)) homes stands.cells).counts (record {
          sits = at;
          has = has;
          by = refl;
          among = may.among;
          put = refl;
          hung = hung;
          down = let c = count_here code n ws homes stands.cells t (slice_index ws (count_word_of (length code.first) t) - 1) in_table in omega (arith, c, counted);
          others = counts_else code n ws homes stands.cells t (slice_index ws (count_word_of (length code.first) t) - 1);
          bears = map-set bearing_of v.known.bears may.place (created_by job may.holding);
          number = refl;
          path = refl;
          body = refl;
          last = last;
          makes = made_is t v.known.makes;
          kept = made_kept t v.known.makes;
          same = record { words = refl; owes = refl; joined = refl; ready = refl; loaded = refl; seen = refl; still = refl };
        })

    pub opens_stand : Stands code fuel n (set ws (count_word_of (length code.first) t) (slice_index ws (count_word_of (length code.first) t) - 1)) homes (set views id (record { known = l }))
    opens_stand =
        let y : ℕ = slice_index ws (count_word_of (length code.first) t) - 1 in
        let ws' : List ℕ = set ws (count_word_of (length code.first) t) y in
        next_stands code fuel n ws homes views stands id v l sits refl refl refl told ws' homes stands.cells (length-set ws (count_word_of (length code.first) t) y ∙ stands.size) stands.slots stands.sized
        (λ c low. cells_same code n ws homes stands.cells t y c low ∙ stands.cell_words c low) (λ e low z. stands.empty e low (sym (bodies_same code n ws homes stands.cells t y e) ∙ z)) (states_same code n ws homes stands.cells t y) (λ e hangs. infos_same code n ws homes stands.cells t y e) (λ e left. values_same code n ws homes stands.cells t y e) (draw_same code n ws homes stands.cells t y)
        (plans_stand code n stands.net stands.role ws ws' (set (planned_by views) id (planned_of l)) (planned_by (set views id (record { known = l }))) (states_same code n ws homes stands.cells t y) (infos_same code n ws homes stands.cells t y) (numbers_same code n ws homes stands.cells t y)
        (map-set (λ (z : SeatView). planned_of z.known) views id (record { known = l }))
        (planned_less code n stands.net stands.role k.states k.infos k.cell_of (planned_by views) stands.planned id (planned_of v.known) planned_at t may.linked))
        (subst (λ (z : Parts (Box Job)). FieldAt (asks code) (code_main code fuel) code.first (is_job_of code stands.before) n stands.net stands.gave stands.role z (set (sights_of views) id (sight_of l))) (parts_now code n ws homes stands.cells t y) (chained stands rule_now))

  lowered : (x : ℕ) → 0 < x → x < 18446744073709551616 → (x + (2 ^ 64 - 1)) % 2 ^ 64 ≡ x - 1
  lowered zero low high = absurd (omega (arith, low))
  lowered (suc x) low high =
      let e : suc x + (2 ^ 64 - 1) ≡ x + 1 * 2 ^ 64 = omega arith in
      let less : x ≡ suc x - 1 = omega arith in
      ap (λ (z : ℕ). z % 2 ^ 64) e ∙ (add-mul-mod_self_right x 1 (2 ^ 64) ∙ (mod_small x (2 ^ 64) (omega (arith, high)) ∙ less))

  -- the last children that the creator has from then on hang, so they are entries of the table
  lasts_inside : (ws : List ℕ) (homes : List (maybe.Option Slot)) (views : List SeatView) (stands : Stands code fuel n ws homes views) → get_elem? views id ≡ maybe.some v
      → (y : Site) (o : ℕ) → last_of (created_by job may.holding) y ≡ Some o → o < n
  lasts_inside ws homes views stands sits =
      let x : ℕ = slice_index ws (count_word_of (length code.first) t) in
      let new : Known = touched (count_word_of (length code.first) t) x (opened may.place may.holding job t v.known) in
      let s = opens_stand ws homes views stands sits in
      let views' : List SeatView = set views id (record { known = new }) in
      let there : get_elem? (set views id (record { known = new })) id ≡ maybe.some (record { known = new }) = at_here views id v (record { known = new }) sits in
      let holds : get_elem? (set v.known.bears may.place (created_by job may.holding)) may.place ≡ maybe.some (created_by job may.holding) = at_here v.known.bears may.place may.holding (created_by job may.holding) may.holds in
      (within code (code_main code fuel) code.first (is_job_of code s.before) n (parts_of (length code.first) (set ws (count_word_of (length code.first) t) (x - 1)) homes s.cells) (sights_of views') s.rule.field
      id new (sits_at views' id (record { known = new }) there) may.place (created_by job may.holding) holds).lasts

  pub opens : Steps code fuel n id v (count_word_of (length code.first) t) (λ y. (y + (2 ^ 64 - 1)) % 2 ^ 64) (λ y k. Opens code n job t y v.known k)
  opens ws homes views stands sits bits =
      let x : ℕ = slice_index ws (count_word_of (length code.first) t) in
      let some : 0 < x = counted ws homes views stands sits in (
        touched (count_word_of (length code.first) t) x (opened may.place may.holding job t v.known),
        subst (λ (y : ℕ). Stands code fuel n (set ws (count_word_of (length code.first) t) y) homes (set views id (record { known = touched (count_word_of (length code.first) t) x (opened may.place may.holding job t v.known) }))) (sym (lowered x some bits))
            (opens_stand ws homes views stands sits),
        record { opened = record { may = may; some = some; known = refl }; lasts = lasts_inside ws homes views stands sits },
      )

-- what the seat holds after it
pub opened_slots : (code : CodeParts) (job : Job) (t found : ℕ) (k l : Known) → IsOpened code job t found k l → carried l.bears ≡ carried k.bears
opened_slots code job t n k l o =
    ap (λ (z : Known). carried z.bears) o.known
    ∙ (map-set (λ (z : Holding). carried_one z) k.bears o.may.place (created_by job o.may.holding)
    ∙ set_again (carried k.bears) o.may.place (o.may.holding.number, None) (at_map (λ (z : Holding). carried_one z) k.bears o.may.place o.may.holding o.may.holds))

pub opened_inside : (d : TableId) (code : CodeParts) (n : ℕ) (job : Job) (t x : ℕ) (k l : Known) → d.slots ≡ n → AreInside d k.bears → Opens code n job t x k l → AreInside d l.bears
opened_inside d code n job t x k l slots inside tells u a =
    let o = tells.opened in
    elim (among_set k.bears o.may.place (created_by job o.may.holding) u (subst (λ (z : Known). Among u z.bears) o.known a)) [
      | inl e ↦ subst (λ (z : Holding). IsInside d z) e (let i = inside o.may.holding (among_at k.bears o.may.place o.may.holding o.may.holds) in record { number = i.number; inside = i.inside; strongly = i.strongly; entries = i.entries; lasts = λ y e last. subst (λ (s : ℕ). e < s) (sym slots) (tells.lasts y e last) })
      | inr q ↦ inside u q
    ]
