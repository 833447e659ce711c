-- The first job of a task that is being made is put: the empty slot is taken hold of, and the job stands in it.
use Rattle.std.proofs.Common.{◌≡◌, ◌≢◌, ◌⊎◌, inl, inr, sym, subst, refl, ◌∙◌, ap, ℕ, ◌<◌, arith, Bool, true, false, ◌==◌, List, [], ◌∷◌, length, set}
use Rattle.std.specs.Prelude.{slice_index, cond, Option, Some, None, box_value}
use Rattle.std.specs.Global.{Box}
use mathlib.Core.Option as maybe
use lib.ListN.{get_elem?}
use Rattle.std.proofs.lemmas.Bool.Decides.{eqb_tells}
use Rattle.atomic_table.specs.Table.{State, Allows, takes, gives, rest}
use Rattle.atomic_table.proofs.Lists.{at_map, set_here}
use Rattle.oss_body.specs.Mains.{code_main}
use Rattle.oss_code.specs.declared.code.CodeParts.{CodeParts}
use Rattle.oss_jobs.specs.declared.job.Job.{Job}
use Rattle.oss_jobs.specs.Jobs.{IsJob, task_of}
use Rattle.oss_machine.specs.Frames.{CodeScript}
use Rattle.oss_machine.specs.Machines.{asks}
use Rattle.oss_model.specs.Bodies.{Body, Start}
use Rattle.oss_model.specs.Machine.{Task, At}
use Rattle.oss_model.specs.Moves.{new_task}
use Rattle.oss_words.specs.Views.{Among, among_first, among_later}
use Rattle.oss_words.proofs.SeatLemmas.{among_none}
use Rattle.oss_roles.specs.Field.{Field, FieldAt, Parts, IsNumberOf, of_main, of_entry, IsSomewhere, at_home, is_out, IsPut, not_put, going, is_put, IsMade}
use Rattle.oss_roles.specs.Roles.{Role, Site}
use Rattle.oss_roles.specs.Sights.{Making, Sight}
use Rattle.oss_roles.proofs.MakeClaims.{first_puts_keep}
use Rattle.oss_field.specs.declared.view.SeatView.{SeatView}
use Rattle.oss_field.specs.Known.{Holding, Known, bearing_of, sight_of}
use Rattle.oss_field.specs.Layout.{Home, job_in, body_word_of, parts_of}
use Rattle.oss_field.specs.Making.{HoldsNew, IsPutFirst, MayPutAt, MayPutFirst, PutsNew, made_beside, staged}
use Rattle.oss_field.specs.Moves.{touched}
use Rattle.oss_field.specs.Table.{Slot, is_job_of, sights_of, Stands}
use Rattle.oss_field.proofs.DrawLemmas.{at_among}
use Rattle.oss_field.proofs.SlotLemmas.{here, bodies_else, jobs_else, first_job, slot_stands}
use Rattle.oss_field.proofs.TableLemmas.{chained, sits_at}

-- tasks that are being made, but for one
pub made_is : (t : ℕ) (l : List Making) (a : Making) → Among a (made_beside t l) → Among a l × (a.task ≢ t)
made_is t [] a h = among_none a h
made_is t (x ∷ l) a h = go (x.task == t) (eqb_tells x.task t) (λ b. made_is t l a b) h
  where
    go : (b : Bool) → ((b ≡ true) × (x.task ≡ t)) ⊎ ((b ≡ false) × (x.task ≢ t)) → (Among a (made_beside t l) → Among a l × (a.task ≢ t)) → Among a (cond b (made_beside t l) (x ∷ made_beside t l)) → Among a (x ∷ l) × (a.task ≢ t)
    go true q again h = let r = again h in (among_later r.0, r.1)
    go false (inl q) again h = absurd (let e : false ≡ true = q.0 in let bad : ⊥ = cc in bad)
    go false (inr q) again h = elim h [
      | among_first p ↦ (among_first p, subst (λ (u : Making). u.task ≢ t) p q.1)
      | among_later b ↦ let r = again b in (among_later r.0, r.1)
    ]

pub made_kept : (t : ℕ) (l : List Making) (a : Making) → Among a l → a.task ≢ t → Among a (made_beside t l)
made_kept t [] a h ne = among_none a h
made_kept t (x ∷ l) a h ne = go (x.task == t) (eqb_tells x.task t) (λ b. made_kept t l a b ne) h
  where
    go : (b : Bool) → ((b ≡ true) × (x.task ≡ t)) ⊎ ((b ≡ false) × (x.task ≢ t)) → (Among a l → Among a (made_beside t l)) → Among a (x ∷ l) → Among a (cond b (made_beside t l) (x ∷ made_beside t l))
    go true (inl q) again h = elim h [
      | among_first p ↦ absurd (ne (sym (ap (λ (u : Making). u.task) p) ∙ q.1))
      | among_later b ↦ again b
    ]
    go true (inr q) again h = absurd (let e : true ≡ false = q.0 in let bad : ⊥ = cc in bad)
    go false q again h = elim h [ among_first p ↦ among_first p | among_later b ↦ among_later (again b) ]

made_twice : (t : ℕ) (l : List Making) → made_beside t (made_beside t l) ≡ made_beside t l
made_twice t [] = refl
made_twice t (x ∷ l) = go (x.task == t) refl (made_twice t l)
  where
    go : (b : Bool) → (x.task == t) ≡ b → made_beside t (made_beside t l) ≡ made_beside t l → made_beside t (cond b (made_beside t l) (x ∷ made_beside t l)) ≡ cond b (made_beside t l) (x ∷ made_beside t l)
    go true q again = again
    go false q again = ap (λ (b : Bool). cond b (made_beside t (made_beside t l)) (x ∷ made_beside t (made_beside t l))) q ∙ ap (λ (z : List Making). x ∷ z) again

made_first : (t : ℕ) (a : Making) (l : List Making) → a.task ≡ t → made_beside t (a ∷ made_beside t l) ≡ made_beside t l
made_first t a l is = elim (eqb_tells a.task t) [
  | inl q ↦ ap (λ (b : Bool). cond b (made_beside t (made_beside t l)) (a ∷ made_beside t (made_beside t l))) q.0 ∙ made_twice t l
  | inr q ↦ absurd (q.1 is)
]

-- the two stages one after the other
pub staged_twice : (m t by : ℕ) (k : Known) → touched (body_word_of m t) 1 (staged by t 2 (touched (body_word_of m t) 2 (staged by t 1 k))) ≡ touched (body_word_of m t) 1 (staged by t 2 k)
staged_twice m t by k =
    ap (λ (z : List Making). touched (body_word_of m t) 1 (record k { makes = record { by = by; task = t; stage = 2 } ∷ z }))
    (made_first t (record { by = by; task = t; stage = 1 }) k.makes refl)

-- it is made by one job
pub same_maker : (t by other stage : ℕ) (l : List Making) → Among (record { by = other; task = t; stage = stage }) (record { by = by; task = t; stage = stage } ∷ made_beside t l) → other ≡ by
same_maker t by other stage l a = elim a [
  | among_first p ↦ ap (λ (u : Making). u.by) (sym p)
  | among_later b ↦ absurd ((made_is t l (record { by = other; task = t; stage = stage }) b).1 refl)
]

-- The job of a task is told anew while its slot is out

abbrev pub retold : (ℕ → List ℕ) → ℕ → ℕ → List ℕ
retold before t e = cond (e == t) [] (before e)

pub retold_here : (before : ℕ → List ℕ) (t : ℕ) → retold before t t ≡ []
retold_here before t = elim (eqb_tells t t) [ inl h ↦ ap (λ (b : Bool). cond b [] (before t)) h.0 | inr h ↦ absurd (h.1 refl) ]

retold_else : (before : ℕ → List ℕ) (t e : ℕ) → e ≢ t → retold before t e ≡ before e
retold_else before t e ne = elim (eqb_tells e t) [ inl h ↦ absurd (ne h.1) | inr h ↦ ap (λ (b : Bool). cond b [] (before e)) h.0 ]

retold_fresh : (before : ℕ → List ℕ) (t e : ℕ) → before e ≡ [] → retold before t e ≡ []
retold_fresh before t e fresh = elim (eqb_tells e t) [ inl h ↦ ap (λ (b : Bool). cond b [] (before e)) h.0 | inr h ↦ ap (λ (b : Bool). cond b [] (before e)) h.0 ∙ fresh ]

module _ (code : CodeParts) (main : Start CodeScript) (first : List ℕ) (before : ℕ → List ℕ) (n : ℕ) (k : Parts (Box Job)) (sights : List (Sight CodeScript)) (f : Field (asks code) main first (is_job_of code before) n k sights)
    (id : ℕ) (v : Sight CodeScript) (at : get_elem? sights id ≡ maybe.some v) (a : Making) (among : Among a v.makes) (two : k.bodies a.task ≡ 2) where
  abbrev made : IsMade (asks code) (is_job_of code before) k f.net f.role f.opened v a
  made = f.made id v at a among

  -- the task is not there yet
  not_there : (p : List ℕ) (u : Task CodeScript) → IsNumberOf f.role a.task p → At f.state p u → ⊥
  not_there p u num h = go a.task refl p num h
    where
      absent : (y : Task CodeScript) → At f.state made.own.0.path y → ⊥
      absent y there =
          let o = (f.counts.opened_is a.task made.own.0 made.own.1 made.own.3).1 (y, there) in
          let z : false ≡ true = sym made.closed ∙ o in
          cc

      same : (x y : Role) → Some x ≡ Some y → x ≡ y
      same x y q = cc

      go : (t : ℕ) → t ≡ a.task → (p : List ℕ) → IsNumberOf f.role t p → At f.state p u → ⊥
      go t q p of_main there = let z : None ≡ Some made.own.0 = sym f.roles.main ∙ (ap (λ (y : ℕ). f.role y) q ∙ made.own.1) in cc
      go t q p (of_entry r is site path) there =
          let e : r ≡ made.own.0 = same r made.own.0 (sym is ∙ (ap (λ (y : ℕ). f.role y) q ∙ made.own.1)) in
          absent u (subst (λ (z : List ℕ). At f.state z u) (sym path ∙ ap (λ (y : Role). y.path) e) there)

  -- so no job that is held is its own
  pub held_else : (j : ℕ) (w : Sight CodeScript) → get_elem? sights j ≡ maybe.some w → (i : ℕ) (h : Holding) → get_elem? w.bears i ≡ maybe.some (bearing_of h) → h.number ≢ a.task
  held_else j w sits i h has q =
      let b = f.borne j w sits i (bearing_of h) has in
      not_there h.path b.task (subst (λ (z : ℕ). IsNumberOf f.role z h.path) q b.number) b.at_

  abbrev before' : ℕ → List ℕ
  before' = retold before a.task

  job_else : (t : ℕ) → t ≢ a.task → (j : Box Job) (b : Body CodeScript) (last : Site → Option ℕ) → is_job_of code before j t b last → is_job_of code (retold before a.task) j t b last
  job_else t ne j b last is = subst (λ (z : List ℕ). IsJob code z (box_value j) t b last) (sym (retold_else before a.task t ne)) is

  somewhere_now : (t : ℕ) (p : List ℕ) (b : Body CodeScript) → t ≢ a.task → IsSomewhere (is_job_of code before) k sights f.net f.role t p b → IsSomewhere (is_job_of code (retold before a.task)) k sights f.net f.role t p b
  somewhere_now t p b ne (at_home j last one job is lasts none) = at_home j last one job (job_else t ne j b last is) lasts none
  somewhere_now t p b ne (is_out y none one) = is_out y none one

  put_now : (m : Making) (b : Body CodeScript) → IsPut (is_job_of code before) k m b → IsPut (is_job_of code (retold before a.task)) k m b
  put_now m b (not_put stage y none) = not_put stage y none
  put_now m b (going stage y none) = going stage y none
  put_now m b (is_put j stage one job is) =
      is_put j stage one job (job_else m.task (λ q. let z : 1 ≡ 2 = sym one ∙ (ap (λ (y : ℕ). k.bodies y) q ∙ two) in omega (arith, z)) j b (λ y. None) is)

  pub field_now : FieldAt (asks code) main first (is_job_of code (retold before a.task)) n f.net f.gave f.role k sights
  field_now = record {
    field = record {
      net = f.net;
      gave = f.gave;
      role = f.role;
      opened = f.opened;
      state = f.state;
      words = f.words;
      gave_hangs = f.gave_hangs;
      unused = f.unused;
      roles = f.roles;
      filed = f.filed;
      given = f.given;
      counts = f.counts;
      cells = f.cells;
      planned = f.planned;
      somewhere = λ t p u num h. somewhere_now t p u.body (λ q. not_there p u (subst (λ (z : ℕ). IsNumberOf f.role z p) q num) h) (f.somewhere t p u num h);
      borne = f.borne;
      made = λ j w sits m in_. let y = f.made j w sits m in_ in record {
        creator = y.creator;
        place = y.place;
        held = y.held;
        by = y.by;
        order = y.order;
        act = y.act;
        closed = y.closed;
        own = y.own;
        access = y.access;
        job = put_now m (new_task (asks code) y.creator.body y.order).body y.job;
      };
      left = f.left;
      numbered = f.numbered;
      loaded = f.loaded;
      joined = f.joined;
      joined_given = f.joined_given;
      ready = f.ready;
      seen = f.seen;
      still = f.still;
      setting = f.setting;
      reached = f.reached;
    };
    same_net = refl;
    same_gave = refl;
    same_role = refl;
  }

-- the table, with the job of that task told anew
pub stands_retold : (code : CodeParts) (fuel n : ℕ) (ws : List ℕ) (homes : List (maybe.Option Slot)) (views : List SeatView) (stands : Stands code fuel n ws homes views) (id : ℕ) (v : SeatView) → get_elem? views id ≡ maybe.some v
    → (a : Making) → Among a v.known.makes → slice_index ws (body_word_of (length code.first) a.task) ≡ 2 → (s : Stands code fuel n ws homes views) × (s.before a.task ≡ [])
stands_retold code fuel n ws homes views stands id v sits a among two = (
  record {
    net = stands.net;
    gave = stands.gave;
    role = stands.role;
    before = retold stands.before a.task;
    fresh = λ t. retold_fresh stands.before a.task t (stands.fresh t);
    cells = stands.cells;
    size = stands.size;
    slots = stands.slots;
    sized = stands.sized;
    cell_words = stands.cell_words;
    empty = stands.empty;
    whole = stands.whole;
    neat = stands.neat;
    rule = record { field = g.field; same_net = g.same_net ∙ stands.rule.same_net; same_gave = g.same_gave ∙ stands.rule.same_gave; same_role = g.same_role ∙ stands.rule.same_role };
    told = λ j y at h in_. retold_else stands.before a.task h.number (other j y at h in_) ∙ stands.told j y at h in_;
    drawn = stands.drawn;
    undrawn = stands.undrawn;
    selves = stands.selves;
    heard = stands.heard;
    marked = stands.marked;
    seats = stands.seats;
    planned = stands.planned;
  },
  retold_here stands.before a.task,
)
  where
    g : FieldAt (asks code) (code_main code fuel) code.first (is_job_of code (retold stands.before a.task)) n stands.rule.field.net stands.rule.field.gave stands.rule.field.role (parts_of (length code.first) ws homes stands.cells) (sights_of views)
    g = field_now code (code_main code fuel) code.first stands.before n (parts_of (length code.first) ws homes stands.cells) (sights_of views) stands.rule.field id (sight_of v.known) (sits_at views id v sits) a among two

    other : (j : ℕ) (y : SeatView) → get_elem? views j ≡ maybe.some y → (h : Holding) → Among h y.known.bears → h.number ≢ a.task
    other j y at h in_ =
        let i = at_among h y.known.bears in_ in
        held_else code (code_main code fuel) code.first stands.before n (parts_of (length code.first) ws homes stands.cells) (sights_of views) stands.rule.field id (sight_of v.known) (sits_at views id v sits) a among two
        j (sight_of y.known) (sits_at views j y at) i.0 h (at_map bearing_of y.known.bears i.0 h i.1)

-- A step of the first put

module _ (code : CodeParts) (fuel n : ℕ) (z : State Slot SeatView) (stands : Stands code fuel n z.words z.homes z.views) (id : ℕ) (v : SeatView) (sits : get_elem? z.views id ≡ maybe.some v)
    (stage stage' : ℕ) (job : Job) (may : MayPutAt stage code job v.known) (inside : task_of job < n) (x : ℕ) (home' : maybe.Option Slot) (some : x ≡ 0 → ⊥)
    (word : ℕ) (found : ℕ) where
  abbrev t : ℕ
  t = task_of job

  abbrev h : Holding
  h = may.holding

  abbrev l : Known
  l = touched word found (staged may.holding.number (task_of job) stage' v.known)

  abbrev m' : Making
  m' = record { by = may.holding.number; task = task_of job; stage = stage' }

  abbrev parts' : Parts (Box Job)
  parts' = parts_of (length code.first) (set z.words (body_word_of (length code.first) (task_of job)) x) (set z.homes (task_of job) home') stands.cells

  pub stage_stands : IsPut (is_job_of code stands.before) (record (parts_of (length code.first) z.words z.homes stands.cells) { bodies = parts'.bodies; jobs = parts'.jobs }) m' (new_task (asks code) may.holding.body may.order).body
      → Stands code fuel n (set z.words (body_word_of (length code.first) (task_of job)) x) (set z.homes (task_of job) home') (set z.views id (record { known = l }))
  stage_stands put =
      slot_stands code fuel n z.words z.homes z.views stands (task_of job) inside x home' id v l sits refl refl (stands.told id v sits) some
      (chained stands (first_puts_keep CodeScript (Box Job) (is_job_of code stands.before) (asks code) (code_main code fuel) code.first n (parts_of (length code.first) z.words z.homes stands.cells) (sights_of z.views) stands.rule.field
      id (sight_of v.known) (sight_of l) may.place (bearing_of may.holding) may.order (record { by = may.holding.number; task = task_of job; stage = stage }) m' parts'.bodies parts'.jobs (record {
        sits = sits_at z.views id v sits;
        has = at_map bearing_of v.known.bears may.place may.holding may.holds;
        by = refl;
        act = may.act;
        among = may.among;
        among_now = among_first refl;
        task = refl;
        maker = refl;
        others = λ a in_. elim in_ [ among_first p ↦ inl (sym p) | among_later b ↦ inr (made_is (task_of job) v.known.makes a b) ];
        kept = λ a in_. kept a in_;
        other_bodies = bodies_else code fuel n z.words z.homes z.views stands (task_of job) inside x home';
        other_jobs = jobs_else code fuel n z.words z.homes z.views stands (task_of job) inside x home';
        put = put;
        bears = refl;
        same = record { words = refl; owes = refl; joined = refl; ready = refl; loaded = refl; seen = refl; still = refl };
      })))
    where
      kept : (a : Making) → Among a v.known.makes → (y : Making) × Among y (m' ∷ made_beside (task_of job) v.known.makes) × (y.task ≡ a.task)
      kept a in_ = elim (eqb_tells a.task (task_of job)) [
        | inl q ↦ (m', among_first refl, sym q.1)
        | inr q ↦ (a, among_later (made_kept (task_of job) v.known.makes a in_ q.1), refl)
      ]

-- the empty slot is taken hold of
module _ (code : CodeParts) (fuel n slots id : ℕ) (v : SeatView) (c : List (ℕ × Slot)) (job : Job) (may : MayPutFirst code job v.known) (inside : task_of job < n) where
  pub holds_slot : Allows (λ (z : State Slot SeatView). Stands code fuel n z.words z.homes z.views) slots id (v, c) (body_word_of (length code.first) (task_of job)) (λ _. 2)
      (λ _ w. HoldsNew code (length code.first) job (v, c) w)
  holds_slot z stands size sits small =
      let t : ℕ = task_of job in
      let l : Known = touched (body_word_of (length code.first) (task_of job)) 2 (staged may.holding.number (task_of job) 1 v.known) in
      let a : Making = record { by = may.holding.number; task = task_of job; stage = 0 } in
      let k : Parts (Box Job) = parts_of (length code.first) z.words z.homes stands.cells in
      let made = stands.rule.field.made id (sight_of v.known) (sits_at z.views id v sits) a may.among in
      let none : slice_index z.words (body_word_of (length code.first) (task_of job)) ≡ 0 = empty_slot code stands.before k a (new_task (asks code) made.creator.body made.order).body refl made.job in
      let empty : get_elem? z.homes (task_of job) ≡ maybe.some (maybe.some None) = stands.empty (task_of job) inside none in
      let out : get_elem? (set z.homes (task_of job) maybe.none) (task_of job) ≡ maybe.some maybe.none = set_here z.homes (task_of job) maybe.none (let s = stands.slots in omega (arith, s, inside)) in (
        record { known = l },
        takes (task_of job) None,
        empty,
        stage_stands code fuel n z stands id v sits 0 1 job may inside 2 maybe.none (λ q. absurd (omega (arith, q))) (body_word_of (length code.first) (task_of job)) 2
            (going refl (here code fuel n z.words z.homes z.views stands (task_of job) inside 2 maybe.none) (ap (λ (y : Home (Box Job)). job_in y) out)),
        (may, refl, refl),
      )
    where
      empty_slot : (code : CodeParts) (before : ℕ → List ℕ) (k : Parts (Box Job)) (a : Making) (b : Body CodeScript) → a.stage ≡ 0 → IsPut (is_job_of code before) k a b → k.bodies a.task ≡ 0
      empty_slot code before k a b stage (not_put s y none) = y
      empty_slot code before k a b stage (going s y none) = absurd (let q : 1 ≡ 0 = sym s ∙ stage in omega (arith, q))
      empty_slot code before k a b stage (is_put j s one y is) = absurd (let q : 2 ≡ 0 = sym s ∙ stage in omega (arith, q))

-- the job stands in it
module _ (code : CodeParts) (fuel n slots id : ℕ) (v : SeatView) (c : List (ℕ × Slot)) (j : Box Job) (may : MayPutAt 1 code (box_value j) v.known) (inside : task_of (box_value j) < n) where
  abbrev put : Known
  put = touched (body_word_of (length code.first) (task_of (box_value j))) 1 (staged may.holding.number (task_of (box_value j)) 2 v.known)

  abbrev laid : Making
  laid = record { by = may.holding.number; task = task_of (box_value j); stage = 1 }

  out_slot : (code : CodeParts) (before : ℕ → List ℕ) (k : Parts (Box Job)) (m : Making) (b : Body CodeScript) → m.stage ≡ 1 → IsPut (is_job_of code before) k m b → k.bodies m.task ≡ 2
  out_slot code before k m b stage (not_put s y none) = absurd (let q : 0 ≡ 1 = sym s ∙ stage in omega (arith, q))
  out_slot code before k m b stage (going s y none) = y
  out_slot code before k m b stage (is_put j s one y is) = absurd (let q : 2 ≡ 1 = sym s ∙ stage in omega (arith, q))

  new_stands : (z : State Slot SeatView) → Stands code fuel n z.words z.homes z.views → get_elem? z.views id ≡ maybe.some v
      → Stands code fuel n (set z.words (body_word_of (length code.first) (task_of (box_value j))) 1) (set z.homes (task_of (box_value j)) (maybe.some (Some j))) (set z.views id (record { known = put }))
  new_stands z stands sits =
      let k : Parts (Box Job) = parts_of (length code.first) z.words z.homes stands.cells in
      let made = stands.rule.field.made id (sight_of v.known) (sits_at z.views id v sits) laid may.among in
      let two : slice_index z.words (body_word_of (length code.first) (task_of (box_value j))) ≡ 2 = out_slot code stands.before k laid (new_task (asks code) made.creator.body made.order).body refl made.job in
      let again = stands_retold code fuel n z.words z.homes z.views stands id v sits laid may.among two in
      let full : get_elem? (set z.homes (task_of (box_value j)) (maybe.some (Some j))) (task_of (box_value j)) ≡ maybe.some (maybe.some (Some j)) = set_here z.homes (task_of (box_value j)) (maybe.some (Some j)) (let s = stands.slots in omega (arith, s, inside)) in
      stage_stands code fuel n z again.0 id v sits 1 2 (box_value j) may inside 1 (maybe.some (Some j)) (λ q. absurd (omega (arith, q))) (body_word_of (length code.first) (task_of (box_value j))) 1
      (is_put j refl (here code fuel n z.words z.homes z.views again.0 (task_of (box_value j)) inside 1 (maybe.some (Some j))) (ap (λ (y : Home (Box Job)). job_in y) full)
      (subst (λ (y : List ℕ). IsJob code y (box_value j) (task_of (box_value j)) (new_task (asks code) may.holding.body may.order).body (λ x. None)) (sym again.1) may.is))

  pub puts_new : Allows (λ (z : State Slot SeatView). Stands code fuel n z.words z.homes z.views) slots id (v, (task_of (box_value j), Some j) ∷ c) (body_word_of (length code.first) (task_of (box_value j))) (λ _. 1)
      (λ _ w. PutsNew code (length code.first) (v, (task_of (box_value j), Some j) ∷ c) w)
  puts_new z stands size sits small = (
    record { known = put },
    gives,
    tt,
    new_stands z stands sits,
    (λ k d q. subst (λ (y : Box Job). (m : MayPutAt 1 code (box_value y) v.known) × (put ≡ touched (body_word_of (length code.first) (task_of (box_value y))) 1 (staged m.holding.number (task_of (box_value y)) 2 v.known)) × (c ≡ d)) (first_job j q)
        (may, refl, ap rest q)),
  )

-- The two steps together

-- after the first the seat may put the job
pub going_on : (code : CodeParts) (job : Job) (k l : Known) (word found : ℕ) (may : MayPutFirst code job k) → l ≡ touched word found (staged may.holding.number (task_of job) 1 k) → MayPutAt 1 code job l
going_on code job k l word found may e = subst (λ (z : Known). MayPutAt 1 code job z) (sym e) (record {
  place = may.place;
  holding = may.holding;
  order = may.order;
  holds = may.holds;
  act = may.act;
  among = among_first refl;
  is = may.is;
})

-- and after the second it has put it
pub put_whole : (code : CodeParts) (job : Job) (m : ℕ) (k a l : Known) (may : MayPutFirst code job k) → a ≡ touched (body_word_of m (task_of job)) 2 (staged may.holding.number (task_of job) 1 k)
    → (again : MayPutAt 1 code job a) → l ≡ touched (body_word_of m (task_of job)) 1 (staged again.holding.number (task_of job) 2 a) → IsPutFirst code job m k l
put_whole code job m k a l may first again second =
    let t : ℕ = task_of job in
    let w : ℕ = body_word_of m (task_of job) in
    let by : again.holding.number ≡ may.holding.number = same_maker (task_of job) may.holding.number again.holding.number 1 k.makes
    (subst (λ (z : Known). Among (record { by = again.holding.number; task = task_of job; stage = 1 }) z.makes) first again.among) in
    record {
      may = may;
      known =
          second
          ∙ (ap (λ (z : ℕ). touched (body_word_of m (task_of job)) 1 (staged z (task_of job) 2 a)) by
          ∙ (ap (λ (z : Known). touched (body_word_of m (task_of job)) 1 (staged may.holding.number (task_of job) 2 z)) first
          ∙ staged_twice m (task_of job) may.holding.number k));
    }
