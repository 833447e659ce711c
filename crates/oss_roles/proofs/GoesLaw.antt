-- What the rule says of jobs and of the state, after a step that was given a job.
use Rattle.std.proofs.Common.{◌≡◌, ◌≢◌, inl, inr, sym, subst, refl, ◌∙◌, ap, ℕ, ◌≤◌, arith, true, false, List, ◌∷◌, set, Option}
use Rattle.std.specs.Prelude.{slice_index}
use mathlib.Core.Option as maybe
use lib.ListN.{get_elem?}
use Rattle.atomic_table.proofs.Lists.{at_set, at_map, set_else}
use Rattle.oss_syntax.specs.declared.access.Mode.TheVariants.{Fold}
use Rattle.oss_syntax.specs.declared.access.Op.{Op}
use Rattle.oss_model.specs.Bodies.{Order, Program, Start, Body}
use Rattle.oss_model.specs.Bodies.Act.{Created, Folded}
use Rattle.oss_model.specs.Context.{right_of}
use Rattle.oss_model.specs.Rights.{Holds}
use Rattle.oss_model.specs.Machine.{Task, State, At, IsReady}
use Rattle.oss_model.specs.Moves.{act_now, created_now, is_ended, slot_of, new_task}
use Rattle.oss_model.proofs.MoveLemmas.{which_path}
use Rattle.oss_model.proofs.TreeLemmas.{at_same}
use Rattle.oss_words.specs.Views.{Among}
use Rattle.oss_words.proofs.SumLemmas.{total_at, same_number}
use Rattle.oss_words.proofs.KeptLaw.{at_here}
use Rattle.oss_roles.specs.Field.{Field, Parts, Sits, Bears, times, numbers_of, held_by_all, IsMaking, is_making, IsNumberOf, AreLast, IsSomewhere, at_home, is_out, IsBorne, IsPut, not_put, going, is_put, IsMade, IsLeft, IsPending}
use Rattle.oss_roles.proofs.Going.{Went}
use Rattle.oss_roles.specs.Numbers.{entry_number}
use Rattle.oss_roles.specs.Roles.{Role, Site, AreFiled}
use Rattle.oss_roles.specs.Sights.{Bearing, Making, Noted, Sight, Telling}
use Rattle.oss_roles.specs.Steps.{JobGoes}
use Rattle.oss_roles.proofs.HoldLemmas.{times_one, times_two, total_two, held_same, numbers_same, number_one}
use Rattle.oss_roles.proofs.StateLemmas.{ready_on, filed_on, clause_on}

-- making, if the views make the same tasks
pub making_on : {S : Type 0} (sights : List (Sight S)) (id : ℕ) (v w : Sight S) → Sits sights id v → w.makes ≡ v.makes → (t : ℕ) → IsMaking sights t → IsMaking (set sights id w) t
making_on sights id v w at same t (is_making j x sits m among is) = elim (same_number j id) [
  | inl e ↦
      let here : x ≡ v = maybe.some-injective x v (sym sits ∙ ap (λ (k : ℕ). get_elem? sights k) e ∙ at) in
      is_making id w (at_here sights id v w at) m (subst (λ (l : List Making). Among m l) (sym same) (subst (λ (z : Sight _). Among m z.makes) here among)) is
  | inr ne ↦ is_making j x (set_else sights id j w ne ∙ sits) m among is
]

pub making_back : {S : Type 0} (sights : List (Sight S)) (id : ℕ) (v w : Sight S) → Sits sights id v → w.makes ≡ v.makes → (t : ℕ) → IsMaking (set sights id w) t → IsMaking sights t
making_back sights id v w at same t (is_making j x sits m among is) = elim (at_set sights id j w x sits) [
  | inl h ↦ is_making id v at m (subst (λ (l : List Making). Among m l) same (subst (λ (z : Sight _). Among m z.makes) (sym h.1) among)) is
  | inr h ↦ is_making j x h.1 m among is
]

module _ {S J : Type 0} (P : Program S) (main : Start S) (first : List ℕ) (is_job : Telling S J) (n : ℕ) (k : Parts J) (sights : List (Sight S)) (f : Field P main first is_job n k sights) where
  -- two seats, or two places of one, do not hold jobs of one task
  pub one_holder : (id j i m : ℕ) (v x : Sight S) (b d : Bearing S) → Sits sights id v → Bears v i b → Sits sights j x → Bears x m d → b.path ≡ d.path → (id ≡ j) × (i ≡ m)
  one_holder id j i m v x b d at has sits holds path =
      let bb = f.borne id v at i b has in
      let dd = f.borne j x sits m d holds in
      let same : b.number ≡ d.number = number_one f.net k.infos f.role f.roles b.number d.number b.path d.path bb.number dd.number path in
      let place_b : get_elem? (numbers_of v.bears) i ≡ maybe.some b.number = at_numbers v.bears i b has in
      let place_d : get_elem? (numbers_of x.bears) m ≡ maybe.some b.number = at_numbers x.bears m d holds ∙ ap (λ (z : ℕ). maybe.some z) (sym same) in
      let most : held_by_all sights b.number ≤ 1 = at_most b.number (f.somewhere b.number b.path bb.task bb.number bb.at_) in
      elim (same_number id j) [
        | inl e ↦
            let here : x ≡ v = maybe.some-injective x v (sym sits ∙ ap (λ (z : ℕ). get_elem? sights z) (sym e) ∙ at) in
            elim (same_number i m) [
              | inl q ↦ (e, q)
              | inr ne ↦
                  let two = times_two b.number (numbers_of v.bears) i m place_b (subst (λ (z : Sight S). get_elem? (numbers_of z.bears) m ≡ maybe.some b.number) here place_d) ne in
                  let one = total_at (λ (z : Sight S). times b.number (numbers_of z.bears)) sights id v at in
                  absurd (omega (arith, most, two, one))
            ]
        | inr ne ↦
            let both = total_two (λ (z : Sight S). times b.number (numbers_of z.bears)) sights id j v x ne at sits in
            let a = times_one b.number (numbers_of v.bears) i place_b in
            let c = times_one b.number (numbers_of x.bears) m place_d in
            absurd (omega (arith, most, both, a, c))
      ]
    where
      at_numbers : (l : List (Bearing S)) (q : ℕ) (y : Bearing S) → get_elem? l q ≡ maybe.some y → get_elem? (numbers_of l) q ≡ maybe.some y.number
      at_numbers l q y h = at_map (λ (z : Bearing S). z.number) l q y h

      at_most : (t : ℕ) {p : List ℕ} {y : Body S} → IsSomewhere is_job k sights f.net f.role t p y → held_by_all sights t ≤ 1
      at_most t (at_home a l x z u al h) = omega (arith, h)
      at_most t (is_out x z h) = omega (arith, h)

  module _ (id : ℕ) (v w : Sight S) (at : Sits sights id v) (i : ℕ) (b c : Bearing S) (step : JobGoes v w i b c) (m : State S) (t : Task S) (went : Went P main first f.state b.path m t) (body : t.body ≡ c.body)
      (k' : Parts J) (bodies : k'.bodies ≡ k.bodies) (jobs : k'.jobs ≡ k.jobs) where
    abbrev sights' : List (Sight S)
    sights' = set sights id w

    here : Sits sights' id w
    here = at_here sights id v w at

    last_on : (p : List ℕ) (last : Site → Option ℕ) → AreLast sights f.net f.role p last → AreLast sights' f.net f.role p last
    last_on p last l =
        record {
          some = λ y o is.
              let a = l.some y o is in
              (a.0, a.1, a.2, a.3, a.4, a.5, (λ e q j eis h path site free. a.6 e q j eis h path site (λ z. free (making_on sights id v w at step.makes q.task z))));
          none = λ y is e q j eis h path site. making_on sights id v w at step.makes q.task (l.none y is e q j eis h path site);
        }

    held_is : (q : ℕ) → held_by_all sights' q ≡ held_by_all sights q
    held_is = held_same sights id v w at (ap numbers_of step.bears ∙ numbers_same v.bears i b c step.has step.number)

    mine : IsBorne f.state sights f.net f.role b
    mine = f.borne id v at i b step.has

    pub goes_filed : AreFiled m f.net f.role
    goes_filed = filed_on P f.state m went.continues f.net f.role f.filed

    pub goes_somewhere : (q : ℕ) (p : List ℕ) (u : Task S) → IsNumberOf f.role q p → At m p u → IsSomewhere is_job k' sights' f.net f.role q p u.body
    goes_somewhere q p u num at_ = elim (which_path p b.path) [
      | inl e ↦
          let same : q ≡ b.number = number_one f.net k.infos f.role f.roles q b.number p b.path num mine.number e in
          held_out q p u.body same (f.somewhere q p mine.task num (subst (λ (z : List ℕ). At f.state z mine.task) (sym e) mine.at_))
      | inr ne ↦ elsewhere q p u.body (f.somewhere q p u num (sym (went.turned.others p ne) ∙ at_))
    ]
      where
        elsewhere : (q : ℕ) (p : List ℕ) (y : Body S) → IsSomewhere is_job k sights f.net f.role q p y → IsSomewhere is_job k' sights' f.net f.role q p y
        elsewhere q p y (at_home j last one is job l none) = at_home j last (ap (λ (z : ℕ → ℕ). z q) bodies ∙ one) (ap (λ (z : ℕ → Option J). z q) jobs ∙ is) job (last_on p last l) (held_is q ∙ none)
        elsewhere q p y (is_out two is one) = is_out (ap (λ (z : ℕ → ℕ). z q) bodies ∙ two) (ap (λ (z : ℕ → Option J). z q) jobs ∙ is) (held_is q ∙ one)

        held_out : (q : ℕ) (p : List ℕ) (y : Body S) → q ≡ b.number → {x : Body S} → IsSomewhere is_job k sights f.net f.role q p x → IsSomewhere is_job k' sights' f.net f.role q p y
        held_out q p y same (at_home j last one is job l none) =
            let a = times_one b.number (numbers_of v.bears) i (at_map (λ (z : Bearing S). z.number) v.bears i b step.has) in
            let d = total_at (λ (z : Sight S). times b.number (numbers_of z.bears)) sights id v at in
            let e : held_by_all sights b.number ≡ 0 = subst (λ (z : ℕ). held_by_all sights z ≡ 0) same none in
            absurd (omega (arith, a, d, e))
        held_out q p y same (is_out two is one) = is_out (ap (λ (z : ℕ → ℕ). z q) bodies ∙ two) (ap (λ (z : ℕ → Option J). z q) jobs ∙ is) (held_is q ∙ one)

    -- a job of another task is borne as before
    borne_on : (d : Bearing S) → d.path ≢ b.path → IsBorne f.state sights f.net f.role d → IsBorne m sights' f.net f.role d
    borne_on d ne k =
        record {
          number = k.number;
          task = k.task;
          at_ = went.turned.others d.path ne ∙ k.at_;
          body = k.body;
          ready = ready_on P f.state m went.continues d.path d.body.start.context k.ready;
          last = last_on d.path d.last k.last;
        }

    mine_now : IsBorne m sights' f.net f.role c
    mine_now =
        record {
          number = subst (λ (z : ℕ). IsNumberOf f.role z c.path) (sym step.number) (subst (λ (z : List ℕ). IsNumberOf f.role b.number z) (sym step.path) mine.number);
          task = t;
          at_ = subst (λ (z : List ℕ). At m z t) (sym step.path) went.turned.own;
          body = body;
          ready = subst (λ (z : List ℕ). IsReady m z c.body.start.context) (sym step.path)
              (subst (λ (z : Start S). IsReady m b.path z.context) (sym step.start) (ready_on P f.state m went.continues b.path b.body.start.context mine.ready));
          last = subst (λ (z : List ℕ). AreLast sights' f.net f.role z c.last) (sym step.path) (subst (λ (z : Site → Option ℕ). AreLast sights' f.net f.role b.path z) (sym step.last) (last_on b.path b.last mine.last));
        }

    -- what a seat bears now it bore before, or it is the job that has gone on
    data Bore (j q : ℕ) (d : Bearing S) : Type 0 where
      gone_on : j ≡ id → d ≡ c → Bore j q d
      as_before : (x : Sight S) → Sits sights j x → Bears x q d → d.path ≢ b.path → Bore j q d

    bore : (j : ℕ) (x : Sight S) → Sits sights' j x → (q : ℕ) (d : Bearing S) → Bears x q d → Bore j q d
    bore j x sits q d has = elim (at_set sights id j w x sits) [
      | inl h ↦
          let now : get_elem? (set v.bears i c) q ≡ maybe.some d = ap (λ (z : List (Bearing S)). get_elem? z q) (sym step.bears) ∙ subst (λ (z : Sight S). get_elem? z.bears q ≡ maybe.some d) (sym h.1) has in
          elim (at_set v.bears i q c d now) [
            | inl g ↦ gone_on h.0 (sym g.1)
            | inr g ↦ as_before v (ap (λ (z : ℕ). get_elem? sights z) h.0 ∙ at) g.1 (λ path. g.0 (sym (one_holder id j i q v v b d at step.has (ap (λ (z : ℕ). get_elem? sights z) h.0 ∙ at) g.1 (sym path)).1))
          ]
      | inr h ↦ as_before x h.1 has (λ path. h.0 (sym (one_holder id j i q v x b d at step.has h.1 has (sym path)).0))
    ]

    pub goes_borne : (j : ℕ) (x : Sight S) → Sits sights' j x → (q : ℕ) (d : Bearing S) → Bears x q d → IsBorne m sights' f.net f.role d
    goes_borne j x sits q d has = elim (bore j x sits q d has) [
      | gone_on e same ↦ subst (λ (z : Bearing S). IsBorne m sights' f.net f.role z) (sym same) mine_now
      | as_before y old holds ne ↦ borne_on d ne (f.borne j y old q d holds)
    ]

    -- the tasks that are made, whose creators stand before their creations
    pub goes_made : ((o : Order S) → act_now P b.body ≡ Created o false → c.body ≡ b.body) → (j : ℕ) (x : Sight S) → Sits sights' j x → (a : Making) → Among a x.makes → IsMade P is_job k' f.net f.role f.opened x a
    goes_made stands j x sits a among = elim (at_set sights id j w x sits) [
      | inl h ↦ subst (λ (z : Sight S). IsMade P is_job k' f.net f.role f.opened z a) h.1 (mine_made (f.made id v at a (subst (λ (z : List Making). Among a z) step.makes (subst (λ (z : Sight S). Among a z.makes) (sym h.1) among))))
      | inr h ↦ made_same x (f.made j x h.1 a among)
    ]
      where
        job_on : (y : Body S) → IsPut is_job k a y → IsPut is_job k' a y
        job_on y (not_put one two none) = not_put one (ap (λ (z : ℕ → ℕ). z a.task) bodies ∙ two) (ap (λ (z : ℕ → Option J). z a.task) jobs ∙ none)
        job_on y (going one two none) = going one (ap (λ (z : ℕ → ℕ). z a.task) bodies ∙ two) (ap (λ (z : ℕ → Option J). z a.task) jobs ∙ none)
        job_on y (is_put x one two is job) = is_put x one (ap (λ (z : ℕ → ℕ). z a.task) bodies ∙ two) (ap (λ (z : ℕ → Option J). z a.task) jobs ∙ is) job

        made_same : (y : Sight S) → IsMade P is_job k f.net f.role f.opened y a → IsMade P is_job k' f.net f.role f.opened y a
        made_same y g =
            record {
              creator = g.creator;
              place = g.place;
              held = g.held;
              by = g.by;
              order = g.order;
              act = g.act;
              closed = g.closed;
              own = g.own;
              access = g.access;
              job = job_on (new_task P g.creator.body g.order).body g.job;
            }

        mine_made : IsMade P is_job k f.net f.role f.opened v a → IsMade P is_job k' f.net f.role f.opened w a
        mine_made g = elim (same_number g.place i) [
          | inl e ↦
              let one : g.creator ≡ b = maybe.some-injective g.creator b (sym g.held ∙ ap (λ (z : ℕ). get_elem? v.bears z) e ∙ step.has) in
              let same : c.body ≡ g.creator.body = stands g.order (subst (λ (z : Bearing S). act_now P z.body ≡ Created g.order false) one g.act) ∙ ap (λ (z : Bearing S). z.body) (sym one) in
              let path : c.path ≡ g.creator.path = step.path ∙ ap (λ (z : Bearing S). z.path) (sym one) in
              record {
                creator = c;
                place = i;
                held = ap (λ (z : List (Bearing S)). get_elem? z i) step.bears ∙ at_here v.bears i b c step.has;
                by = step.number ∙ ap (λ (z : Bearing S). z.number) (sym one) ∙ g.by;
                order = g.order;
                act = subst (λ (z : Body S). act_now P z ≡ Created g.order false) (sym same) g.act;
                closed = g.closed;
                own = let o = g.own in (o.0, o.1, subst (λ (z : Body S). o.0.path ≡ created_now P z ∷ c.path) (sym same) (subst (λ (z : List ℕ). o.0.path ≡ created_now P g.creator.body ∷ z) (sym path) o.2), o.3, o.4);
                access = λ d mode strong right.
                    let r = g.access d mode strong (subst (λ (z : Body S). right_of (new_task P z g.order).body.start.context d ≡ Holds mode strong) same right) in (
                      r.0,
                      r.1,
                      r.2,
                      subst (λ (z : Body S). r.1.path ≡ created_now P z ∷ c.path) (sym same) (subst (λ (z : List ℕ). r.1.path ≡ created_now P g.creator.body ∷ z) (sym path) r.3),
                      r.4,
                      r.5,
                      r.6,
                      r.7,
                      subst (λ (z : Body S). r.0 ≡ entry_number a.task (right_of (new_task P z g.order).body.start.context) d) (sym same) r.8,
                    );
                job = job_on (new_task P c.body g.order).body (subst (λ (z : Body S). IsPut is_job k a (new_task P z g.order).body) (sym same) g.job);
              }
          | inr ne ↦ record {
            creator = g.creator;
            place = g.place;
            held = ap (λ (z : List (Bearing S)). get_elem? z g.place) step.bears ∙ set_else v.bears i g.place c ne ∙ g.held;
            by = g.by;
            order = g.order;
            act = g.act;
            closed = g.closed;
            own = g.own;
            access = g.access;
            job = job_on (new_task P g.creator.body g.order).body g.job;
          }
        ]

    -- a reduction that was left stays so
    pub goes_left : (is_ended P b.body ≡ true → c.body ≡ b.body) → (e : ℕ) (r : Role) → IsLeft P f.state k.values e r → IsLeft P m k.values e r
    goes_left stands e r l = elim (which_path r.path b.path) [
      | inl q ↦
          let one : l.task ≡ mine.task = at_same f.state b.path l.task mine.task (subst (λ (z : List ℕ). At f.state z l.task) q l.at_) mine.at_ in
          let old : l.task.body ≡ b.body = ap (λ (z : Task S). z.body) one ∙ mine.body in
          let same : l.task.body ≡ t.body = old ∙ sym (stands (subst (λ (z : Body S). is_ended P z ≡ true) old l.ended)) ∙ sym body in
          record {
            cell = l.cell;
            site = l.site;
            op = l.op;
            task = t;
            at_ = subst (λ (z : List ℕ). At m z t) (sym q) went.turned.own;
            right = subst (λ (z : Body S). right_of z.start.context l.cell ≡ Holds (Fold l.op) true) same l.right;
            ended = subst (λ (z : Body S). is_ended P z ≡ true) same l.ended;
            wait = clause_on P f.state m went.continues r.path l.task t (ap (λ (z : Body S). z.start) (sym same)) l.wait;
            value = subst (λ (z : Body S). k.values e ≡ slot_of P z.start l.cell l.op z.found) same l.value;
          }
      | inr ne ↦ record {
        cell = l.cell;
        site = l.site;
        op = l.op;
        task = l.task;
        at_ = went.turned.others r.path ne ∙ l.at_;
        right = l.right;
        ended = l.ended;
        wait = clause_on P f.state m went.continues r.path l.task l.task refl l.wait;
        value = l.value;
      }
    ]

    -- pending folds of other tasks find their cells as they were
    pub goes_loaded : ((d : Bearing S) (cell : ℕ) (op : Op) (x : ℕ) → d.path ≢ b.path → IsBorne f.state sights f.net f.role d → act_now P d.body ≡ Folded cell op x false → slice_index k'.cells cell ≡ slice_index k.cells cell)
        → ((x : Noted) → Among x w.loaded → IsPending P k'.cells w x) → (j : ℕ) (y : Sight S) → Sits sights' j y → (x : Noted) → Among x y.loaded → IsPending P k'.cells y x
    goes_loaded alone own j y sits x among = elim (at_set sights id j w y sits) [
      | inl h ↦ subst (λ (z : Sight S). IsPending P k'.cells z x) h.1 (own x (subst (λ (z : Sight S). Among x z.loaded) (sym h.1) among))
      | inr h ↦
          let g = f.loaded j y h.1 x among in
          let ne : g.bearing.path ≢ b.path = λ path. h.0 (sym (one_holder id j i g.place v y b g.bearing at step.has h.1 g.held (sym path)).0) in
          record {
            bearing = g.bearing;
            place = g.place;
            held = g.held;
            number = g.number;
            cell = g.cell;
            op = g.op;
            operand = g.operand;
            act = g.act;
            value = alone g.bearing g.cell g.op g.operand ne (f.borne j y h.1 g.place g.bearing g.held) g.act ∙ g.value;
          }
    ]

    -- a task whose count was found to be 0 is ready still
    pub goes_ready : (j : ℕ) (x : Sight S) → Sits sights' j x → (q : ℕ) → Among q x.ready → (p : List ℕ) × (u : Task S) × IsNumberOf f.role q p × At m p u × IsReady m p u.body.start.context
    goes_ready j x sits q among = elim (at_set sights id j w x sits) [
      | inl h ↦ still (f.ready id v at q (subst (λ (z : List ℕ). Among q z) step.ready (subst (λ (z : Sight S). Among q z.ready) (sym h.1) among)))
      | inr h ↦ still (f.ready j x h.1 q among)
    ]
      where
        still : ((p : List ℕ) × (u : Task S) × IsNumberOf f.role q p × At f.state p u × IsReady f.state p u.body.start.context) → (p : List ℕ) × (u : Task S) × IsNumberOf f.role q p × At m p u × IsReady m p u.body.start.context
        still h =
            let y = went.continues.forth h.0 h.1 h.3 in
            (h.0, y.0, h.2, y.1, subst (λ (z : Start S). IsReady m h.0 z.context) (sym y.2.start) (ready_on P f.state m went.continues h.0 h.1.body.start.context h.4))
