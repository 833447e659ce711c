-- What the conditions of steps give the laws: that a job may have gone on by itself, that a parent is open, which child is the last, and that a
-- task is closed.
use Rattle.std.proofs.Common.{◌≡◌, ◌≢◌, ◌⊎◌, inl, inr, sym, subst, refl, ◌∙◌, ap, ℕ, ◌<◌, ◌≤◌, arith, Bool, true, false, List, [], ◌∷◌, Option, Some, None, zero, suc}
use mathlib.Core.Option as maybe
use lib.ListN.{get_elem?}
use Rattle.oss_syntax.specs.declared.access.Mode.{Mode}
use Rattle.oss_model.specs.Bodies.{Order, Program, Start, Body, stage_act, stage_created}
use Rattle.oss_model.specs.Bodies.Act.{Created, Over}
use Rattle.oss_model.specs.Context.{right_of}
use Rattle.oss_model.specs.History.{IsMade as IsMadeOf, IsStarted}
use Rattle.oss_model.specs.Machine.{Task, At, Owes, IsWaitMet}
use Rattle.oss_model.specs.Moves.{act_now, created_now, is_ended, new_task, IsGone, IsClosed}
use Rattle.oss_model.specs.Order.{IsSuffix, whole, longer, IsIn}
use Rattle.oss_model.specs.Rights.{Holds}
use Rattle.oss_model.proofs.StageLemmas.{creating, created_grows, creation_counts}
use Rattle.oss_model.proofs.TreeLemmas.{at_same, covered_stage, over_stops}
use Rattle.oss_words.specs.Net.{apart, after, Earlier, next, back}
use Rattle.oss_words.specs.Views.{Seen, Among}
use Rattle.oss_words.proofs.CauseLemmas.{bools}
use Rattle.oss_roles.specs.Alone.{IsOwnAct, with_answer, GoesAlone, rests, acts_on}
use Rattle.oss_roles.specs.Field.{Field, Parts, Sits, Bears, IsMaking, is_making, IsBorne, IsNumberOf, of_main, of_entry}
use Rattle.oss_roles.specs.Passing.{MayGo, still_there, went_on}
use Rattle.oss_roles.specs.Roles.{Role, Site, itself, on, Filed}
use Rattle.oss_roles.specs.Sights.{Bearing, Making, Sight, Telling}
use Rattle.oss_roles.proofs.GoesLaw.{one_holder}
use Rattle.oss_roles.proofs.MoveLaw.{agrees}
use Rattle.oss_roles.proofs.WaitLaw.{wait_passes}

module _ {S J : Type 0} (P : Program S) (main : Start S) (first : List ℕ) (is_job : Telling S J) (n : ℕ) (k : Parts J) (sights : List (Sight S)) (f : Field P main first is_job n k sights) where
  made : IsMadeOf P main f.state
  made = (agrees P main first f.state f.setting f.reached).made

  started : IsStarted P f.state
  started = (agrees P main first f.state f.setting f.reached).started

  -- if a count is found 0, the number is that of a task
  pub count_read : (t : ℕ) → t < n → k.counts t ≡ 0 → (p : List ℕ) × IsNumberOf f.role t p
  count_read zero low spent = ([], of_main)
  count_read (suc t) low spent = go (f.role (suc t)) refl
    where
      unfilled : k.counts (suc t) ≡ 18446744073709551615 → ⊥
      unfilled e = omega (arith, e, spent)

      go : (x : Option Role) → f.role (suc t) ≡ x → (p : List ℕ) × IsNumberOf f.role (suc t) p
      go None none = absurd (unfilled (f.counts.blank (suc t) (λ e. let z : suc t ≡ 0 = e in omega (arith, z)) low (λ q is at. let z : None ≡ Some q = sym none ∙ is in cc)).0)
      go (Some r) is = site r.site refl
        where
          site : (y : Site) → r.site ≡ y → (p : List ℕ) × IsNumberOf f.role (suc t) p
          site itself at = (r.path, of_entry r is at refl)
          site (on c) at = absurd (unfilled (f.counts.blank (suc t) (λ e. let z : suc t ≡ 0 = e in omega (arith, z)) low (λ q is' at'. let one : q ≡ r = (let u : Some q ≡ Some r = sym is' ∙ is in cc) in let z : itself ≡ on c = sym at' ∙ ap (λ (x : Role). x.site) one ∙ at in cc)).0)

  head_tail : (i j : ℕ) (a c : List ℕ) → i ∷ a ≡ j ∷ c → (i ≡ j) × (a ≡ c)
  head_tail i j a c h = (cc, cc)

  -- who makes a task whose path is below this one holds the job of this one, which stands before a creation
  maker : (id i : ℕ) (v : Sight S) (b : Bearing S) → Sits sights id v → Bears v i b → (e : ℕ) (r : Role) (j : ℕ) → f.role e ≡ Some r → r.path ≡ j ∷ b.path → IsMaking sights r.task
      → (o : Order S) × (act_now P b.body ≡ Created o false) × (a : Making) × Among a v.makes × (a.by ≡ b.number)
  maker id i v b at has e r j is path (is_making y s sits a am num) =
      let m = f.made y s sits a am in
      let o = m.own in
      let q = f.roles.number e r is in
      let one : q.0 ≡ o.0 = let z : Some q.0 ≡ Some o.0 = sym q.1 ∙ ap (λ (z : ℕ). f.role z) (sym num) ∙ o.1 in cc in
      let tails = head_tail j (created_now P m.creator.body) b.path m.creator.path (sym path ∙ sym q.2 ∙ ap (λ (z : Role). z.path) one ∙ o.2) in
      let holder = one_holder P main first is_job n k sights f id y i m.place v s b m.creator at has sits m.held tails.1 in
      let seat : s ≡ v = maybe.some-injective s v (sym sits ∙ ap (λ (z : ℕ). get_elem? sights z) (sym holder.0) ∙ at) in
      let creator : m.creator ≡ b = maybe.some-injective m.creator b (sym (subst (λ (z : Sight S). Bears z m.place m.creator) seat m.held) ∙ ap (λ (z : ℕ). get_elem? v.bears z) (sym holder.1) ∙ has) in
      (m.order, ap (λ (z : Bearing S). act_now P z.body) (sym creator) ∙ m.act, a, subst (λ (z : Sight S). Among a z.makes) seat am, sym m.by ∙ ap (λ (z : Bearing S). z.number) creator)

  -- the tasks of one number have one maker
  pub sole_maker : (id : ℕ) (v : Sight S) → Sits sights id v → (mk : Making) → Among mk v.makes → (j : ℕ) (y : Sight S) → Sits sights j y → (a : Making) → Among a y.makes → a.task ≡ mk.task → j ≡ id
  sole_maker id v at mk among j y sits a am same =
      let g = f.made id v at mk among in
      let h = f.made j y sits a am in
      let p = g.own in
      let q = h.own in
      let one : q.0 ≡ p.0 = let z : Some q.0 ≡ Some p.0 = sym q.1 ∙ ap (λ (x : ℕ). f.role x) same ∙ p.1 in cc in
      let tails = (head_tail (created_now P h.creator.body) (created_now P g.creator.body) h.creator.path g.creator.path (sym q.2 ∙ ap (λ (x : Role). x.path) one ∙ p.2)).1 in
      (one_holder P main first is_job n k sights f j id h.place g.place y v h.creator g.creator sits h.held at g.held tails).0

  module _ (id i : ℕ) (v : Sight S) (b : Bearing S) (at : Sits sights id v) (has : Bears v i b) where
    abbrev mine : IsBorne f.state sights f.net f.role b
    mine = f.borne id v at i b has

    -- a child of the job's task was made before
    made_before : (j : ℕ) (u : Task S) → At f.state (j ∷ b.path) u → j < created_now P b.body
    made_before j u h =
        let x = made.child j b.path u h in
        let same : x.creator.body ≡ b.body = ap (λ (z : Task S). z.body) (at_same f.state b.path x.creator mine.task x.at_ mine.at_) ∙ mine.body in
        let happened : IsSuffix (x.answer ∷ x.past) b.body.found = subst (λ (z : Body S). IsSuffix (x.answer ∷ x.past) z.found) same x.happened in
        let num : stage_created P b.body.start x.past ≡ j = subst (λ (z : Body S). stage_created P z.start x.past ≡ j) same x.number in
        let act : stage_act P b.body.start x.past ≡ Created x.order false = subst (λ (z : Body S). stage_act P z.start x.past ≡ Created x.order false) same x.act in
        let one = creation_counts P b.body.start x.answer x.past x.order act in
        let less = created_grows P b.body.start happened in
        omega (arith, one, less, num)

    -- if the job stands before an own act, it makes no task
    free_of : IsOwnAct (act_now P b.body) → (q : ℕ) → IsMaking sights q → (e : ℕ) (r : Role) (j : ℕ) → f.role e ≡ Some r → r.path ≡ j ∷ b.path → r.task ≢ q
    free_of own q m e r j is path same =
        let x = maker id i v b at has e r j is path (subst (λ (z : ℕ). IsMaking sights z) (sym same) m) in
        subst IsOwnAct x.1 own

    -- a job by which its seat makes no task makes none
    pub free_idle : ((a : Making) → Among a v.makes → a.by ≢ b.number) → (q : ℕ) → IsMaking sights q → (e : ℕ) (r : Role) (j : ℕ) → f.role e ≡ Some r → r.path ≡ j ∷ b.path → r.task ≢ q
    free_idle idle q m e r j is path same =
        let x = maker id i v b at has e r j is path (subst (λ (z : ℕ). IsMaking sights z) (sym same) m) in
        idle x.2 x.3 x.4

    -- if the job makes no task, the path of the next one is new: what the fill of a count asks
    pub fresh_path : ((a : Making) → Among a v.makes → a.by ≢ b.number) → (e : ℕ) (r : Role) → f.role e ≡ Some r → r.path ≢ created_now P b.body ∷ b.path
    fresh_path idle e r is path = elim (f.planned e r is) [
      | inl u ↦ let a = made_before (created_now P b.body) u.0 (subst (λ (q : List ℕ). At f.state q u.0) path u.1) in omega (arith, a)
      | inr (is_making y s sits a am num) ↦
          let m = f.made y s sits a am in
          let o = m.own in
          let q = f.roles.number e r is in
          let one : q.0 ≡ o.0 = let z : Some q.0 ≡ Some o.0 = sym q.1 ∙ ap (λ (z : ℕ). f.role z) (sym num) ∙ o.1 in cc in
          let tails = head_tail (created_now P b.body) (created_now P m.creator.body) b.path m.creator.path (sym path ∙ sym q.2 ∙ ap (λ (z : Role). z.path) one ∙ o.2) in
          let holder = one_holder P main first is_job n k sights f id y i m.place v s b m.creator at has sits m.held tails.1 in
          let seat : s ≡ v = maybe.some-injective s v (sym sits ∙ ap (λ (z : ℕ). get_elem? sights z) (sym holder.0) ∙ at) in
          let creator : m.creator ≡ b = maybe.some-injective m.creator b (sym (subst (λ (z : Sight S). Bears z m.place m.creator) seat m.held) ∙ ap (λ (z : ℕ). get_elem? v.bears z) (sym holder.1) ∙ has) in
          idle a (subst (λ (z : Sight S). Among a z.makes) seat am) (sym m.by ∙ ap (λ (z : Bearing S). z.number) creator)
    ]

    -- how far the body has gone
    data Gone (x : Body S) : Type 0 where
      not_gone : x ≡ b.body → Gone x
      has_gone : IsOwnAct (act_now P b.body) → x.start ≡ b.body.start → IsSuffix b.body.found x.found → Gone x

    gone : (x : Body S) → MayGo P v b x → Gone x
    gone x still_there = not_gone refl
    gone x (went_on {x = y} run own pass) = next_gone (gone y run) own
      where
        next_gone : Gone y → IsOwnAct (act_now P y) → Gone (with_answer 0 y)
        next_gone (not_gone same) own = has_gone (subst (λ (z : Body S). IsOwnAct (act_now P z)) same own) (ap (λ (z : Body S). z.start) same) (longer (subst (λ (z : List ℕ). IsSuffix b.body.found z) (ap (λ (z : Body S). z.found) (sym same)) whole))
        next_gone (has_gone o start suffix) own = has_gone o start (longer suffix)

    -- if the job's body has ended, it makes no task
    pub free_ended : (x : Body S) → MayGo P v b x → is_ended P x ≡ true → (q : ℕ) → IsMaking sights q → (e : ℕ) (r : Role) (j : ℕ) → f.role e ≡ Some r → r.path ≡ j ∷ b.path → r.task ≢ q
    free_ended x run over q m e r j is path same = none (gone x run)
      where
        none : Gone x → ⊥
        none (has_gone own start suffix) = free_of own q m e r j is path same
        none (not_gone one) =
            let y = maker id i v b at has e r j is path (subst (λ (z : ℕ). IsMaking sights z) (sym same) m) in
            let over_now : act_now P b.body ≡ Over = over_stops P b.body.start b.body.found (subst (λ (z : Body S). is_ended P z ≡ true) one over) in
            let z : Created y.0 false ≡ Over = sym y.1 ∙ over_now in cc

    -- what a job has done by itself is a run of the machine: the condition of every call with a job
    pub may_go : (x : Body S) → MayGo P v b x → GoesAlone P f.state b.path b.body x
    may_go x still_there = rests
    may_go x (went_on {x = y} run own pass) = acts_on (may_go y run) own (passes (gone y run))
      where
        passes : Gone y → IsWaitMet P f.state b.path (created_now P y) (act_now P y)
        passes g = wait_passes P main first is_job n k sights f id v at i b has (free_of (first_own g)) (created_now P y) (act_now P y) (λ j z. less j z g) pass
          where
            first_own : Gone y → IsOwnAct (act_now P b.body)
            first_own (not_gone same) = subst (λ (z : Body S). IsOwnAct (act_now P z)) same own
            first_own (has_gone o start suffix) = o

            grows : Gone y → created_now P b.body ≤ created_now P y
            grows (not_gone same) = let e : created_now P y ≡ created_now P b.body = ap (λ (z : Body S). created_now P z) same in omega (arith, e)
            grows (has_gone o start suffix) = subst (λ (z : Start S). stage_created P z b.body.found ≤ stage_created P y.start y.found) start (created_grows P y.start suffix)

            less : (j : ℕ) (z : Filed f.net f.role (j ∷ b.path) itself) → Gone y → j < created_now P y
            less j z g = elim (f.planned z.entry z.it z.is) [
              | inl u ↦ let a = made_before j u.0 (subst (λ (q : List ℕ). At f.state q u.0) z.path u.1) in let c = grows g in omega (arith, a, c)
              | inr m ↦ absurd (free_of (first_own g) z.it.task m z.entry z.it j z.is z.path refl)
            ]

    -- a creator's own entry, and those of its cells that a new task names, are not given up
    pub parent_open : (o : Order S) → act_now P b.body ≡ Created o false → (c : ℕ) (m : Mode) (strong : Bool) → right_of (new_task P b.body o).body.start.context c ≡ Holds m strong → (up : Filed f.net f.role b.path (on c)) → (k.states up.entry).given ≡ false
    parent_open o act c m strong right up = elim (bools (k.states up.entry).given) [
      | inr closed ↦ closed
      | inl open_ ↦
          let gave = sym (f.words.given up.entry (f.words.flow.words.inside up.entry up.hangs)) ∙ open_ in
          let given = f.given.cell up.entry c up.it up.is up.site gave in
          let same : given.task ≡ mine.task = at_same f.state b.path given.task mine.task (subst (λ (z : List ℕ). At f.state z given.task) up.path given.at_) mine.at_ in
          let body : given.task.body ≡ b.body = ap (λ (z : Task S). z.body) same ∙ mine.body in
          absurd (closed_off up.it.path given.task.given (subst (λ (z : Body S). IsGone P f.state up.it.path c (record { body = z; given = given.task.given })) body (started.given up.it.path given.task c given.at_ given.given).gone))
    ]
      where
        closed_off : (p : List ℕ) (g : List ℕ) → IsGone P f.state p c (record { body = b.body; given = g }) → ⊥
        closed_off p g (inl e) =
            let x = covered_stage P c m strong (record { body = b.body; given = [] }) b.body.found o (creating P b.body.start b.body.found o act) (new_task P b.body o) refl right in
            let z = x.holds in
            cc
        closed_off p g (inr e) = let over = over_stops P b.body.start b.body.found e.0 in let z : Created o false ≡ Over = sym act ∙ over in cc

    pub parent_own_open : (o : Order S) → act_now P b.body ≡ Created o false → (up : Filed f.net f.role b.path itself) → (k.states up.entry).given ≡ false
    parent_own_open o act up = elim (bools (k.states up.entry).given) [
      | inr closed ↦ closed
      | inl open_ ↦
          let gave = sym (f.words.given up.entry (f.words.flow.words.inside up.entry up.hangs)) ∙ open_ in
          let given = f.given.own up.entry up.it up.is up.site gave in
          let same : given.0 ≡ mine.task = at_same f.state b.path given.0 mine.task (subst (λ (z : List ℕ). At f.state z given.0) up.path given.1) mine.at_ in
          let over = over_stops P b.body.start b.body.found (subst (λ (z : Body S). is_ended P z ≡ true) (ap (λ (z : Task S). z.body) same ∙ mine.body) given.2.ended) in
          absurd (let z : Created o false ≡ Over = sym act ∙ over in let bad : ⊥ = cc in bad)
    ]

    -- the last child that is told is the last of the net, for a task that makes none now
    pub last_is : (y : Site) (o : ℕ) → b.last y ≡ Some o → ((q : ℕ) → IsMaking sights q → (e : ℕ) (r : Role) (j : ℕ) → f.role e ≡ Some r → r.path ≡ j ∷ b.path → r.task ≢ q) → (up : Filed f.net f.role b.path y) → f.net.last up.entry ≡ o
    last_is y o is free up =
        let a = mine.last.some y o is in
        let child = f.roles.below up.entry o up.it a.0 a.1 up.is a.2 up.hangs a.3 (a.4 ∙ ap (λ (z : List ℕ). a.1 ∷ z) (sym up.path)) (a.5 ∙ sym up.site) in
        elim (f.words.flow.words.shaped.youngest up.entry o child) [
          | inl same ↦ sym same
          | inr before ↦ absurd (no_later o a.0 a.1 (f.net.last up.entry) a.2 a.4 a.5 before a.6)
        ]
      where
        -- what hangs behind it is a later child
        later : (z : ℕ) (r : Role) (j : ℕ) (x : ℕ) → f.role z ≡ Some r → r.path ≡ j ∷ b.path → r.site ≡ y → Earlier f.net.place z x → (q : Role) × (i : ℕ) × (f.role x ≡ Some q) × (q.path ≡ i ∷ b.path) × (q.site ≡ y) × (j < i) × (f.net.place x ≢ apart)
        later z r j x zs path site (next at_) =
            let h : f.net.place x ≢ apart = λ e. let bad : after z ≡ apart = sym at_ ∙ e in cc in
            let q = f.roles.hung x h in
            let b' = f.roles.behind_is x z q.0 r q.1 zs at_ in
            let heads = head_tail b'.0 j b'.2 b.path (sym b'.3 ∙ path) in
            (q.0, b'.1, q.1, b'.4 ∙ ap (λ (l : List ℕ). b'.1 ∷ l) heads.1, sym b'.5 ∙ site, (let l = b'.6 in let e = heads.0 in omega (arith, l, e)), h)
        later z r j x zs path site (back {t = t} at_ e) =
            let m = later z r j t zs path site e in
            let h : f.net.place x ≢ apart = λ e. let bad : after t ≡ apart = sym at_ ∙ e in cc in
            let q = f.roles.hung x h in
            let b' = f.roles.behind_is x t q.0 m.0 q.1 m.2 at_ in
            let heads = head_tail b'.0 m.1 b'.2 b.path (sym b'.3 ∙ m.3) in
            (q.0, b'.1, q.1, b'.4 ∙ ap (λ (l : List ℕ). b'.1 ∷ l) heads.1, sym b'.5 ∙ m.4, (let l = b'.6 in let e = heads.0 in let d = m.5 in omega (arith, l, e, d)), h)

        no_later : (z : ℕ) (r : Role) (j : ℕ) (x : ℕ) → f.role z ≡ Some r → r.path ≡ j ∷ b.path → r.site ≡ y → Earlier f.net.place z x
            → ((e : ℕ) (q : Role) (i : ℕ) → f.role e ≡ Some q → f.net.place e ≢ apart → q.path ≡ i ∷ b.path → q.site ≡ y → (IsMaking sights q.task → ⊥) → (e ≡ z) ⊎ (i < j)) → ⊥
        no_later z r j x zs path site e all =
            let m = later z r j x zs path site e in
            elim (all x m.0 m.1 m.2 m.6 m.3 m.4 (λ mk. free m.0.task mk x m.0 m.1 m.2 m.3 refl)) [
              | inl same ↦
                  let one : m.0 ≡ r = let u : Some m.0 ≡ Some r = sym m.2 ∙ ap (λ (w : ℕ). f.role w) same ∙ zs in cc in
                  let heads = (head_tail m.1 j b.path b.path (sym m.3 ∙ ap (λ (w : Role). w.path) one ∙ path)).0 in
                  let l = m.5 in omega (arith, heads, l)
              | inr less ↦ let l = m.5 in omega (arith, less, l)
            ]

    -- a task whose body has ended is closed if all its cells were seen to be given up
    pub closed_seen : (t : Task S) → t.body.start ≡ b.body.start → ((d : ℕ) → IsIn d mine.task.given → IsIn d t.given) → is_ended P t.body ≡ true
        → ((c : ℕ) (m : Mode) (strong : Bool) → right_of b.body.start.context c ≡ Holds m strong → (x : Seen) × Among x v.seen × (x.state.given ≡ true) × (r : Role) × (f.role x.entry ≡ Some r) × (f.net.place x.entry ≢ apart) × (r.path ≡ b.path) × (r.site ≡ on c))
        → (p : List ℕ) → p ≡ b.path → IsClosed P p t
    closed_seen t start more over all p same =
        record { ended = over; given = λ c owes. cell c (subst (λ (z : Start S). Owes p z.context c) start owes) }
      where
        cell : (c : ℕ) → Owes p b.body.start.context c → IsIn c t.given
        cell c owes =
            let h = holds p owes in
            let x = all c h.0 h.1 h.2 in
            let inside = f.words.flow.words.inside x.0.entry x.5 in
            let gave = sym (f.words.given x.0.entry inside) ∙ (f.seen id v at x.0 x.1).given x.2 in
            let given = f.given.cell x.0.entry c x.3 x.4 x.7 gave in
            let one : given.task ≡ mine.task = at_same f.state b.path given.task mine.task (subst (λ (z : List ℕ). At f.state z given.task) x.6 given.at_) mine.at_ in
            more c (subst (λ (z : Task S). IsIn c z.given) one given.given)
          where
            holds : (q : List ℕ) → Owes q b.body.start.context c → (m : Mode) × (strong : Bool) × (right_of b.body.start.context c ≡ Holds m strong)
            holds [] o = absurd o
            holds (i ∷ q) o = o
