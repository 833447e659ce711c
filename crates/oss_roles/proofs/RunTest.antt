-- A run of a field by its laws: main alone, whose job is taken, makes a task with no cells, puts its job, and opens it. Its count is 0 then.
-- No law is of use whose conditions can't be met: here those of thirteen steps are met one after the other.
use Rattle.std.proofs.Common.{◌≡◌, ◌≢◌, ◌⊎◌, inl, inr, sym, subst, refl, ◌∙◌, ap, ℕ, zero, suc, arith, Bool, true, false, List, [], ◌∷◌, set, Option, Some, None}
use Rattle.std.specs.Prelude.{◌==◌, cond}
use mathlib.Core.Option as maybe
use lib.ListN.{get_elem?}
use Rattle.std.proofs.lemmas.Bool.Decides.{eqb_tells}
use Rattle.oss_syntax.specs.declared.access.Mode.{Mode}
use Rattle.oss_syntax.specs.declared.access.Mode.TheVariants.{Read, Write}
use Rattle.oss_model.specs.Agreement.{Setting}
use Rattle.oss_model.specs.Bodies.{Order, Program, Start, Act, Body}
use Rattle.oss_model.specs.Bodies.Act.{Awaited, Created, Waited}
use Rattle.oss_model.specs.Context.{right_of}
use Rattle.oss_model.specs.Moves.{act_now, created_now, is_ended, new_task}
use Rattle.oss_model.specs.Rights.{Holds}
use Rattle.oss_words.specs.declared.entry.EntryInfo.{EntryInfo}
use Rattle.oss_words.specs.declared.entry.EntryState.{EntryState}
use Rattle.oss_words.specs.Net.{Net, Place, Adds, apart, top, bare, first_of_main}
use Rattle.oss_words.specs.Steps.{no_flags, Fills, Begun, Blank, Gives, GivesUp}
use Rattle.oss_words.specs.Views.{Seen, Among, among_first, among_later}
use Rattle.oss_roles.specs.Alone.{IsOwnAct, with_answer}
use Rattle.oss_roles.specs.Field.{FieldAt, Parts, IsNumberOf, of_main, of_entry, going, is_put}
use Rattle.oss_roles.specs.Passing.{MayPass, MayGo, still_there, went_on, last_done, newest_done}
use Rattle.oss_roles.specs.Roles.{Role, Site, itself, on, Plans}
use Rattle.oss_roles.specs.Sights.{Bearing, Making, Sight}
use Rattle.oss_roles.specs.Starts.{first_sight}
use Rattle.oss_roles.specs.Steps.{JobGoes}
use Rattle.oss_roles.proofs.FillField.{fill_field, begun_words}
use Rattle.oss_roles.proofs.LinkField.{leaves_same, link_field, hangs_first, new_path}
use Rattle.oss_roles.proofs.LookLaw.{ready_field}
use Rattle.oss_roles.proofs.OpenField.{open_field}
use Rattle.oss_roles.proofs.PlanField.{plan_field}
use Rattle.oss_roles.proofs.SeatLaw.{stage_field}
use Rattle.oss_roles.proofs.StartLaw.{start_field, first_parts}
use Rattle.oss_roles.proofs.TakeLaw.{take_field}
use Rattle.oss_roles.specs.JobSteps.{at_once}
use Rattle.oss_roles.proofs.JobClaims.{own_gives_keep, own_acts_keep}
use Rattle.oss_roles.proofs.WordClaims.{word_reads_keep}

-- a job as it stands in a slot
record Job (S : Type 0) : Type 0 where
  task : ℕ
  body : Body S
  last : Site → Option ℕ

record IsJob {S : Type 0} (j : Job S) (t : ℕ) (b : Body S) (l : Site → Option ℕ) : Type 0 where
  task : j.task ≡ t
  body : j.body ≡ b
  last : (y : Site) → j.last y ≡ l y

when : {A : Type 0} (b : Bool) (x y : A) → b ≡ true → cond b x y ≡ x
when true x y h = refl
when false x y h = absurd (let bad : ⊥ = cc in bad)

else_ : {A : Type 0} (b : Bool) (x y : A) → b ≡ false → cond b x y ≡ y
else_ false x y h = refl
else_ true x y h = absurd (let bad : ⊥ = cc in bad)

apart_from : (t s : ℕ) → t ≢ s → (t == s) ≡ false
apart_from t s ne = elim (eqb_tells t s) [ inl h ↦ absurd (ne h.1) | inr h ↦ h.0 ]

-- what stands in a list of one
only : {A : Type 0} (x : A) (i : ℕ) (y : A) → get_elem? (x ∷ []) i ≡ maybe.some y → (i ≡ 0) × (x ≡ y)
only x zero y h = (refl, maybe.some-injective x y h)
only x (suc i) y h = absurd (maybe.some-ne-none y (sym h))

among_one : {A : Type 0} (x a : A) → Among a (x ∷ []) → x ≡ a
among_one x a (among_first q) = q
among_one x a (among_later h) = elim h [ ]

some_none : {A B : Type 0} (x : A) → None ≡ Some x → B
some_none x h = absurd (let bad : ⊥ = cc in bad)

some_same : {A : Type 0} (x y : A) → Some x ≡ Some y → x ≡ y
some_same x y h = cc

no_role : ℕ → Option Role
no_role e = None

no_gave : ℕ → Bool
no_gave e = false

order_same : {S : Type 0} (x y : Order S) → Created x false ≡ Created y false → x ≡ y
order_same x y h = cc

-- main's last children after the creation
abbrev last_one : Site → Option ℕ
last_one itself = Some 1
last_one (on c) = None

path_of_main : (role : ℕ → Option Role) → ((e : ℕ) → role e ≡ None) → (t : ℕ) (p : List ℕ) → IsNumberOf role t p → p ≡ []
path_of_main role none t p of_main = refl
path_of_main role none t p (of_entry r is site path) = some_none r (sym (none t) ∙ is)

module _ {S : Type 0} (P : Program S) (main : Start S) (first : List ℕ) (setting : Setting main first) (infos : ℕ → EntryInfo) (values cell_of : ℕ → ℕ) (o : Order S)
    (act0 : act_now P (record { start = main; found = [] }) ≡ Created o false)
    (cellless : (c : ℕ) (m : Mode) (s : Bool) → right_of (new_task P (record { start = main; found = [] }) o).body.start.context c ≡ Holds m s → ⊥) where
  abbrev b0 : Body S
  b0 = record { start = main; found = [] }

  abbrev j0 : Job S
  j0 = record { task = 0; body = b0; last = λ y. None }

  abbrev k0 : Parts (Job S)
  k0 = first_parts j0 infos values cell_of first

  abbrev v0 : Sight S
  v0 = first_sight

  f0 : FieldAt P main first IsJob 2 bare (λ e. false) (λ e. None) k0 (v0 ∷ [])
  f0 = start_field P main first IsJob setting 2 (omega (arith)) (omega (arith)) j0 infos values cell_of (record { task = refl; body = refl; last = λ y. refl })

  -- the count of main is read
  abbrev v1 : Sight S
  v1 = record v0 { ready = 0 ∷ [] }

  f1 : FieldAt P main first IsJob 2 bare (λ e. false) (λ e. None) k0 (v1 ∷ [])
  f1 =
      let g = ready_field P main first IsJob 2 k0 (v0 ∷ []) f0.field 0 v0 v1 refl (record { words = refl; bears = refl; makes = refl; loaded = refl; joined = refl; owes = refl }) 0 [] of_main refl refl refl refl in
      record { field = g.field; same_net = g.same_net ∙ f0.same_net; same_gave = g.same_gave ∙ f0.same_gave; same_role = g.same_role ∙ f0.same_role }

  -- its job is taken
  abbrev k2 : Parts (Job S)
  k2 = record k0 { bodies = λ t. cond (t == 0) 2 0; jobs = λ t. None }

  abbrev v2 : Bearing S → Sight S
  v2 d = record v1 { bears = d ∷ [] }

  record Taken (d : Bearing S) : Type 0 where
    number : d.number ≡ 0
    body : d.body ≡ b0
    path : d.path ≡ []
    last : (y : Site) → d.last y ≡ None
    rule : FieldAt P main first IsJob 2 bare (λ e. false) (λ e. None) k2 (v2 d ∷ [])

  f2 : (d : Bearing S) × Taken d
  f2 =
      let t = take_field P main first IsJob 2 k0 (v1 ∷ []) f1.field 0 v1 refl 0 (among_first refl) refl k2.bodies k2.jobs refl refl
      (λ j ne. else_ (j == 0) 2 0 (apart_from j 0 ne) ∙ sym (else_ (j == 0) 1 0 (apart_from j 0 ne))) (λ j ne. sym (else_ (j == 0) (Some j0) None (apart_from j 0 ne))) in
      let d = t.1 in
      let g = t.5 (v2 d) (record { words = refl; makes = refl; ready = refl; joined = refl; owes = refl; seen = refl }) refl refl refl in
      let same : j0 ≡ t.0 = some_same j0 t.0 t.3 in
      let role : g.field.role ≡ no_none = g.same_role ∙ f1.same_role in
      let mine = g.field.borne 0 (v2 d) refl 0 d refl in (
        d,
        record {
          number = t.2;
          body = sym t.4.body ∙ ap (λ (j : Job S). j.body) (sym same);
          path = path_of_main g.field.role (λ e. ap (λ (z : ℕ → Option Role). z e) role) d.number d.path mine.number;
          last = λ y. sym (t.4.last y) ∙ ap (λ (j : Job S). j.last y) (sym same);
          rule = record { field = g.field; same_net = g.same_net ∙ f1.same_net; same_gave = g.same_gave ∙ f1.same_gave; same_role = role };
        },
      )
    where
      no_none : ℕ → Option Role
      no_none = λ e. None

  module _ (d : Bearing S) (t : Taken d) where
    path : List ℕ
    path = created_now P d.body ∷ d.path

    act : act_now P d.body ≡ Created o false
    act = ap (λ (x : Body S). act_now P x) t.body ∙ act0

    no_cell : (c : ℕ) (m : Mode) (s : Bool) → right_of (new_task P d.body o).body.start.context c ≡ Holds m s → ⊥
    no_cell c m s h = cellless c m s (subst (λ (x : Body S). right_of (new_task P x o).body.start.context c ≡ Holds m s) t.body h)

    -- the count of the new task is set: 1, since it has no cells
    abbrev r1 : Role
    r1 = record { path = created_now P d.body ∷ d.path; site = itself; task = 1; mode = Read; strong = false; counts = false }

    abbrev role1 : ℕ → Option Role
    role1 e = cond (e == 1) (Some r1) None

    role_is : (e : ℕ) (r : Role) → role1 e ≡ Some r → (e ≡ 1) × (r1 ≡ r)
    role_is e r h = elim (eqb_tells e 1) [
      | inl q ↦ (q.1, some_same r1 r (sym (when (e == 1) (Some r1) None q.0) ∙ h))
      | inr q ↦ some_none r (sym (else_ (e == 1) (Some r1) None q.0) ∙ h)
    ]

    abbrev making : ℕ → Making
    making stage = record { by = 0; task = 1; stage = stage }

    abbrev v3 : ℕ → Sight S
    v3 stage = record (v2 d) { makes = making stage ∷ [] }

    abbrev k3 : Parts (Job S)
    k3 = record k2 { counts = λ e. cond (e == 1) 1 (cond (e == 0) 0 18446744073709551615) }

    plans : Plans bare (λ e. None) role1 1 (created_now P d.body ∷ d.path)
    plans =
        record {
          each = λ e. elim (eqb_tells e 1) [
            | inl q ↦ inr (refl, r1, when (e == 1) (Some r1) None q.0, refl, refl, refl)
            | inr q ↦ inl (else_ (e == 1) (Some r1) None q.0)
          ];
          fresh = λ e r h. some_none r h;
          own = (r1, refl, refl, refl);
          unused = refl;
          not_main = refl;
          child = (created_now P d.body, d.path, refl);
          one = λ e f r q a b x y z. (role_is e r a).0 ∙ sym (role_is f q b).0;
        }

    f3 : FieldAt P main first IsJob 2 bare (λ e. false) role1 k3 (v3 0 ∷ [])
    f3 =
        let f = t.rule in
        let plans' = subst (λ (n : Net). Plans n f.field.role role1 1 (created_now P d.body ∷ d.path)) (sym f.same_net) (subst (λ (x : ℕ → Option Role). Plans bare x role1 1 (created_now P d.body ∷ d.path)) (sym f.same_role) plans) in
        let g = plan_field P main first IsJob 2 k2 (v2 d ∷ []) f.field 0 (v2 d) (v3 0) refl 0 d refl o act 1 role1 plans'
        (λ e r h. let q = (role_is e r h).0 in omega (arith, q)) (λ h. let z : 1 ≡ 0 = h in absurd (omega (arith, z))) (making 0) t.number refl refl
        (λ c m s h. absurd (no_cell c m s h)) (λ e r h p c. let q : r1.counts ≡ r.counts = ap (λ (x : Role). x.counts) (role_is e r h).1 in absurd (let z : false ≡ true = q ∙ c in let bad : ⊥ = cc in bad))
        k3.counts refl (λ j ne. else_ (j == 1) 1 (k2.counts j) (apart_from j 1 ne)) refl refl refl refl refl refl refl refl refl in
        record { field = g.field; same_net = g.same_net ∙ f.same_net; same_gave = g.same_gave ∙ f.same_gave; same_role = g.same_role }

    -- its own entry is filled
    abbrev open_flags : EntryState
    open_flags = record no_flags { reads = true; folds = true; writes = true; clear = true }

    abbrev info1 : EntryInfo
    info1 = record { mode = Read; strong = false; depth = 1; parent = 0; task = 1 }

    abbrev k4 : Parts (Job S)
    k4 = record k3 { states = λ e. cond (e == 1) open_flags no_flags; infos = λ e. cond (e == 1) info1 (infos e) }

    blank : (p : Place) → p ≡ apart → Blank p no_flags
    blank p h = record { linked = refl; headed = refl; left = refl; folds = refl; reads = refl; writes = refl; clear = refl }

    fills : Fills 2 bare k3.states k4.states k3.infos k4.infos 1
    fills =
        record {
          inside = omega (arith);
          loose = refl;
          blank_before = record { linked = refl; headed = refl; left = refl; folds = refl; reads = refl; writes = refl; clear = refl };
          blank_now = record { linked = refl; headed = refl; left = refl; folds = refl; reads = refl; writes = refl; clear = refl };
          undone = refl;
          ungiven_before = refl;
          ungiven = refl;
          once = inr refl;
          others = λ j ne. else_ (j == 1) open_flags no_flags (apart_from j 1 ne);
          other_infos = λ j ne. else_ (j == 1) info1 (infos j) (apart_from j 1 ne);
        }

    f4 : FieldAt P main first IsJob 2 bare (λ e. false) role1 k4 (v3 0 ∷ [])
    f4 =
        let fills' = subst (λ (n : Net). Fills 2 n k3.states k4.states k3.infos k4.infos 1) (sym f3.same_net) fills in
        let g = fill_field P main first IsJob 2 k3 (v3 0 ∷ []) f3.field 1 k4.states k4.infos k3.cell_of fills' (λ j ne. refl)
        (inr (λ r h. sym (ap (λ (x : Role). x.counts) (role_is 1 r (sym (ap (λ (z : ℕ → Option Role). z 1) f3.same_role) ∙ h)).1))) in
        record { field = g.field; same_net = g.same_net ∙ f3.same_net; same_gave = g.same_gave ∙ f3.same_gave; same_role = g.same_role ∙ f3.same_role }

    -- by its last fill it begins a list of main
    abbrev net1 : Net
    net1 = record { place = λ e. cond (e == 1) top apart; parent = λ e. 0; lead = λ e. e; depth = λ e. cond (e == 1) 1 0; mode = λ e. cond (e == 1) Read Write; last = λ e. cond (e == 0) 1 0 }

    adds : Adds bare net1 1
    adds =
        record {
          fresh = refl;
          not_main = λ h. let z : 1 ≡ 0 = h in absurd (omega (arith, z));
          place = λ j ne. else_ (j == 1) top apart (apart_from j 1 ne);
          parent = λ j ne. refl;
          lead = λ j ne. refl;
          depth = λ j ne. else_ (j == 1) 1 0 (apart_from j 1 ne);
          mode = λ j ne. else_ (j == 1) Read Write (apart_from j 1 ne);
          last = λ q ne. else_ (q == 0) 1 0 (apart_from q 0 ne);
          newest = refl;
          how = first_of_main refl refl refl refl;
        }

    begun : Begun 2 bare net1 k4.states k4.infos 1
    begun =
        record {
          adds = adds;
          begins = refl;
          inside = omega (arith);
          blank = record { linked = refl; headed = refl; left = refl; folds = refl; reads = refl; writes = refl; clear = refl };
          info = refl;
          open_yet = refl;
          tells = record { mode = refl; depth = refl; shallow = omega (arith) };
          ungiven = refl;
          undone = refl;
          reads = refl;
          writes = refl;
          folds = refl;
          clear = refl;
        }

    first_making : (s : ℕ) → Among (making s) (v3 s).makes
    first_making s = among_first refl

    f5 : FieldAt P main first IsJob 2 net1 (λ e. false) role1 k4 (v3 0 ∷ [])
    f5 =
        let f = f4.field in
        let is : f.role 1 ≡ Some r1 = ap (λ (z : ℕ → Option Role). z 1) f4.same_role in
        let begun' = subst (λ (n : Net). Begun 2 n net1 k4.states k4.infos 1) (sym f4.same_net) begun in
        let adds' = subst (λ (n : Net). Adds n net1 1) (sym f4.same_net) adds in
        let words = begun_words 2 f.net net1 f.gave k4.states k4.infos ((v3 0).words ∷ []) 1 f.words begun' in
        let g = f.made 0 (v3 0) refl (making 0) (first_making 0) in
        let one : d ≡ g.creator = (only d g.place g.creator g.held).1 in
        let loose : f.net.place 1 ≡ apart = ap (λ (n : Net). n.place 1) f4.same_net in
        let new = new_path P main first IsJob 2 k4 (v3 0 ∷ []) f 0 (v3 0) refl (making 0) (first_making 0) 1 r1 is refl loose in
        let hang = hangs_first P main first IsJob 2 k4 (v3 0 ∷ []) f 0 (v3 0) refl (making 0) (first_making 0) 1 r1 is refl loose net1
        (ap (λ (z : Bearing S). z.last itself) (sym one) ∙ t.last itself) (ap (λ (z : Bearing S). z.path) (sym one) ∙ t.path) refl in
        let x = link_field P main first IsJob 2 k4 (v3 0 ∷ []) f 0 (v3 0) (v3 0) refl (record { bears = refl; makes = refl; ready = refl; loaded = refl; joined = refl; seen = refl; still = refl }) refl
        (making 0) (first_making 0) 1 r1 is refl net1 k4.states adds' words (λ e. leaves_same (k4.states e)) (λ z a. elim a [ ]) (created_now P g.creator.body) g.creator.path new (refl, refl, refl) hang
        (λ c s. let z : false ≡ true = s in absurd (let bad : ⊥ = cc in bad)) (λ c h. let z : itself ≡ on c = h in absurd (let bad : ⊥ = cc in bad)) in
        record { field = x.field; same_net = x.same_net; same_gave = x.same_gave ∙ f4.same_gave; same_role = x.same_role ∙ f4.same_role }

    -- the new job is put into its slot, in two steps
    abbrev j1 : Job S
    j1 = record { task = 1; body = (new_task P d.body o).body; last = λ y. None }

    abbrev k6 : Parts (Job S)
    k6 = record k4 { bodies = λ e. cond (e == 1) 2 (cond (e == 0) 2 0) }

    abbrev k7 : Parts (Job S)
    k7 = record k4 { bodies = λ e. cond (e == 1) 1 (cond (e == 0) 2 0); jobs = λ e. cond (e == 1) (Some j1) None }

    f6 : FieldAt P main first IsJob 2 net1 (λ e. false) role1 k6 (v3 1 ∷ [])
    f6 =
        let x = stage_field P main first IsJob 2 k4 (v3 0 ∷ []) f5.field 0 (v3 0) (v3 1) refl (making 0) (making 1) (first_making 0) (first_making 1) refl refl
        (λ a h. inl (sym (among_one (making 1) a h))) (λ a h. (making 1, first_making 1, ap (λ (z : Making). z.task) (among_one (making 0) a h)))
        k6.bodies k6.jobs (λ j ne. else_ (j == 1) 2 (k2.bodies j) (apart_from j 1 ne)) (λ j ne. refl) (going refl refl refl) refl refl refl refl refl refl refl refl
        (λ j y sits a h q. (only (v3 0) j y sits).0) in
        record { field = x.field; same_net = x.same_net ∙ f5.same_net; same_gave = x.same_gave ∙ f5.same_gave; same_role = x.same_role ∙ f5.same_role }

    f7 : FieldAt P main first IsJob 2 net1 (λ e. false) role1 k7 (v3 2 ∷ [])
    f7 =
        let g = f6.field.made 0 (v3 1) refl (making 1) (first_making 1) in
        let one : d ≡ g.creator = (only d g.place g.creator g.held).1 in
        let order : o ≡ g.order = order_same o g.order (sym act ∙ ap (λ (z : Bearing S). act_now P z.body) one ∙ g.act) in
        let body : (new_task P d.body o).body ≡ (new_task P g.creator.body g.order).body = ap (λ (z : Bearing S). (new_task P z.body o).body) one ∙ ap (λ (z : Order S). (new_task P g.creator.body z).body) order in
        let x = stage_field P main first IsJob 2 k6 (v3 1 ∷ []) f6.field 0 (v3 1) (v3 2) refl (making 1) (making 2) (first_making 1) (first_making 2) refl refl
        (λ a h. inl (sym (among_one (making 2) a h))) (λ a h. (making 2, first_making 2, ap (λ (z : Making). z.task) (among_one (making 1) a h)))
        k7.bodies k7.jobs (λ j ne. else_ (j == 1) 1 (k2.bodies j) (apart_from j 1 ne) ∙ sym (else_ (j == 1) 2 (k2.bodies j) (apart_from j 1 ne))) (λ j ne. else_ (j == 1) (Some j1) None (apart_from j 1 ne))
        (is_put j1 refl refl refl (record { task = refl; body = body; last = λ y. refl })) refl refl refl refl refl refl refl refl
        (λ j y sits a h q. (only (v3 1) j y sits).0) in
        record { field = x.field; same_net = x.same_net ∙ f6.same_net; same_gave = x.same_gave ∙ f6.same_gave; same_role = x.same_role ∙ f6.same_role }

    -- the count down that opens it
    abbrev c : Bearing S
    c = record { number = d.number; path = d.path; body = with_answer 0 d.body; last = last_one }

    abbrev v8 : Sight S
    v8 = record v1 { bears = c ∷ [] }

    abbrev k8 : Parts (Job S)
    k8 = record k7 { counts = λ e. cond (e == 1) 0 (cond (e == 0) 0 18446744073709551615) }

    f8 : FieldAt P main first IsJob 2 net1 (λ e. false) role1 k8 (v8 ∷ [])
    f8 =
        let f = f7.field in
        let role_at : (e : ℕ) (r : Role) → f.role e ≡ Some r → (e ≡ 1) × (r1 ≡ r) = λ e r h. role_is e r (sym (ap (λ (z : ℕ → Option Role). z e) f7.same_role) ∙ h) in
        let g = f.made 0 (v3 2) refl (making 2) (first_making 2) in
        let held = only d g.place g.creator g.held in
        let one : d ≡ g.creator = held.1 in
        let x = open_field P main first IsJob 2 k7 (v3 2 ∷ []) f 0 (v3 2) v8 refl (making 2) (first_making 2) refl (λ h. let z : 1 ≡ 0 = h in absurd (omega (arith, z)))
        (λ e r h q. hangs e r (role_at e r h).0 (ap (λ (n : Net). n.place e) f7.same_net))
        c (ap (λ (z : ℕ). set (d ∷ []) z c) (sym held.0)) (ap (λ (z : Bearing S). z.number) one) (ap (λ (z : Bearing S). z.path) one) (ap (λ (z : Bearing S). with_answer 0 z.body) one)
        (λ y. last_at f.role role_at (ap (λ (z : ℕ → Option Role). z 1) f7.same_role) g.creator one y)
        (λ a h. elim h [ ]) (λ a h ne. absurd (ne (sym (ap (λ (z : Making). z.task) (among_one (making 2) a h)))))
        (λ j. cond (j == 1) true (f.opened j)) k8.counts refl refl
        (λ j ne. (else_ (j == 1) true (f.opened j) (apart_from j 1 ne), else_ (j == 1) 0 (k2.counts j) (apart_from j 1 ne) ∙ sym (else_ (j == 1) 1 (k2.counts j) (apart_from j 1 ne))))
        refl refl refl refl refl refl refl in
        record { field = x.field; same_net = x.same_net ∙ f7.same_net; same_gave = x.same_gave ∙ f7.same_gave; same_role = x.same_role ∙ f7.same_role }
      where
        hangs : (e : ℕ) (r : Role) → e ≡ 1 → {p : Place} → p ≡ cond (e == 1) top apart → p ≢ apart
        hangs e r is q h = let z : top ≡ apart = sym (ap (λ (i : ℕ). cond (i == 1) top apart) is) ∙ (sym q ∙ h) in let bad : ⊥ = cc in bad

        last_at : (role : ℕ → Option Role) → ((e : ℕ) (r : Role) → role e ≡ Some r → (e ≡ 1) × (r1 ≡ r)) → role 1 ≡ Some r1 → (b : Bearing S) → d ≡ b → (y : Site)
            → ((i : ℕ) × (r : Role) × (role i ≡ Some r) × (r.task ≡ 1) × (r.site ≡ y) × (last_one y ≡ Some i)) ⊎ (((i : ℕ) (r : Role) → role i ≡ Some r → r.task ≡ 1 → r.site ≢ y) × (last_one y ≡ b.last y))
        last_at role role_at is b one itself = inl (1, r1, is, refl, refl, refl)
        last_at role role_at is b one (on y) = inr (
          (λ i r h q site. let z : itself ≡ on y = ap (λ (z : Role). z.site) (role_at i r h).1 ∙ site in let bad : ⊥ = cc in bad),
          sym (t.last (on y)) ∙ ap (λ (z : Bearing S). z.last (on y)) one,
        )

    -- its count is read, and its job taken
    abbrev v9 : Sight S
    v9 = record v8 { ready = 1 ∷ 0 ∷ [] }

    f9 : FieldAt P main first IsJob 2 net1 (λ e. false) role1 k8 (v9 ∷ [])
    f9 =
        let is : f8.field.role 1 ≡ Some r1 = ap (λ (z : ℕ → Option Role). z 1) f8.same_role in
        let g = ready_field P main first IsJob 2 k8 (v8 ∷ []) f8.field 0 v8 v9 refl (record { words = refl; bears = refl; makes = refl; loaded = refl; joined = refl; owes = refl }) 1 r1.path (of_entry r1 is refl refl) refl refl refl refl in
        record { field = g.field; same_net = g.same_net ∙ f8.same_net; same_gave = g.same_gave ∙ f8.same_gave; same_role = g.same_role ∙ f8.same_role }

    abbrev k10 : Parts (Job S)
    k10 = record k8 { bodies = λ e. cond (e == 1) 2 (cond (e == 0) 2 0); jobs = λ e. None }

    abbrev v10 : Bearing S → Sight S
    v10 x = record v9 { bears = x ∷ c ∷ [] }

    record Fetched (x : Bearing S) : Type 0 where
      number : x.number ≡ 1
      body : x.body ≡ (new_task P d.body o).body
      path : x.path ≡ created_now P d.body ∷ d.path
      rule : FieldAt P main first IsJob 2 net1 (λ e. false) role1 k10 (v10 x ∷ [])

    f10 : (x : Bearing S) × Fetched x
    f10 =
        let y = take_field P main first IsJob 2 k8 (v9 ∷ []) f9.field 0 v9 refl 1 (among_first refl) refl k10.bodies k10.jobs refl refl
        (λ j ne. else_ (j == 1) 2 (k2.bodies j) (apart_from j 1 ne) ∙ sym (else_ (j == 1) 1 (k2.bodies j) (apart_from j 1 ne))) (λ j ne. sym (else_ (j == 1) (Some j1) None (apart_from j 1 ne))) in
        let x = y.1 in
        let g = y.5 (v10 x) (record { words = refl; makes = refl; ready = refl; joined = refl; owes = refl; seen = refl }) refl refl refl in
        let same : j1 ≡ y.0 = some_same j1 y.0 y.3 in
        let role = g.same_role ∙ f9.same_role in
        let mine = g.field.borne 0 (v10 x) refl 0 x refl in (
          x,
          record {
            number = y.2;
            body = sym y.4.body ∙ ap (λ (j : Job S). j.body) (sym same);
            path = path_one g.field.role (λ e r h. role_is e r (sym (ap (λ (z : ℕ → Option Role). z e) role) ∙ h)) x.number x.path y.2 mine.number;
            rule = record { field = g.field; same_net = g.same_net ∙ f9.same_net; same_gave = g.same_gave ∙ f9.same_gave; same_role = role };
          },
        )
      where
        path_one : (role : ℕ → Option Role) → ((e : ℕ) (r : Role) → role e ≡ Some r → (e ≡ 1) × (r1 ≡ r)) → (i : ℕ) (p : List ℕ) → i ≡ 1 → IsNumberOf role i p → p ≡ created_now P d.body ∷ d.path
        path_one role at_ i p one of_main = let z : 0 ≡ 1 = one in absurd (omega (arith, z))
        path_one role at_ i p one (of_entry r is site path) = sym path ∙ ap (λ (z : Role). z.path) (sym (at_ i r is).1)

    -- if the new task ends at once, it is given up
    module _ (x : Bearing S) (y : Fetched x) (over : is_ended P (new_task P (record { start = main; found = [] }) o).body ≡ true) where
      abbrev k11 : Parts (Job S)
      k11 = record k10 { states = λ e. cond (e == 1) (record open_flags { given = true; done = true }) no_flags }

      abbrev gave1 : ℕ → Bool
      gave1 e = cond (e == 1) true false

      gives : Gives k10.states k11.states k10.infos 1 (v10 x).words (v10 x).words
      gives =
          record {
            empty = refl;
            full = refl;
            childless = refl;
            stays = refl;
            sets = refl;
            others = λ j ne. else_ (j == 1) (record open_flags { given = true; done = true }) no_flags (apart_from j 1 ne) ∙ sym (else_ (j == 1) open_flags no_flags (apart_from j 1 ne));
            sends = refl;
            whole = refl;
          }

      f11 : FieldAt P main first IsJob 2 net1 gave1 role1 k11 (v10 x ∷ [])
      f11 =
          let f = y.rule.field in
          let is : f.role 1 ≡ Some r1 = ap (λ (z : ℕ → Option Role). z 1) y.rule.same_role in
          let hangs : f.net.place 1 ≢ apart = λ h. let z : top ≡ apart = ap (λ (n : Net). n.place 1) (sym y.rule.same_net) ∙ h in let bad : ⊥ = cc in bad in
          let up : GivesUp f.gave gave1 1 = record { now = refl; same = λ j ne. else_ (j == 1) true false (apart_from j 1 ne) ∙ ap (λ (z : ℕ → Bool). z j) (sym y.rule.same_gave) } in
          let step : JobGoes (v10 x) (v10 x) 0 x x = record { has = refl; bears = refl; number = refl; path = refl; last = refl; start = refl; makes = refl; ready = refl; joined = refl } in
          let body : x.body ≡ (new_task P b0 o).body = y.body ∙ ap (λ (z : Body S). (new_task P z o).body) t.body in
          let g = own_gives_keep S (Job S) IsJob P main first 2 k10 (v10 x ∷ []) f 0 (v10 x) (v10 x) 0 x x x.body 1 r1 k11.states gave1 (record {
            up = record {
              entry = record {
                with_job = record { sits = refl; job = step; alone = still_there };
                loaded = λ a h. elim h [ ];
                body = refl;
                is = is;
                path = sym y.path;
                owes = refl;
                none = refl;
                seen = refl;
              };
              hangs = hangs;
              ungiven = refl;
              gives = up;
              word = at_once gives;
              still = λ a h. elim h [ ];
            };
            site = refl;
            ended = subst (λ (z : Body S). is_ended P z ≡ true) (sym body) over;
            cells = λ e m s right. absurd (cellless e m s (subst (λ (z : Body S). right_of z.start.context e ≡ Holds m s) body right));
          }) in
          record { field = g.field; same_net = g.same_net ∙ y.rule.same_net; same_gave = g.same_gave; same_role = g.same_role ∙ y.rule.same_role }

      -- main's seat reads the word, and main may pass a taskwait
      abbrev read1 : Seen
      read1 = record { entry = 1; state = record open_flags { given = true; done = true } }

      abbrev v12 : Sight S
      v12 = record (v10 x) { seen = read1 ∷ [] }

      f12 : FieldAt P main first IsJob 2 net1 gave1 role1 k11 (v12 ∷ [])
      f12 =
          let g = word_reads_keep S (Job S) IsJob P main first 2 k11 (v10 x ∷ []) f11.field 0 (v10 x) v12 1 (record { sits = refl; ready = refl; seen = refl; still = inl refl; same = record { words = refl; bears = refl; makes = refl; loaded = refl; joined = refl; owes = refl } }) in
          record { field = g.field; same_net = g.same_net ∙ f11.same_net; same_gave = g.same_gave ∙ f11.same_gave; same_role = g.same_role ∙ f11.same_role }

      abbrev waited : Bearing S
      waited = record { number = d.number; path = d.path; body = with_answer 0 (with_answer 0 d.body); last = last_one }

      abbrev v13 : Sight S
      v13 = record v12 { bears = x ∷ waited ∷ [] }

      f13 : act_now P (with_answer 0 (record { start = main; found = [] })) ≡ Waited → FieldAt P main first IsJob 2 net1 gave1 role1 k11 (v13 ∷ [])
      f13 wait =
          let f = f12.field in
          let act : act_now P c.body ≡ Waited = ap (λ (z : Body S). act_now P (with_answer 0 z)) t.body ∙ wait in
          let goes : MayGo P v12 c waited.body = went_on still_there (subst IsOwnAct (sym act) tt) (subst (λ (a : Act S). MayPass v12 c a) (sym act) (last_done read1 refl (among_first refl) refl refl)) in
          let step : JobGoes v12 v13 1 c waited = record { has = refl; bears = refl; number = refl; path = refl; last = refl; start = refl; makes = refl; ready = refl; joined = refl } in
          let g = own_acts_keep S (Job S) IsJob P main first 2 k11 (v12 ∷ []) f 0 v12 v13 1 c waited waited.body (record {
            with_job = record { sits = refl; job = step; alone = goes };
            same = record { words = refl; owes = refl; seen = refl; still = refl };
            loaded = λ a h. elim h [ ];
            body = refl;
          }) in
          record { field = g.field; same_net = g.same_net ∙ f12.same_net; same_gave = g.same_gave ∙ f12.same_gave; same_role = g.same_role ∙ f12.same_role }

      -- or it may go on behind an undeferred task, which awaits that task alone
      f14 : act_now P (with_answer 0 (record { start = main; found = [] })) ≡ Awaited → FieldAt P main first IsJob 2 net1 gave1 role1 k11 (v13 ∷ [])
      f14 wait =
          let f = f12.field in
          let act : act_now P c.body ≡ Awaited = ap (λ (z : Body S). act_now P (with_answer 0 z)) t.body ∙ wait in
          let goes : MayGo P v12 c waited.body = went_on still_there (subst IsOwnAct (sym act) tt) (subst (λ (a : Act S). MayPass v12 c a) (sym act) (newest_done read1 refl (among_first refl) refl)) in
          let step : JobGoes v12 v13 1 c waited = record { has = refl; bears = refl; number = refl; path = refl; last = refl; start = refl; makes = refl; ready = refl; joined = refl } in
          let g = own_acts_keep S (Job S) IsJob P main first 2 k11 (v12 ∷ []) f 0 v12 v13 1 c waited waited.body (record {
            with_job = record { sits = refl; job = step; alone = goes };
            same = record { words = refl; owes = refl; seen = refl; still = refl };
            loaded = λ a h. elim h [ ];
            body = refl;
          }) in
          record { field = g.field; same_net = g.same_net ∙ f12.same_net; same_gave = g.same_gave ∙ f12.same_gave; same_role = g.same_role ∙ f12.same_role }
