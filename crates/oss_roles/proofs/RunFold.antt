-- A second run: the new task has a reduction of the cell 0, which it leaves when it ends; the seat joins it and gives the entry up.
use Rattle.std.proofs.Common.{◌≡◌, ◌≢◌, ◌⊎◌, inl, inr, sym, subst, refl, ◌∙◌, ap, ℕ, zero, suc, arith, Bool, true, false, List, [], ◌∷◌, set, Option, Some, None}
use Rattle.std.specs.Prelude.{◌==◌, cond, slice_index, slice_set}
use mathlib.Core.Option as maybe
use lib.ListN.{get_elem?}
use Rattle.std.proofs.lemmas.Bool.Decides.{eqb_tells}
use Rattle.oss_syntax.specs.declared.access.Mode.{Mode}
use Rattle.oss_syntax.specs.declared.access.Mode.TheVariants.{Read, Write, Fold}
use Rattle.oss_syntax.specs.declared.access.Op.TheVariants.{Add}
use Rattle.oss_model.specs.Agreement.{Setting}
use Rattle.oss_model.specs.Bodies.{Order, Program, Start, Body}
use Rattle.oss_model.specs.Bodies.Act.{Created}
use Rattle.oss_model.specs.Context.{right_of}
use Rattle.oss_model.specs.Moves.{act_now, created_now, is_ended, combine, new_task, slot_of}
use Rattle.oss_model.specs.Rights.{Holds}
use Rattle.oss_words.specs.declared.entry.EntryInfo.{EntryInfo}
use Rattle.oss_words.specs.declared.entry.EntryState.{EntryState}
use Rattle.oss_words.specs.Net.{Net, Place, Adds, apart, top, bare, first_of_main}
use Rattle.oss_words.specs.Steps.{no_flags, Fills, Begun, Blank, GivesUp, Leaves, JoinsGives}
use Rattle.oss_words.specs.Members.{Has, head}
use Rattle.oss_words.specs.Views.{first_view, Among, among_first, among_later}
use Rattle.oss_roles.specs.Alone.{with_answer}
use Rattle.oss_roles.specs.Field.{FieldAt, Parts, IsNumberOf, of_main, of_entry, going, is_put}
use Rattle.oss_roles.specs.Numbers.{entry_number}
use Rattle.oss_roles.specs.Roles.{Role, Site, itself, on, Plans}
use Rattle.oss_roles.specs.Sights.{Bearing, Making, Sight}
use Rattle.oss_roles.specs.Starts.{first_sight}
use Rattle.oss_roles.specs.Steps.{JobGoes}
use Rattle.oss_roles.proofs.FillField.{fill_field, begun_words}
use Rattle.oss_roles.proofs.LinkField.{leaves_same, link_field, hangs_first, new_path}
use Rattle.oss_roles.proofs.LookLaw.{ready_field}
use Rattle.oss_roles.proofs.OpenField.{open_field}
use Rattle.oss_roles.proofs.PlanField.{plan_field}
use Rattle.oss_roles.proofs.SeatLaw.{stage_field}
use Rattle.oss_roles.proofs.StartLaw.{start_field, first_parts}
use Rattle.oss_roles.proofs.TakeLaw.{take_field}
use Rattle.oss_roles.specs.Passing.{still_there}
use Rattle.oss_roles.specs.WordSteps.{joins_at_once}
use Rattle.oss_roles.proofs.JobClaims.{values_keep, leaves_keep}
use Rattle.oss_roles.proofs.WordClaims.{joins_keep, joined_gives_keep}

-- a job as it stands in a slot
pub record Job (S : Type 0) : Type 0 where
  pub task : ℕ
  pub body : Body S
  pub last : Site → Option ℕ

pub record IsJob {S : Type 0} (j : Job S) (t : ℕ) (b : Body S) (l : Site → Option ℕ) : Type 0 where
  pub task : j.task ≡ t
  pub body : j.body ≡ b
  pub last : (y : Site) → j.last y ≡ l y

when : {A : Type 0} (b : Bool) (x y : A) → b ≡ true → cond b x y ≡ x
when true x y h = refl
when false x y h = absurd (let bad : ⊥ = cc in bad)

else_ : {A : Type 0} (b : Bool) (x y : A) → b ≡ false → cond b x y ≡ y
else_ false x y h = refl
else_ true x y h = absurd (let bad : ⊥ = cc in bad)

apart_from : (t s : ℕ) → t ≢ s → (t == s) ≡ false
apart_from t s ne = elim (eqb_tells t s) [ inl h ↦ absurd (ne h.1) | inr h ↦ h.0 ]

-- what stands in a list of one
only : {A : Type 0} (x : A) (i : ℕ) (y : A) → get_elem? (x ∷ []) i ≡ maybe.some y → (i ≡ 0) × (x ≡ y)
only x zero y h = (refl, maybe.some-injective x y h)
only x (suc i) y h = absurd (maybe.some-ne-none y (sym h))

among_one : {A : Type 0} (x a : A) → Among a (x ∷ []) → x ≡ a
among_one x a (among_first q) = q
among_one x a (among_later h) = elim h [ ]

some_none : {A B : Type 0} (x : A) → None ≡ Some x → B
some_none x h = absurd (let bad : ⊥ = cc in bad)

some_same : {A : Type 0} (x y : A) → Some x ≡ Some y → x ≡ y
some_same x y h = cc

no_role : ℕ → Option Role
no_role e = None

no_gave : ℕ → Bool
no_gave e = false

order_same : {S : Type 0} (x y : Order S) → Created x false ≡ Created y false → x ≡ y
order_same x y h = cc

-- main's last children after the creation
abbrev last_one : Site → Option ℕ
last_one itself = Some 1
last_one (on zero) = Some 2
last_one (on (suc c)) = None

path_of_main : (role : ℕ → Option Role) → ((e : ℕ) → role e ≡ None) → (t : ℕ) (p : List ℕ) → IsNumberOf role t p → p ≡ []
path_of_main role none t p of_main = refl
path_of_main role none t p (of_entry r is site path) = some_none r (sym (none t) ∙ is)

module _ {S : Type 0} (P : Program S) (main : Start S) (first : List ℕ) (setting : Setting main first) (infos : ℕ → EntryInfo) (values cell_of : ℕ → ℕ) (o : Order S)
    (act0 : act_now P (record { start = main; found = [] }) ≡ Created o false)
    (right0 : right_of (new_task P (record { start = main; found = [] }) o).body.start.context 0 ≡ Holds (Fold Add) true)
    (only0 : (c : ℕ) (m : Mode) (s : Bool) → right_of (new_task P (record { start = main; found = [] }) o).body.start.context c ≡ Holds m s → c ≡ 0) where
  abbrev pub b0 : Body S
  b0 = record { start = main; found = [] }

  abbrev j0 : Job S
  j0 = record { task = 0; body = b0; last = λ y. None }

  abbrev k0 : Parts (Job S)
  k0 = first_parts j0 infos values cell_of first

  abbrev v0 : Sight S
  v0 = first_sight

  f0 : FieldAt P main first IsJob 5 bare (λ e. false) (λ e. None) k0 (v0 ∷ [])
  f0 = start_field P main first IsJob setting 5 (omega (arith)) (omega (arith)) j0 infos values cell_of (record { task = refl; body = refl; last = λ y. refl })

  -- the count of main is read
  abbrev v1 : Sight S
  v1 = record v0 { ready = 0 ∷ [] }

  f1 : FieldAt P main first IsJob 5 bare (λ e. false) (λ e. None) k0 (v1 ∷ [])
  f1 =
      let g = ready_field P main first IsJob 5 k0 (v0 ∷ []) f0.field 0 v0 v1 refl (record { words = refl; bears = refl; makes = refl; loaded = refl; joined = refl; owes = refl }) 0 [] of_main refl refl refl refl in
      record { field = g.field; same_net = g.same_net ∙ f0.same_net; same_gave = g.same_gave ∙ f0.same_gave; same_role = g.same_role ∙ f0.same_role }

  -- its job is taken
  abbrev pub k2 : Parts (Job S)
  k2 = record k0 { bodies = λ t. cond (t == 0) 2 0; jobs = λ t. None }

  abbrev pub v2 : Bearing S → Sight S
  v2 d = record v1 { bears = d ∷ [] }

  pub record Taken (d : Bearing S) : Type 0 where
    pub number : d.number ≡ 0
    pub body : d.body ≡ b0
    pub path : d.path ≡ []
    pub last : (y : Site) → d.last y ≡ None
    pub rule : FieldAt P main first IsJob 5 bare (λ e. false) (λ e. None) k2 (v2 d ∷ [])

  f2 : (d : Bearing S) × Taken d
  f2 =
      let t = take_field P main first IsJob 5 k0 (v1 ∷ []) f1.field 0 v1 refl 0 (among_first refl) refl k2.bodies k2.jobs refl refl
      (λ j ne. else_ (j == 0) 2 0 (apart_from j 0 ne) ∙ sym (else_ (j == 0) 1 0 (apart_from j 0 ne))) (λ j ne. sym (else_ (j == 0) (Some j0) None (apart_from j 0 ne))) in
      let d = t.1 in
      let g = t.5 (v2 d) (record { words = refl; makes = refl; ready = refl; joined = refl; owes = refl; seen = refl }) refl refl refl in
      let same : j0 ≡ t.0 = some_same j0 t.0 t.3 in
      let role : g.field.role ≡ no_none = g.same_role ∙ f1.same_role in
      let mine = g.field.borne 0 (v2 d) refl 0 d refl in (
        d,
        record {
          number = t.2;
          body = sym t.4.body ∙ ap (λ (j : Job S). j.body) (sym same);
          path = path_of_main g.field.role (λ e. ap (λ (z : ℕ → Option Role). z e) role) d.number d.path mine.number;
          last = λ y. sym (t.4.last y) ∙ ap (λ (j : Job S). j.last y) (sym same);
          rule = record { field = g.field; same_net = g.same_net ∙ f1.same_net; same_gave = g.same_gave ∙ f1.same_gave; same_role = role };
        },
      )
    where
      no_none : ℕ → Option Role
      no_none = λ e. None

  module _ (d : Bearing S) (t : Taken d) where
    path : List ℕ
    path = created_now P d.body ∷ d.path

    act : act_now P d.body ≡ Created o false
    act = ap (λ (x : Body S). act_now P x) t.body ∙ act0

    right_now : (c : ℕ) (m : Mode) (s : Bool) → right_of (new_task P d.body o).body.start.context c ≡ Holds m s → (0 ≡ c) × (Fold Add ≡ m) × (true ≡ s)
    right_now c m s h =
        let h0 = subst (λ (x : Body S). right_of (new_task P x o).body.start.context c ≡ Holds m s) t.body h in
        let zero_is : c ≡ 0 = only0 c m s h0 in
        let e : Holds (Fold Add) true ≡ Holds m s = sym right0 ∙ ap (λ (x : ℕ). right_of (new_task P b0 o).body.start.context x) (sym zero_is) ∙ h0 in
        (sym zero_is, cc, cc)

    -- the count of the new task is set: 1, since it has no cells
    abbrev pub r1 : Role
    r1 = record { path = created_now P d.body ∷ d.path; site = itself; task = 1; mode = Read; strong = false; counts = false }

    abbrev pub r2 : Role
    r2 = record { path = created_now P d.body ∷ d.path; site = on 0; task = 1; mode = Fold Add; strong = true; counts = false }

    abbrev pub role1 : ℕ → Option Role
    role1 e = cond (e == 1) (Some r1) (cond (e == 2) (Some r2) None)

    pub role_is : (e : ℕ) (r : Role) → role1 e ≡ Some r → ((e ≡ 1) × (r1 ≡ r)) ⊎ ((e ≡ 2) × (r2 ≡ r))
    role_is e r h = elim (eqb_tells e 1) [
      | inl q ↦ inl (q.1, some_same r1 r (sym (when (e == 1) (Some r1) (cond (e == 2) (Some r2) None) q.0) ∙ h))
      | inr q ↦
          let k : cond (e == 2) (Some r2) None ≡ Some r = sym (else_ (e == 1) (Some r1) (cond (e == 2) (Some r2) None) q.0) ∙ h in
          elim (eqb_tells e 2) [
            | inl p ↦ inr (p.1, some_same r2 r (sym (when (e == 2) (Some r2) None p.0) ∙ k))
            | inr p ↦ some_none r (sym (else_ (e == 2) (Some r2) None p.0) ∙ k)
          ]
    ]

    pub uncounted : (e : ℕ) (r : Role) → role1 e ≡ Some r → r.counts ≡ false
    uncounted e r h = elim (role_is e r h) [ inl q ↦ ap (λ (x : Role). x.counts) (sym q.1) | inr q ↦ ap (λ (x : Role). x.counts) (sym q.1) ]

    abbrev making : ℕ → Making
    making stage = record { by = 0; task = 1; stage = stage }

    abbrev v3 : ℕ → Sight S
    v3 stage = record (v2 d) { makes = making stage ∷ [] }

    abbrev k3 : Parts (Job S)
    k3 = record k2 { counts = λ e. cond (e == 1) 1 (cond (e == 0) 0 18446744073709551615) }

    pub apart_sites : {A : Type 0} {c : ℕ} → itself ≡ on c → A
    apart_sites h = absurd (let bad : ⊥ = cc in bad)

    plans : Plans bare (λ e. None) role1 1 (created_now P d.body ∷ d.path)
    plans =
        record {
          each = λ e. elim (eqb_tells e 1) [
            | inl q ↦ inr (refl, r1, when (e == 1) (Some r1) (cond (e == 2) (Some r2) None) q.0, refl, refl, refl)
            | inr q ↦ elim (eqb_tells e 2) [
              | inl p ↦ inr (refl, r2, else_ (e == 1) (Some r1) (cond (e == 2) (Some r2) None) q.0 ∙ when (e == 2) (Some r2) None p.0, refl, refl, refl)
              | inr p ↦ inl (else_ (e == 1) (Some r1) (cond (e == 2) (Some r2) None) q.0 ∙ else_ (e == 2) (Some r2) None p.0)
            ]
          ];
          fresh = λ e r h. some_none r h;
          own = (r1, refl, refl, refl);
          unused = refl;
          not_main = refl;
          child = (created_now P d.body, d.path, refl);
          one = λ e f r q a b x y z. elim (role_is e r a) [
            | inl h ↦ elim (role_is f q b) [
              | inl g ↦ h.0 ∙ sym g.0
              | inr g ↦ apart_sites (ap (λ (w : Role). w.site) h.1 ∙ z ∙ ap (λ (w : Role). w.site) (sym g.1))
            ]
            | inr h ↦ elim (role_is f q b) [
              | inl g ↦ apart_sites (sym (ap (λ (w : Role). w.site) h.1 ∙ z ∙ ap (λ (w : Role). w.site) (sym g.1)))
              | inr g ↦ h.0 ∙ sym g.0
            ]
          ];
        }

    f3 : FieldAt P main first IsJob 5 bare (λ e. false) role1 k3 (v3 0 ∷ [])
    f3 =
        let f = t.rule in
        let plans' = subst (λ (n : Net). Plans n f.field.role role1 1 (created_now P d.body ∷ d.path)) (sym f.same_net) (subst (λ (x : ℕ → Option Role). Plans bare x role1 1 (created_now P d.body ∷ d.path)) (sym f.same_role) plans) in
        let g = plan_field P main first IsJob 5 k2 (v2 d ∷ []) f.field 0 (v2 d) (v3 0) refl 0 d refl o act 1 role1 plans'
        (λ e r h. elim (role_is e r h) [ inl q ↦ (let z = q.0 in omega (arith, z)) | inr q ↦ (let z = q.0 in omega (arith, z)) ]) (λ h. let z : 1 ≡ 0 = h in absurd (omega (arith, z))) (making 0) t.number refl refl
        (λ c m s h. let w = right_now c m s h in (
          2,
          r2,
          refl,
          refl,
          ap (λ (x : ℕ). on x) w.0,
          refl,
          w.1,
          w.2,
          ap (λ (x : ℕ). entry_number 1 (right_of (new_task P d.body o).body.start.context) x) w.0,
        )) (λ e r h p c. let z : false ≡ true = sym (uncounted e r h) ∙ c in absurd (let bad : ⊥ = cc in bad))
        k3.counts refl (λ j ne. else_ (j == 1) 1 (k2.counts j) (apart_from j 1 ne)) refl refl refl refl refl refl refl refl refl in
        record { field = g.field; same_net = g.same_net ∙ f.same_net; same_gave = g.same_gave ∙ f.same_gave; same_role = g.same_role }

    -- its own entry is filled
    abbrev pub open_flags : EntryState
    open_flags = record no_flags { reads = true; folds = true; writes = true; clear = true }

    abbrev info1 : EntryInfo
    info1 = record { mode = Read; strong = false; depth = 1; parent = 0; task = 1 }

    abbrev k4 : Parts (Job S)
    k4 = record k3 { states = λ e. cond (e == 1) open_flags no_flags; infos = λ e. cond (e == 1) info1 (infos e) }

    blank : (p : Place) → p ≡ apart → Blank p no_flags
    blank p h = record { linked = refl; headed = refl; left = refl; folds = refl; reads = refl; writes = refl; clear = refl }

    fills : Fills 5 bare k3.states k4.states k3.infos k4.infos 1
    fills =
        record {
          inside = omega (arith);
          loose = refl;
          blank_before = record { linked = refl; headed = refl; left = refl; folds = refl; reads = refl; writes = refl; clear = refl };
          blank_now = record { linked = refl; headed = refl; left = refl; folds = refl; reads = refl; writes = refl; clear = refl };
          undone = refl;
          ungiven_before = refl;
          ungiven = refl;
          once = inr refl;
          others = λ j ne. else_ (j == 1) open_flags no_flags (apart_from j 1 ne);
          other_infos = λ j ne. else_ (j == 1) info1 (infos j) (apart_from j 1 ne);
        }

    f4 : FieldAt P main first IsJob 5 bare (λ e. false) role1 k4 (v3 0 ∷ [])
    f4 =
        let fills' = subst (λ (n : Net). Fills 5 n k3.states k4.states k3.infos k4.infos 1) (sym f3.same_net) fills in
        let g = fill_field P main first IsJob 5 k3 (v3 0 ∷ []) f3.field 1 k4.states k4.infos k3.cell_of fills' (λ j ne. refl)
        (inr (λ r h. uncounted 1 r (sym (ap (λ (z : ℕ → Option Role). z 1) f3.same_role) ∙ h))) in
        record { field = g.field; same_net = g.same_net ∙ f3.same_net; same_gave = g.same_gave ∙ f3.same_gave; same_role = g.same_role ∙ f3.same_role }

    -- and that of its cell
    abbrev info2 : EntryInfo
    info2 = record { mode = Fold Add; strong = true; depth = 1; parent = 0; task = 1 }

    abbrev k4b : Parts (Job S)
    k4b = record k4 { states = λ e. cond (e == 2) open_flags (cond (e == 1) open_flags no_flags); infos = λ e. cond (e == 2) info2 (cond (e == 1) info1 (infos e)); cell_of = λ e. cond (e == 2) 0 (cell_of e) }

    fills2 : Fills 5 bare k4.states k4b.states k4.infos k4b.infos 2
    fills2 =
        record {
          inside = omega (arith);
          loose = refl;
          blank_before = record { linked = refl; headed = refl; left = refl; folds = refl; reads = refl; writes = refl; clear = refl };
          blank_now = record { linked = refl; headed = refl; left = refl; folds = refl; reads = refl; writes = refl; clear = refl };
          undone = refl;
          ungiven_before = refl;
          ungiven = refl;
          once = inr refl;
          others = λ j ne. else_ (j == 2) open_flags (k4.states j) (apart_from j 2 ne);
          other_infos = λ j ne. else_ (j == 2) info2 (k4.infos j) (apart_from j 2 ne);
        }

    f4b : FieldAt P main first IsJob 5 bare (λ e. false) role1 k4b (v3 0 ∷ [])
    f4b =
        let fills' = subst (λ (n : Net). Fills 5 n k4.states k4b.states k4.infos k4b.infos 2) (sym f4.same_net) fills2 in
        let g = fill_field P main first IsJob 5 k4 (v3 0 ∷ []) f4.field 2 k4b.states k4b.infos k4b.cell_of fills' (λ j ne. else_ (j == 2) 0 (cell_of j) (apart_from j 2 ne))
        (inr (λ r h. uncounted 2 r (sym (ap (λ (z : ℕ → Option Role). z 2) f4.same_role) ∙ h))) in
        record { field = g.field; same_net = g.same_net ∙ f4.same_net; same_gave = g.same_gave ∙ f4.same_gave; same_role = g.same_role ∙ f4.same_role }

    -- by its last fill it begins a list of main
    abbrev net1 : Net
    net1 = record { place = λ e. cond (e == 1) top apart; parent = λ e. 0; lead = λ e. e; depth = λ e. cond (e == 1) 1 0; mode = λ e. cond (e == 1) Read Write; last = λ e. cond (e == 0) 1 0 }

    adds : Adds bare net1 1
    adds =
        record {
          fresh = refl;
          not_main = λ h. let z : 1 ≡ 0 = h in absurd (omega (arith, z));
          place = λ j ne. else_ (j == 1) top apart (apart_from j 1 ne);
          parent = λ j ne. refl;
          lead = λ j ne. refl;
          depth = λ j ne. else_ (j == 1) 1 0 (apart_from j 1 ne);
          mode = λ j ne. else_ (j == 1) Read Write (apart_from j 1 ne);
          last = λ q ne. else_ (q == 0) 1 0 (apart_from q 0 ne);
          newest = refl;
          how = first_of_main refl refl refl refl;
        }

    begun : Begun 5 bare net1 k4b.states k4b.infos 1
    begun =
        record {
          adds = adds;
          begins = refl;
          inside = omega (arith);
          blank = record { linked = refl; headed = refl; left = refl; folds = refl; reads = refl; writes = refl; clear = refl };
          info = refl;
          open_yet = refl;
          tells = record { mode = refl; depth = refl; shallow = omega (arith) };
          ungiven = refl;
          undone = refl;
          reads = refl;
          writes = refl;
          folds = refl;
          clear = refl;
        }

    first_making : (s : ℕ) → Among (making s) (v3 s).makes
    first_making s = among_first refl

    f5 : FieldAt P main first IsJob 5 net1 (λ e. false) role1 k4b (v3 0 ∷ [])
    f5 =
        let f = f4b.field in
        let is : f.role 1 ≡ Some r1 = ap (λ (z : ℕ → Option Role). z 1) f4b.same_role in
        let begun' = subst (λ (n : Net). Begun 5 n net1 k4b.states k4b.infos 1) (sym f4b.same_net) begun in
        let adds' = subst (λ (n : Net). Adds n net1 1) (sym f4b.same_net) adds in
        let words = begun_words 5 f.net net1 f.gave k4b.states k4b.infos ((v3 0).words ∷ []) 1 f.words begun' in
        let g = f.made 0 (v3 0) refl (making 0) (first_making 0) in
        let one : d ≡ g.creator = (only d g.place g.creator g.held).1 in
        let loose : f.net.place 1 ≡ apart = ap (λ (n : Net). n.place 1) f4b.same_net in
        let new = new_path P main first IsJob 5 k4b (v3 0 ∷ []) f 0 (v3 0) refl (making 0) (first_making 0) 1 r1 is refl loose in
        let hang = hangs_first P main first IsJob 5 k4b (v3 0 ∷ []) f 0 (v3 0) refl (making 0) (first_making 0) 1 r1 is refl loose net1
        (ap (λ (z : Bearing S). z.last itself) (sym one) ∙ t.last itself) (ap (λ (z : Bearing S). z.path) (sym one) ∙ t.path) refl in
        let x = link_field P main first IsJob 5 k4b (v3 0 ∷ []) f 0 (v3 0) (v3 0) refl (record { bears = refl; makes = refl; ready = refl; loaded = refl; joined = refl; seen = refl; still = refl }) refl
        (making 0) (first_making 0) 1 r1 is refl net1 k4b.states adds' words (λ e. leaves_same (k4b.states e)) (λ z a. elim a [ ]) (created_now P g.creator.body) g.creator.path new (refl, refl, refl) hang
        (λ c s. let z : false ≡ true = s in absurd (let bad : ⊥ = cc in bad)) (λ c h. let z : itself ≡ on c = h in absurd (let bad : ⊥ = cc in bad)) in
        record { field = x.field; same_net = x.same_net; same_gave = x.same_gave ∙ f4b.same_gave; same_role = x.same_role ∙ f4b.same_role }

    abbrev pub net2 : Net
    net2 = record { place = λ e. cond (e == 2) top (cond (e == 1) top apart); parent = λ e. 0; lead = λ e. e; depth = λ e. cond (e == 2) 1 (cond (e == 1) 1 0); mode = λ e. cond (e == 2) (Fold Add) (cond (e == 1) Read Write); last = λ e. cond (e == 0) 2 0 }

    adds2 : Adds net1 net2 2
    adds2 =
        record {
          fresh = refl;
          not_main = λ h. let z : 2 ≡ 0 = h in absurd (omega (arith, z));
          place = λ j ne. else_ (j == 2) top (net1.place j) (apart_from j 2 ne);
          parent = λ j ne. refl;
          lead = λ j ne. refl;
          depth = λ j ne. else_ (j == 2) 1 (net1.depth j) (apart_from j 2 ne);
          mode = λ j ne. else_ (j == 2) (Fold Add) (net1.mode j) (apart_from j 2 ne);
          last = λ q ne. else_ (q == 0) 2 0 (apart_from q 0 ne) ∙ sym (else_ (q == 0) 1 0 (apart_from q 0 ne));
          newest = refl;
          how = first_of_main refl refl refl refl;
        }

    begun2 : Begun 5 net1 net2 k4b.states k4b.infos 2
    begun2 =
        record {
          adds = adds2;
          begins = refl;
          inside = omega (arith);
          blank = record { linked = refl; headed = refl; left = refl; folds = refl; reads = refl; writes = refl; clear = refl };
          info = refl;
          open_yet = refl;
          tells = record { mode = refl; depth = refl; shallow = omega (arith) };
          ungiven = refl;
          undone = refl;
          reads = refl;
          writes = refl;
          folds = refl;
          clear = refl;
        }

    f5b : FieldAt P main first IsJob 5 net2 (λ e. false) role1 k4b (v3 0 ∷ [])
    f5b =
        let f = f5.field in
        let is : f.role 2 ≡ Some r2 = ap (λ (z : ℕ → Option Role). z 2) f5.same_role in
        let begun' = subst (λ (n : Net). Begun 5 n net2 k4b.states k4b.infos 2) (sym f5.same_net) begun2 in
        let adds' = subst (λ (n : Net). Adds n net2 2) (sym f5.same_net) adds2 in
        let words = begun_words 5 f.net net2 f.gave k4b.states k4b.infos ((v3 0).words ∷ []) 2 f.words begun' in
        let g = f.made 0 (v3 0) refl (making 0) (first_making 0) in
        let one : d ≡ g.creator = (only d g.place g.creator g.held).1 in
        let loose : f.net.place 2 ≡ apart = ap (λ (n : Net). n.place 2) f5.same_net in
        let new = new_path P main first IsJob 5 k4b (v3 0 ∷ []) f 0 (v3 0) refl (making 0) (first_making 0) 2 r2 is refl loose in
        let hang = hangs_first P main first IsJob 5 k4b (v3 0 ∷ []) f 0 (v3 0) refl (making 0) (first_making 0) 2 r2 is refl loose net2
        (ap (λ (z : Bearing S). z.last (on 0)) (sym one) ∙ t.last (on 0)) (ap (λ (z : Bearing S). z.path) (sym one) ∙ t.path) refl in
        let x = link_field P main first IsJob 5 k4b (v3 0 ∷ []) f 0 (v3 0) (v3 0) refl (record { bears = refl; makes = refl; ready = refl; loaded = refl; joined = refl; seen = refl; still = refl }) refl
        (making 0) (first_making 0) 2 r2 is refl net2 k4b.states adds' words (λ e. leaves_same (k4b.states e)) (λ z a. elim a [ ]) (created_now P g.creator.body) g.creator.path new (refl, refl, refl) hang
        (λ c s. refl) (λ c h. let z : on 0 ≡ on c = h in cc) in
        record { field = x.field; same_net = x.same_net; same_gave = x.same_gave ∙ f5.same_gave; same_role = x.same_role ∙ f5.same_role }

    -- the new job is put into its slot, in two steps
    abbrev pub j1 : Job S
    j1 = record { task = 1; body = (new_task P d.body o).body; last = λ y. None }

    abbrev k6 : Parts (Job S)
    k6 = record k4b { bodies = λ e. cond (e == 1) 2 (cond (e == 0) 2 0) }

    abbrev k7 : Parts (Job S)
    k7 = record k4b { bodies = λ e. cond (e == 1) 1 (cond (e == 0) 2 0); jobs = λ e. cond (e == 1) (Some j1) None }

    f6 : FieldAt P main first IsJob 5 net2 (λ e. false) role1 k6 (v3 1 ∷ [])
    f6 =
        let x = stage_field P main first IsJob 5 k4b (v3 0 ∷ []) f5b.field 0 (v3 0) (v3 1) refl (making 0) (making 1) (first_making 0) (first_making 1) refl refl
        (λ a h. inl (sym (among_one (making 1) a h))) (λ a h. (making 1, first_making 1, ap (λ (z : Making). z.task) (among_one (making 0) a h)))
        k6.bodies k6.jobs (λ j ne. else_ (j == 1) 2 (k2.bodies j) (apart_from j 1 ne)) (λ j ne. refl) (going refl refl refl) refl refl refl refl refl refl refl refl
        (λ j y sits a h q. (only (v3 0) j y sits).0) in
        record { field = x.field; same_net = x.same_net ∙ f5b.same_net; same_gave = x.same_gave ∙ f5b.same_gave; same_role = x.same_role ∙ f5b.same_role }

    f7 : FieldAt P main first IsJob 5 net2 (λ e. false) role1 k7 (v3 2 ∷ [])
    f7 =
        let g = f6.field.made 0 (v3 1) refl (making 1) (first_making 1) in
        let one : d ≡ g.creator = (only d g.place g.creator g.held).1 in
        let order : o ≡ g.order = order_same o g.order (sym act ∙ ap (λ (z : Bearing S). act_now P z.body) one ∙ g.act) in
        let body : (new_task P d.body o).body ≡ (new_task P g.creator.body g.order).body = ap (λ (z : Bearing S). (new_task P z.body o).body) one ∙ ap (λ (z : Order S). (new_task P g.creator.body z).body) order in
        let x = stage_field P main first IsJob 5 k6 (v3 1 ∷ []) f6.field 0 (v3 1) (v3 2) refl (making 1) (making 2) (first_making 1) (first_making 2) refl refl
        (λ a h. inl (sym (among_one (making 2) a h))) (λ a h. (making 2, first_making 2, ap (λ (z : Making). z.task) (among_one (making 1) a h)))
        k7.bodies k7.jobs (λ j ne. else_ (j == 1) 1 (k2.bodies j) (apart_from j 1 ne) ∙ sym (else_ (j == 1) 2 (k2.bodies j) (apart_from j 1 ne))) (λ j ne. else_ (j == 1) (Some j1) None (apart_from j 1 ne))
        (is_put j1 refl refl refl (record { task = refl; body = body; last = λ y. refl })) refl refl refl refl refl refl refl refl
        (λ j y sits a h q. (only (v3 1) j y sits).0) in
        record { field = x.field; same_net = x.same_net ∙ f6.same_net; same_gave = x.same_gave ∙ f6.same_gave; same_role = x.same_role ∙ f6.same_role }

    -- the count down that opens it
    abbrev pub c : Bearing S
    c = record { number = d.number; path = d.path; body = with_answer 0 d.body; last = last_one }

    abbrev pub v8 : Sight S
    v8 = record v1 { bears = c ∷ [] }

    abbrev pub k8 : Parts (Job S)
    k8 = record k7 { counts = λ e. cond (e == 1) 0 (cond (e == 0) 0 18446744073709551615) }

    pub f8 : FieldAt P main first IsJob 5 net2 (λ e. false) role1 k8 (v8 ∷ [])
    f8 =
        let f = f7.field in
        let role_at : (e : ℕ) (r : Role) → f.role e ≡ Some r → ((e ≡ 1) × (r1 ≡ r)) ⊎ ((e ≡ 2) × (r2 ≡ r)) = λ e r h. role_is e r (sym (ap (λ (z : ℕ → Option Role). z e) f7.same_role) ∙ h) in
        let g = f.made 0 (v3 2) refl (making 2) (first_making 2) in
        let held = only d g.place g.creator g.held in
        let one : d ≡ g.creator = held.1 in
        let x = open_field P main first IsJob 5 k7 (v3 2 ∷ []) f 0 (v3 2) v8 refl (making 2) (first_making 2) refl (λ h. let z : 1 ≡ 0 = h in absurd (omega (arith, z)))
        (λ e r h q. hangs e r (role_at e r h) (ap (λ (n : Net). n.place e) f7.same_net))
        c (ap (λ (z : ℕ). set (d ∷ []) z c) (sym held.0)) (ap (λ (z : Bearing S). z.number) one) (ap (λ (z : Bearing S). z.path) one) (ap (λ (z : Bearing S). with_answer 0 z.body) one)
        (λ y. last_at f.role role_at (ap (λ (z : ℕ → Option Role). z 1) f7.same_role) (ap (λ (z : ℕ → Option Role). z 2) f7.same_role) g.creator one y)
        (λ a h. elim h [ ]) (λ a h ne. absurd (ne (sym (ap (λ (z : Making). z.task) (among_one (making 2) a h)))))
        (λ j. cond (j == 1) true (f.opened j)) k8.counts refl refl
        (λ j ne. (else_ (j == 1) true (f.opened j) (apart_from j 1 ne), else_ (j == 1) 0 (k2.counts j) (apart_from j 1 ne) ∙ sym (else_ (j == 1) 1 (k2.counts j) (apart_from j 1 ne))))
        refl refl refl refl refl refl refl in
        record { field = x.field; same_net = x.same_net ∙ f7.same_net; same_gave = x.same_gave ∙ f7.same_gave; same_role = x.same_role ∙ f7.same_role }
      where
        hangs : (e : ℕ) (r : Role) → ((e ≡ 1) × (r1 ≡ r)) ⊎ ((e ≡ 2) × (r2 ≡ r)) → {p : Place} → p ≡ net2.place e → p ≢ apart
        hangs e r (inl is) q h = let z : top ≡ apart = sym (ap (λ (i : ℕ). net2.place i) is.0) ∙ (sym q ∙ h) in let bad : ⊥ = cc in bad
        hangs e r (inr is) q h = let z : top ≡ apart = sym (ap (λ (i : ℕ). net2.place i) is.0) ∙ (sym q ∙ h) in let bad : ⊥ = cc in bad

        last_at : (role : ℕ → Option Role) → ((e : ℕ) (r : Role) → role e ≡ Some r → ((e ≡ 1) × (r1 ≡ r)) ⊎ ((e ≡ 2) × (r2 ≡ r))) → role 1 ≡ Some r1 → role 2 ≡ Some r2 → (b : Bearing S) → d ≡ b → (y : Site)
            → ((i : ℕ) × (r : Role) × (role i ≡ Some r) × (r.task ≡ 1) × (r.site ≡ y) × (last_one y ≡ Some i)) ⊎ (((i : ℕ) (r : Role) → role i ≡ Some r → r.task ≡ 1 → r.site ≢ y) × (last_one y ≡ b.last y))
        last_at role role_at is is2 b one itself = inl (1, r1, is, refl, refl, refl)
        last_at role role_at is is2 b one (on zero) = inl (2, r2, is2, refl, refl, refl)
        last_at role role_at is is2 b one (on (suc y)) = inr (
          (λ i r h q site. elim (role_at i r h) [
            | inl p ↦ (let z : itself ≡ on (suc y) = ap (λ (z : Role). z.site) p.1 ∙ site in let bad : ⊥ = cc in bad)
            | inr p ↦ (let z : on 0 ≡ on (suc y) = ap (λ (z : Role). z.site) p.1 ∙ site in let bad : ⊥ = cc in bad)
          ]),
          sym (t.last (on (suc y))) ∙ ap (λ (z : Bearing S). z.last (on (suc y))) one,
        )

    -- its count is read, and its job taken
    abbrev v9 : Sight S
    v9 = record v8 { ready = 1 ∷ 0 ∷ [] }

    f9 : FieldAt P main first IsJob 5 net2 (λ e. false) role1 k8 (v9 ∷ [])
    f9 =
        let is : f8.field.role 1 ≡ Some r1 = ap (λ (z : ℕ → Option Role). z 1) f8.same_role in
        let g = ready_field P main first IsJob 5 k8 (v8 ∷ []) f8.field 0 v8 v9 refl (record { words = refl; bears = refl; makes = refl; loaded = refl; joined = refl; owes = refl }) 1 r1.path (of_entry r1 is refl refl) refl refl refl refl in
        record { field = g.field; same_net = g.same_net ∙ f8.same_net; same_gave = g.same_gave ∙ f8.same_gave; same_role = g.same_role ∙ f8.same_role }

    abbrev pub k10 : Parts (Job S)
    k10 = record k8 { bodies = λ e. cond (e == 1) 2 (cond (e == 0) 2 0); jobs = λ e. None }

    abbrev pub v10 : Bearing S → Sight S
    v10 x = record v9 { bears = x ∷ c ∷ [] }

    pub record Fetched (x : Bearing S) : Type 0 where
      pub number : x.number ≡ 1
      pub body : x.body ≡ (new_task P d.body o).body
      pub path : x.path ≡ created_now P d.body ∷ d.path
      pub last : (z : Site) → x.last z ≡ None
      pub rule : FieldAt P main first IsJob 5 net2 (λ e. false) role1 k10 (v10 x ∷ [])

    f10 : (x : Bearing S) × Fetched x
    f10 =
        let y = take_field P main first IsJob 5 k8 (v9 ∷ []) f9.field 0 v9 refl 1 (among_first refl) refl k10.bodies k10.jobs refl refl
        (λ j ne. else_ (j == 1) 2 (k2.bodies j) (apart_from j 1 ne) ∙ sym (else_ (j == 1) 1 (k2.bodies j) (apart_from j 1 ne))) (λ j ne. sym (else_ (j == 1) (Some j1) None (apart_from j 1 ne))) in
        let x = y.1 in
        let g = y.5 (v10 x) (record { words = refl; makes = refl; ready = refl; joined = refl; owes = refl; seen = refl }) refl refl refl in
        let same : j1 ≡ y.0 = some_same j1 y.0 y.3 in
        let role = g.same_role ∙ f9.same_role in
        let mine = g.field.borne 0 (v10 x) refl 0 x refl in (
          x,
          record {
            number = y.2;
            body = sym y.4.body ∙ ap (λ (j : Job S). j.body) (sym same);
            path = path_one g.field.role (λ e r h. role_is e r (sym (ap (λ (z : ℕ → Option Role). z e) role) ∙ h)) x.number x.path y.2 mine.number;
            last = λ z. sym (y.4.last z) ∙ ap (λ (j : Job S). j.last z) (sym same);
            rule = record { field = g.field; same_net = g.same_net ∙ f9.same_net; same_gave = g.same_gave ∙ f9.same_gave; same_role = role };
          },
        )
      where
        path_one : (role : ℕ → Option Role) → ((e : ℕ) (r : Role) → role e ≡ Some r → ((e ≡ 1) × (r1 ≡ r)) ⊎ ((e ≡ 2) × (r2 ≡ r))) → (i : ℕ) (p : List ℕ) → i ≡ 1 → IsNumberOf role i p → p ≡ created_now P d.body ∷ d.path
        path_one role at_ i p one of_main = let z : 0 ≡ 1 = one in absurd (omega (arith, z))
        path_one role at_ i p one (of_entry r is site path) = elim (at_ i r is) [ inl q ↦ sym path ∙ ap (λ (z : Role). z.path) (sym q.1) | inr q ↦ sym path ∙ ap (λ (z : Role). z.path) (sym q.1) ]

    -- if the new task ends at once, it leaves the value of its slot
    module _ (x : Bearing S) (y : Fetched x) (over : is_ended P (new_task P (record { start = main; found = [] }) o).body ≡ true) (nowait : (new_task P (record { start = main; found = [] }) o).body.start.order.wait ≡ false) where
      body : x.body ≡ (new_task P b0 o).body
      body = y.body ∙ ap (λ (z : Body S). (new_task P z o).body) t.body

      is2 : y.rule.field.role 2 ≡ Some r2
      is2 = ap (λ (z : ℕ → Option Role). z 2) y.rule.same_role

      abbrev value : ℕ
      value = slot_of P x.body.start 0 Add x.body.found

      abbrev k11 : Parts (Job S)
      k11 = record k10 { values = λ e. cond (e == 2) value (values e) }

      step : JobGoes (v10 x) (v10 x) 0 x x
      step = record { has = refl; bears = refl; number = refl; path = refl; last = refl; start = refl; makes = refl; ready = refl; joined = refl }

      f11 : FieldAt P main first IsJob 5 net2 (λ e. false) role1 k11 (v10 x ∷ [])
      f11 =
          let f = y.rule.field in
          let g = values_keep S (Job S) IsJob P main first 5 k10 (v10 x ∷ []) f 0 (v10 x) (v10 x) 0 x x x.body 2 r2 value k11.values (record {
            entry = record {
              with_job = record { sits = refl; job = step; alone = still_there };
              loaded = λ a h. elim h [ ];
              body = refl;
              is = is2;
              path = sym y.path;
              owes = refl;
              none = refl;
              seen = refl;
            };
            words = refl;
            unleft = refl;
            value_is = refl;
            others = λ j ne. else_ (j == 2) value (values j) (apart_from j 2 ne);
            still = λ a h. elim h [ ];
          }) in
          record { field = g.field; same_net = g.same_net ∙ y.rule.same_net; same_gave = g.same_gave ∙ y.rule.same_gave; same_role = g.same_role ∙ y.rule.same_role }

      -- the bit is set, by which its join is sent
      abbrev k12 : Parts (Job S)
      k12 = record k11 { states = λ e. cond (e == 2) (record open_flags { left = true }) (cond (e == 1) open_flags no_flags) }

      abbrev v12 : Sight S
      v12 = record (v10 x) { words = record first_view { held = record { entry = 2; flag = 0 } ∷ [] } }

      leaves : Leaves k11.states k12.states k11.infos 2 (v10 x).words v12.words
      leaves =
          record {
            empty = refl;
            full = refl;
            keeps = refl;
            sets = refl;
            others = λ j ne. else_ (j == 2) (record open_flags { left = true }) (k4.states j) (apart_from j 2 ne) ∙ sym (else_ (j == 2) open_flags (k4.states j) (apart_from j 2 ne));
            sends = refl;
            whole = refl;
          }

      f12 : FieldAt P main first IsJob 5 net2 (λ e. false) role1 k12 (v12 ∷ [])
      f12 =
          let f = f11.field in
          let is : f.role 2 ≡ Some r2 = ap (λ (z : ℕ → Option Role). z 2) f11.same_role in
          let hangs : f.net.place 2 ≢ apart = λ h. let z : top ≡ apart = ap (λ (n : Net). n.place 2) (sym f11.same_net) ∙ h in let bad : ⊥ = cc in bad in
          let go : JobGoes (v10 x) v12 0 x x = record { has = refl; bears = refl; number = refl; path = refl; last = refl; start = refl; makes = refl; ready = refl; joined = refl } in
          let g = leaves_keep S (Job S) IsJob P main first 5 k11 (v10 x ∷ []) f 0 (v10 x) v12 0 x x x.body 2 r2 k12.states 0 Add (record {
            entry = record {
              with_job = record { sits = refl; job = go; alone = still_there };
              loaded = λ a h. elim h [ ];
              body = refl;
              is = is;
              path = sym y.path;
              owes = refl;
              none = refl;
              seen = refl;
            };
            hangs = hangs;
            word = leaves;
            site = refl;
            right = ap (λ (z : Body S). right_of z.start.context 0) body ∙ right0;
            ended = ap (λ (z : Body S). is_ended P z) body ∙ over;
            wait = λ w. let z : false ≡ true = sym nowait ∙ ap (λ (u : Body S). u.start.order.wait) (sym body) ∙ w in absurd (let bad : ⊥ = cc in bad);
            value = refl;
            still = λ a h. elim h [ ];
          }) in
          record { field = g.field; same_net = g.same_net ∙ f11.same_net; same_gave = g.same_gave ∙ f11.same_gave; same_role = g.same_role ∙ f11.same_role }

      -- the cell is folded
      abbrev k13 : Parts (Job S)
      k13 = record k12 { cells = slice_set first 0 (combine Add (slice_index first 0) value) }

      abbrev v13 : Sight S
      v13 = record v12 { joined = 2 ∷ [] }

      holds : Has (record { entry = 2; flag = 0 }) v12.words.held
      holds = head refl refl

      f13 : FieldAt P main first IsJob 5 net2 (λ e. false) role1 k13 (v13 ∷ [])
      f13 =
          let g = joins_keep S (Job S) IsJob P main first 5 k12 (v12 ∷ []) f12.field 0 v12 v13 2 0 Add (record {
            sits = refl;
            held = holds;
            others = λ z h. elim h [ ];
            number = refl;
            mode = refl;
            view = record { bears = refl; makes = refl; words = refl; owes = refl; ready = refl; loaded = refl; seen = refl; still = refl; joined = refl };
          }) in
          record { field = g.field; same_net = g.same_net ∙ f12.same_net; same_gave = g.same_gave ∙ f12.same_gave; same_role = g.same_role ∙ f12.same_role }

      -- and the entry is given up
      abbrev k14 : Parts (Job S)
      k14 = record k13 { states = λ e. cond (e == 2) (record open_flags { left = true; given = true; done = true }) (cond (e == 1) open_flags no_flags) }

      abbrev gave2 : ℕ → Bool
      gave2 e = cond (e == 2) true false

      abbrev v14 : Sight S
      v14 = v10 x

      joins : JoinsGives net2 k13.states k14.states k13.infos 2 [] v13.words v14.words
      joins =
          record {
            took = λ h. refl;
            first = λ b h. elim h [ ];
            full = refl;
            childless = refl;
            sets = refl;
            others = λ j ne. else_ (j == 2) (record open_flags { left = true; given = true; done = true }) (k4.states j) (apart_from j 2 ne) ∙ sym (else_ (j == 2) (record open_flags { left = true }) (k4.states j) (apart_from j 2 ne));
            sends = refl;
            whole = refl;
          }

      f14 : FieldAt P main first IsJob 5 net2 gave2 role1 k14 (v14 ∷ [])
      f14 =
          let f = f13.field in
          let up : GivesUp f.gave gave2 2 = record { now = refl; same = λ j ne. else_ (j == 2) true false (apart_from j 2 ne) ∙ ap (λ (z : ℕ → Bool). z j) (sym f13.same_gave) } in
          let joins' = subst (λ (n : Net). JoinsGives n k13.states k14.states k13.infos 2 [] v13.words v14.words) (sym f13.same_net) joins in
          let g = joined_gives_keep S (Job S) IsJob P main first 5 k13 (v13 ∷ []) f 0 v13 v14 2 k14.states gave2 (record {
            sits = refl;
            joined = refl;
            none = refl;
            gives = up;
            word = joins_at_once [] joins';
            owes = refl;
            same = record { bears = refl; makes = refl; ready = refl; loaded = refl; joined = refl; seen = refl; still = refl };
          }) in
          record { field = g.field; same_net = g.same_net ∙ f13.same_net; same_gave = g.same_gave; same_role = g.same_role ∙ f13.same_role }
