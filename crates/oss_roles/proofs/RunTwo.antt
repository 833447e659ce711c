-- A run: main makes a task with two cells, of which it writes the first and reads the second; the task is opened. Its entries follow each other:
-- its own, and one for each of the two cells.
use Rattle.std.proofs.Common.{◌≡◌, ◌≢◌, ◌⊎◌, ◌+◌, inl, inr, sym, subst, refl, ◌∙◌, ap, ℕ, zero, suc, arith, Bool, true, false, List, [], ◌∷◌, Option, Some, None}
use Rattle.std.specs.Prelude.{◌==◌, cond}
use Rattle.std.proofs.lemmas.Bool.Decides.{eqb_tells}
use Rattle.oss_syntax.specs.declared.access.Mode.{Mode}
use Rattle.oss_syntax.specs.declared.access.Mode.TheVariants.{Read, Write}
use Rattle.oss_model.specs.Agreement.{Setting}
use Rattle.oss_model.specs.Bodies.{Order, Program, Start, Body}
use Rattle.oss_model.specs.Bodies.Act.{Created}
use Rattle.oss_model.specs.Context.{right_of}
use Rattle.oss_model.specs.Moves.{act_now, created_now, new_task}
use Rattle.oss_model.specs.Rights.{Right, Holds}
use Rattle.oss_words.specs.declared.entry.EntryInfo.{EntryInfo}
use Rattle.oss_words.specs.declared.entry.EntryState.{EntryState}
use Rattle.oss_words.specs.Net.{Net, Place, Adds, apart, top, bare, first_of_main}
use Rattle.oss_words.specs.Steps.{no_flags, Fills, Begun}
use Rattle.oss_words.specs.Sums.{num}
use Rattle.oss_words.specs.Views.{Among, among_first}
use Rattle.oss_roles.specs.Alone.{with_answer}
use Rattle.oss_roles.specs.Field.{FieldAt, Parts, Sits, going, is_put}
use Rattle.oss_roles.specs.Numbers.{entry_number, has_cell}
use Rattle.oss_roles.specs.Roles.{Role, Site, itself, on, Plans}
use Rattle.oss_roles.specs.Sights.{Bearing, Making, Sight}
use Rattle.oss_roles.specs.Starts.{first_sight}
use Rattle.oss_roles.proofs.StartLaw.{first_parts}
use Rattle.oss_roles.specs.MakeSteps.{begins_list}
use Rattle.oss_roles.proofs.MakeClaims.{takes_keep, first_puts_keep, plans_keep, fills_keep, links_keep, openings_keep}
use Rattle.oss_roles.proofs.WordClaims.{count_reads_keep, starts_keep, tasks_have_one_maker}
use Rattle.oss_roles.proofs.RunWrite.{Job, IsJob, when, else_, apart_from, among_one, some_none, some_same, path_of_main}

-- main's last children after the creation
abbrev pub last_two : Site → Option ℕ
last_two itself = Some 1
last_two (on zero) = Some 2
last_two (on (suc zero)) = Some 3
last_two (on (suc (suc c))) = None

module _ {S : Type 0} (P : Program S) (main : Start S) (first : List ℕ) (setting : Setting main first) (infos : ℕ → EntryInfo) (values cell_of : ℕ → ℕ) (o : Order S)
    (act0 : act_now P (record { start = main; found = [] }) ≡ Created o false)
    (right0 : right_of (new_task P (record { start = main; found = [] }) o).body.start.context 0 ≡ Holds Write true)
    (right1 : right_of (new_task P (record { start = main; found = [] }) o).body.start.context 1 ≡ Holds Read true)
    (both : (c : ℕ) (m : Mode) (s : Bool) → right_of (new_task P (record { start = main; found = [] }) o).body.start.context c ≡ Holds m s → (c ≡ 0) ⊎ (c ≡ 1)) where
  abbrev pub b0 : Body S
  b0 = record { start = main; found = [] }

  abbrev pub j0 : Job S
  j0 = record { task = 0; body = b0; last = λ y. None }

  abbrev pub k0 : Parts (Job S)
  k0 = first_parts j0 infos values cell_of first

  abbrev pub v0 : Sight S
  v0 = first_sight

  pub f0 : FieldAt P main first IsJob 7 bare (λ e. false) (λ e. None) k0 (v0 ∷ [])
  f0 =
      starts_keep S (Job S) IsJob P main first 7 k0 j0 setting (omega (arith)) (omega (arith)) (record { task = refl; body = refl; last = λ y. refl }) (record {
        states = λ e. refl;
        spent = refl;
        counts = λ e ne small. else_ (e == 0) 0 18446744073709551615 (apart_from e 0 ne);
        body = refl;
        bodies = λ e ne. else_ (e == 0) 1 0 (apart_from e 0 ne);
        job = refl;
        jobs = λ e ne. else_ (e == 0) (Some j0) None (apart_from e 0 ne);
        cells = refl;
      })

  -- the count of main is read
  abbrev pub v1 : Sight S
  v1 = record v0 { ready = 0 ∷ [] }

  pub f1 : FieldAt P main first IsJob 7 bare (λ e. false) (λ e. None) k0 (v1 ∷ [])
  f1 =
      let g = count_reads_keep S (Job S) IsJob P main first 7 k0 (v0 ∷ []) f0.field 0 v0 v1 0 (record { sits = refl; inside = omega (arith); spent = refl; ready = refl; seen = refl; still = refl; same = record { words = refl; bears = refl; makes = refl; loaded = refl; joined = refl; owes = refl } }) in
      record { field = g.field; same_net = g.same_net ∙ f0.same_net; same_gave = g.same_gave ∙ f0.same_gave; same_role = g.same_role ∙ f0.same_role }

  -- its job is taken
  abbrev pub k2 : Parts (Job S)
  k2 = record k0 { bodies = λ t. cond (t == 0) 2 0; jobs = λ t. None }

  abbrev pub v2 : Bearing S → Sight S
  v2 d = record v1 { bears = d ∷ [] }

  pub record Taken (d : Bearing S) : Type 0 where
    pub number : d.number ≡ 0
    pub body : d.body ≡ b0
    pub path : d.path ≡ []
    pub last : (y : Site) → d.last y ≡ None
    pub rule : FieldAt P main first IsJob 7 bare (λ e. false) (λ e. None) k2 (v2 d ∷ [])

  pub f2 : (d : Bearing S) × Taken d
  f2 =
      let t = takes_keep S (Job S) IsJob P main first 7 k0 (v1 ∷ []) f1.field 0 v1 0 k2.bodies k2.jobs (record {
        sits = refl;
        found = among_first refl;
        one = refl;
        out = refl;
        empty = refl;
        other_bodies = λ j ne. else_ (j == 0) 2 0 (apart_from j 0 ne) ∙ sym (else_ (j == 0) 1 0 (apart_from j 0 ne));
        other_jobs = λ j ne. sym (else_ (j == 0) (Some j0) None (apart_from j 0 ne));
      }) in
      let d = t.bearing in
      let g = t.keeps (v2 d) (record { words = refl; makes = refl; ready = refl; joined = refl; owes = refl; seen = refl }) refl refl refl in
      let same : j0 ≡ t.job = some_same j0 t.job t.stood in
      let role : g.field.role ≡ no_none = g.same_role ∙ f1.same_role in
      let mine = g.field.borne 0 (v2 d) refl 0 d refl in (
        d,
        record {
          number = t.number;
          body = sym t.is.body ∙ ap (λ (j : Job S). j.body) (sym same);
          path = path_of_main g.field.role (λ e. ap (λ (z : ℕ → Option Role). z e) role) d.number d.path mine.number;
          last = λ y. sym (t.is.last y) ∙ ap (λ (j : Job S). j.last y) (sym same);
          rule = record { field = g.field; same_net = g.same_net ∙ f1.same_net; same_gave = g.same_gave ∙ f1.same_gave; same_role = role };
        },
      )
    where
      no_none : ℕ → Option Role
      no_none = λ e. None

  module _ (d : Bearing S) (t : Taken d) where
    pub path : List ℕ
    path = created_now P d.body ∷ d.path

    pub act : act_now P d.body ≡ Created o false
    act = ap (λ (x : Body S). act_now P x) t.body ∙ act0

    abbrev Told : ℕ → Mode → Bool → Type 0
    Told c m s = ((0 ≡ c) × (Write ≡ m) × (true ≡ s)) ⊎ ((1 ≡ c) × (Read ≡ m) × (true ≡ s))

    right_now : (c : ℕ) (m : Mode) (s : Bool) → right_of (new_task P d.body o).body.start.context c ≡ Holds m s → Told c m s
    right_now c m s h =
        let h0 = subst (λ (x : Body S). right_of (new_task P x o).body.start.context c ≡ Holds m s) t.body h in
        elim (both c m s h0) [
          | inl q ↦
              let e : Holds Write true ≡ Holds m s = sym right0 ∙ ap (λ (x : ℕ). right_of (new_task P b0 o).body.start.context x) (sym q) ∙ h0 in
              inl (sym q, cc, cc)
          | inr q ↦
              let e : Holds Read true ≡ Holds m s = sym right1 ∙ ap (λ (x : ℕ). right_of (new_task P b0 o).body.start.context x) (sym q) ∙ h0 in
              inr (sym q, cc, cc)
        ]

    -- below cell 1 the task has one cell
    second : entry_number 1 (right_of (new_task P d.body o).body.start.context) 1 ≡ 3
    second = ap (λ (r : Right). 1 + 1 + (num (has_cell r) + 0)) (ap (λ (x : Body S). right_of (new_task P x o).body.start.context 0) t.body ∙ right0)

    -- the count of the new task is set: 1, since it waits for no cell
    abbrev pub r1 : Role
    r1 = record { path = created_now P d.body ∷ d.path; site = itself; task = 1; mode = Read; strong = false; counts = false }

    abbrev pub r2 : Role
    r2 = record { path = created_now P d.body ∷ d.path; site = on 0; task = 1; mode = Write; strong = true; counts = false }

    abbrev pub r3 : Role
    r3 = record { path = created_now P d.body ∷ d.path; site = on 1; task = 1; mode = Read; strong = true; counts = false }

    abbrev pub role1 : ℕ → Option Role
    role1 e = cond (e == 1) (Some r1) (cond (e == 2) (Some r2) (cond (e == 3) (Some r3) None))

    abbrev pub Ones : ℕ → Role → Type 0
    Ones e r = ((e ≡ 1) × (r1 ≡ r)) ⊎ (((e ≡ 2) × (r2 ≡ r)) ⊎ ((e ≡ 3) × (r3 ≡ r)))

    pub role_is : (e : ℕ) (r : Role) → role1 e ≡ Some r → Ones e r
    role_is e r h = elim (eqb_tells e 1) [
      | inl q ↦ inl (q.1, some_same r1 r (sym (when (e == 1) (Some r1) (cond (e == 2) (Some r2) (cond (e == 3) (Some r3) None)) q.0) ∙ h))
      | inr q ↦
          let k : cond (e == 2) (Some r2) (cond (e == 3) (Some r3) None) ≡ Some r = sym (else_ (e == 1) (Some r1) (cond (e == 2) (Some r2) (cond (e == 3) (Some r3) None)) q.0) ∙ h in
          elim (eqb_tells e 2) [
            | inl p ↦ inr (inl (p.1, some_same r2 r (sym (when (e == 2) (Some r2) (cond (e == 3) (Some r3) None) p.0) ∙ k)))
            | inr p ↦
                let l : cond (e == 3) (Some r3) None ≡ Some r = sym (else_ (e == 2) (Some r2) (cond (e == 3) (Some r3) None) p.0) ∙ k in
                elim (eqb_tells e 3) [
                  | inl u ↦ inr (inr (u.1, some_same r3 r (sym (when (e == 3) (Some r3) None u.0) ∙ l)))
                  | inr u ↦ some_none r (sym (else_ (e == 3) (Some r3) None u.0) ∙ l)
                ]
          ]
    ]

    uncounted : (e : ℕ) (r : Role) → role1 e ≡ Some r → r.counts ≡ false
    uncounted e r h = elim (role_is e r h) [
      | inl q ↦ ap (λ (x : Role). x.counts) (sym q.1)
      | inr k ↦ elim k [ inl q ↦ ap (λ (x : Role). x.counts) (sym q.1) | inr q ↦ ap (λ (x : Role). x.counts) (sym q.1) ]
    ]

    abbrev pub making : ℕ → Making
    making stage = record { by = 0; task = 1; stage = stage }

    abbrev pub v3 : ℕ → Sight S
    v3 stage = record (v2 d) { makes = making stage ∷ [] }

    abbrev pub k3 : Parts (Job S)
    k3 = record k2 { counts = λ e. cond (e == 1) 1 (cond (e == 0) 0 18446744073709551615) }

    pub apart_sites : {A : Type 0} {c : ℕ} → itself ≡ on c → A
    apart_sites h = absurd (let bad : ⊥ = cc in bad)

    cell_of_site : (a b : ℕ) → on a ≡ on b → a ≡ b
    cell_of_site a b h = cc

    apart_cells : {A : Type 0} → on 0 ≡ on 1 → A
    apart_cells h = let z = cell_of_site 0 1 h in absurd (omega (arith, z))

    -- of the three entries no two have one site
    same_entry : (e f : ℕ) (r q : Role) → Ones e r → Ones f q → r.site ≡ q.site → e ≡ f
    same_entry e f r q (inl h) (inl g) z = h.0 ∙ sym g.0
    same_entry e f r q (inl h) (inr (inl g)) z = apart_sites (ap (λ (w : Role). w.site) h.1 ∙ z ∙ ap (λ (w : Role). w.site) (sym g.1))
    same_entry e f r q (inl h) (inr (inr g)) z = apart_sites (ap (λ (w : Role). w.site) h.1 ∙ z ∙ ap (λ (w : Role). w.site) (sym g.1))
    same_entry e f r q (inr (inl h)) (inl g) z = apart_sites (sym (ap (λ (w : Role). w.site) h.1 ∙ z ∙ ap (λ (w : Role). w.site) (sym g.1)))
    same_entry e f r q (inr (inl h)) (inr (inl g)) z = h.0 ∙ sym g.0
    same_entry e f r q (inr (inl h)) (inr (inr g)) z = apart_cells (ap (λ (w : Role). w.site) h.1 ∙ z ∙ ap (λ (w : Role). w.site) (sym g.1))
    same_entry e f r q (inr (inr h)) (inl g) z = apart_sites (sym (ap (λ (w : Role). w.site) h.1 ∙ z ∙ ap (λ (w : Role). w.site) (sym g.1)))
    same_entry e f r q (inr (inr h)) (inr (inl g)) z = apart_cells (sym (ap (λ (w : Role). w.site) h.1 ∙ z ∙ ap (λ (w : Role). w.site) (sym g.1)))
    same_entry e f r q (inr (inr h)) (inr (inr g)) z = h.0 ∙ sym g.0

    plans : Plans bare (λ e. None) role1 1 (created_now P d.body ∷ d.path)
    plans =
        record {
          each = λ e. elim (eqb_tells e 1) [
            | inl q ↦ inr (refl, r1, when (e == 1) (Some r1) (cond (e == 2) (Some r2) (cond (e == 3) (Some r3) None)) q.0, refl, refl, refl)
            | inr q ↦
                let first_not = else_ (e == 1) (Some r1) (cond (e == 2) (Some r2) (cond (e == 3) (Some r3) None)) q.0 in
                elim (eqb_tells e 2) [
                  | inl p ↦ inr (refl, r2, first_not ∙ when (e == 2) (Some r2) (cond (e == 3) (Some r3) None) p.0, refl, refl, refl)
                  | inr p ↦
                      let second_not = first_not ∙ else_ (e == 2) (Some r2) (cond (e == 3) (Some r3) None) p.0 in
                      elim (eqb_tells e 3) [
                        | inl u ↦ inr (refl, r3, second_not ∙ when (e == 3) (Some r3) None u.0, refl, refl, refl)
                        | inr u ↦ inl (second_not ∙ else_ (e == 3) (Some r3) None u.0)
                      ]
                ]
          ];
          fresh = λ e r h. some_none r h;
          own = (r1, refl, refl, refl);
          unused = refl;
          not_main = refl;
          child = (created_now P d.body, d.path, refl);
          one = λ e f r q a b x y z. same_entry e f r q (role_is e r a) (role_is f q b) z;
        }

    pub f3 : FieldAt P main first IsJob 7 bare (λ e. false) role1 k3 (v3 0 ∷ [])
    f3 =
        let f = t.rule in
        let plans' = subst (λ (n : Net). Plans n f.field.role role1 1 (created_now P d.body ∷ d.path)) (sym f.same_net) (subst (λ (x : ℕ → Option Role). Plans bare x role1 1 (created_now P d.body ∷ d.path)) (sym f.same_role) plans) in
        let g = plans_keep S (Job S) IsJob P main first 7 k2 (v2 d ∷ []) f.field 0 (v2 d) (v3 0) 0 d o 1 role1 (making 0) k3.counts (record {
          sits = refl;
          has = refl;
          act = act;
          plans = plans';
          inside = λ e r h. elim (role_is e r h) [
            | inl q ↦ (let z = q.0 in omega (arith, z))
            | inr k ↦ elim k [ inl q ↦ (let z = q.0 in omega (arith, z)) | inr q ↦ (let z = q.0 in omega (arith, z)) ]
          ];
          access = λ c m s h. elim (right_now c m s h) [
            | inl w ↦ (2, r2, refl, refl, ap (λ (x : ℕ). on x) w.0, refl, w.1, w.2, ap (λ (x : ℕ). entry_number 1 (right_of (new_task P d.body o).body.start.context) x) w.0)
            | inr w ↦ (3, r3, refl, refl, ap (λ (x : ℕ). on x) w.0, refl, w.1, w.2, sym second ∙ ap (λ (x : ℕ). entry_number 1 (right_of (new_task P d.body o).body.start.context) x) w.0)
          ];
          strongly = λ e r h p c. let z : false ≡ true = sym (uncounted e r h) ∙ c in absurd (let bad : ⊥ = cc in bad);
          by = t.number;
          task = refl;
          stage = refl;
          filled = refl;
          others = λ j ne. else_ (j == 1) 1 (k2.counts j) (apart_from j 1 ne);
          bears = refl;
          makes = refl;
          same = record { words = refl; owes = refl; joined = refl; ready = refl; loaded = refl; seen = refl; still = refl };
        }) in
        record { field = g.field; same_net = g.same_net ∙ f.same_net; same_gave = g.same_gave ∙ f.same_gave; same_role = g.same_role }

    -- whoever makes the task 1 is the seat that has filled its count
    one_maker : (id : ℕ) (x : Sight S) (a : Making) → Sits (v3 0 ∷ []) id x → Among a x.makes → a.task ≡ 1 → id ≡ 0
    one_maker id x a sits among same = tasks_have_one_maker S (Job S) IsJob P main first 7 k3 (v3 0 ∷ []) f3.field 0 id (v3 0) x (making 0) a refl (among_first refl) sits among same

    -- its own entry is filled
    abbrev pub open_flags : EntryState
    open_flags = record no_flags { reads = true; folds = true; writes = true; clear = true }

    abbrev pub info1 : EntryInfo
    info1 = record { mode = Read; strong = false; depth = 1; parent = 0; task = 1 }

    abbrev pub k4 : Parts (Job S)
    k4 = record k3 { states = λ e. cond (e == 1) open_flags no_flags; infos = λ e. cond (e == 1) info1 (infos e) }

    pub fills : Fills 7 bare k3.states k4.states k3.infos k4.infos 1
    fills =
        record {
          inside = omega (arith);
          loose = refl;
          blank_before = record { linked = refl; headed = refl; left = refl; folds = refl; reads = refl; writes = refl; clear = refl };
          blank_now = record { linked = refl; headed = refl; left = refl; folds = refl; reads = refl; writes = refl; clear = refl };
          undone = refl;
          ungiven_before = refl;
          ungiven = refl;
          once = inr refl;
          others = λ j ne. else_ (j == 1) open_flags no_flags (apart_from j 1 ne);
          other_infos = λ j ne. else_ (j == 1) info1 (infos j) (apart_from j 1 ne);
        }

    pub f4 : FieldAt P main first IsJob 7 bare (λ e. false) role1 k4 (v3 0 ∷ [])
    f4 =
        let fills' = subst (λ (n : Net). Fills 7 n k3.states k4.states k3.infos k4.infos 1) (sym f3.same_net) fills in
        let g = fills_keep S (Job S) IsJob P main first 7 k3 (v3 0 ∷ []) f3.field 1 k4.states k4.infos k3.cell_of (record {
          fills = fills';
          cells = λ j ne. refl;
          flags = inr (λ r h. uncounted 1 r (sym (ap (λ (z : ℕ → Option Role). z 1) f3.same_role) ∙ h));
        }) in
        record { field = g.field; same_net = g.same_net ∙ f3.same_net; same_gave = g.same_gave ∙ f3.same_gave; same_role = g.same_role ∙ f3.same_role }

    -- and that of its cell
    abbrev pub info2 : EntryInfo
    info2 = record { mode = Write; strong = true; depth = 1; parent = 0; task = 1 }

    abbrev pub k4b : Parts (Job S)
    k4b = record k4 { states = λ e. cond (e == 2) open_flags (cond (e == 1) open_flags no_flags); infos = λ e. cond (e == 2) info2 (cond (e == 1) info1 (infos e)); cell_of = λ e. cond (e == 2) 0 (cell_of e) }

    pub fills2 : Fills 7 bare k4.states k4b.states k4.infos k4b.infos 2
    fills2 =
        record {
          inside = omega (arith);
          loose = refl;
          blank_before = record { linked = refl; headed = refl; left = refl; folds = refl; reads = refl; writes = refl; clear = refl };
          blank_now = record { linked = refl; headed = refl; left = refl; folds = refl; reads = refl; writes = refl; clear = refl };
          undone = refl;
          ungiven_before = refl;
          ungiven = refl;
          once = inr refl;
          others = λ j ne. else_ (j == 2) open_flags (k4.states j) (apart_from j 2 ne);
          other_infos = λ j ne. else_ (j == 2) info2 (k4.infos j) (apart_from j 2 ne);
        }

    pub f4b : FieldAt P main first IsJob 7 bare (λ e. false) role1 k4b (v3 0 ∷ [])
    f4b =
        let fills' = subst (λ (n : Net). Fills 7 n k4.states k4b.states k4.infos k4b.infos 2) (sym f4.same_net) fills2 in
        let g = fills_keep S (Job S) IsJob P main first 7 k4 (v3 0 ∷ []) f4.field 2 k4b.states k4b.infos k4b.cell_of (record {
          fills = fills';
          cells = λ j ne. else_ (j == 2) 0 (cell_of j) (apart_from j 2 ne);
          flags = inr (λ r h. uncounted 2 r (sym (ap (λ (z : ℕ → Option Role). z 2) f4.same_role) ∙ h));
        }) in
        record { field = g.field; same_net = g.same_net ∙ f4.same_net; same_gave = g.same_gave ∙ f4.same_gave; same_role = g.same_role ∙ f4.same_role }

    -- and that of the second cell
    abbrev pub info3 : EntryInfo
    info3 = record { mode = Read; strong = true; depth = 1; parent = 0; task = 1 }

    abbrev pub k4c : Parts (Job S)
    k4c = record k4b { states = λ e. cond (e == 3) open_flags (k4b.states e); infos = λ e. cond (e == 3) info3 (k4b.infos e); cell_of = λ e. cond (e == 3) 1 (k4b.cell_of e) }

    fills3 : Fills 7 bare k4b.states k4c.states k4b.infos k4c.infos 3
    fills3 =
        record {
          inside = omega (arith);
          loose = refl;
          blank_before = record { linked = refl; headed = refl; left = refl; folds = refl; reads = refl; writes = refl; clear = refl };
          blank_now = record { linked = refl; headed = refl; left = refl; folds = refl; reads = refl; writes = refl; clear = refl };
          undone = refl;
          ungiven_before = refl;
          ungiven = refl;
          once = inr refl;
          others = λ j ne. else_ (j == 3) open_flags (k4b.states j) (apart_from j 3 ne);
          other_infos = λ j ne. else_ (j == 3) info3 (k4b.infos j) (apart_from j 3 ne);
        }

    f4c : FieldAt P main first IsJob 7 bare (λ e. false) role1 k4c (v3 0 ∷ [])
    f4c =
        let fills' = subst (λ (n : Net). Fills 7 n k4b.states k4c.states k4b.infos k4c.infos 3) (sym f4b.same_net) fills3 in
        let g = fills_keep S (Job S) IsJob P main first 7 k4b (v3 0 ∷ []) f4b.field 3 k4c.states k4c.infos k4c.cell_of (record {
          fills = fills';
          cells = λ j ne. else_ (j == 3) 1 (k4b.cell_of j) (apart_from j 3 ne);
          flags = inr (λ r h. uncounted 3 r (sym (ap (λ (z : ℕ → Option Role). z 3) f4b.same_role) ∙ h));
        }) in
        record { field = g.field; same_net = g.same_net ∙ f4b.same_net; same_gave = g.same_gave ∙ f4b.same_gave; same_role = g.same_role ∙ f4b.same_role }

    -- by its last fill each begins a list of main
    abbrev pub net1 : Net
    net1 = record { place = λ e. cond (e == 1) top apart; parent = λ e. 0; lead = λ e. e; depth = λ e. cond (e == 1) 1 0; mode = λ e. cond (e == 1) Read Write; last = λ e. cond (e == 0) 1 0 }

    pub adds : Adds bare net1 1
    adds =
        record {
          fresh = refl;
          not_main = λ h. let z : 1 ≡ 0 = h in absurd (omega (arith, z));
          place = λ j ne. else_ (j == 1) top apart (apart_from j 1 ne);
          parent = λ j ne. refl;
          lead = λ j ne. refl;
          depth = λ j ne. else_ (j == 1) 1 0 (apart_from j 1 ne);
          mode = λ j ne. else_ (j == 1) Read Write (apart_from j 1 ne);
          last = λ q ne. else_ (q == 0) 1 0 (apart_from q 0 ne);
          newest = refl;
          how = first_of_main refl refl refl refl;
        }

    pub begun : Begun 7 bare net1 k4c.states k4c.infos 1
    begun =
        record {
          adds = adds;
          begins = refl;
          inside = omega (arith);
          blank = record { linked = refl; headed = refl; left = refl; folds = refl; reads = refl; writes = refl; clear = refl };
          info = refl;
          open_yet = refl;
          tells = record { mode = refl; depth = refl; shallow = omega (arith) };
          ungiven = refl;
          undone = refl;
          reads = refl;
          writes = refl;
          folds = refl;
          clear = refl;
        }

    pub first_making : (s : ℕ) → Among (making s) (v3 s).makes
    first_making s = among_first refl

    pub f5 : FieldAt P main first IsJob 7 net1 (λ e. false) role1 k4c (v3 0 ∷ [])
    f5 =
        let f = f4c.field in
        let begun' = subst (λ (n : Net). Begun 7 n net1 k4c.states k4c.infos 1) (sym f4c.same_net) begun in
        let x = links_keep S (Job S) IsJob P main first 7 k4c (v3 0 ∷ []) f 0 (v3 0) (v3 0) 0 d (making 0) 1 r1 net1 k4c.states (record {
          sits = refl;
          has = refl;
          by = t.number;
          among = first_making 0;
          is = ap (λ (z : ℕ → Option Role). z 1) f4c.same_role;
          task = refl;
          linked = begins_list t.path (t.last itself) begun' refl refl refl;
          told = (refl, refl, refl);
          starts = λ c s. let z : false ≡ true = s in absurd (let bad : ⊥ = cc in bad);
          cell = λ c h. let z : itself ≡ on c = h in absurd (let bad : ⊥ = cc in bad);
          same = record { bears = refl; makes = refl; ready = refl; loaded = refl; joined = refl; seen = refl; still = refl };
          owes = refl;
        }) in
        record { field = x.field; same_net = x.same_net; same_gave = x.same_gave ∙ f4c.same_gave; same_role = x.same_role ∙ f4c.same_role }

    abbrev pub net2 : Net
    net2 = record { place = λ e. cond (e == 2) top (cond (e == 1) top apart); parent = λ e. 0; lead = λ e. e; depth = λ e. cond (e == 2) 1 (cond (e == 1) 1 0); mode = λ e. cond (e == 2) Write (cond (e == 1) Read Write); last = λ e. cond (e == 0) 2 0 }

    pub adds2 : Adds net1 net2 2
    adds2 =
        record {
          fresh = refl;
          not_main = λ h. let z : 2 ≡ 0 = h in absurd (omega (arith, z));
          place = λ j ne. else_ (j == 2) top (net1.place j) (apart_from j 2 ne);
          parent = λ j ne. refl;
          lead = λ j ne. refl;
          depth = λ j ne. else_ (j == 2) 1 (net1.depth j) (apart_from j 2 ne);
          mode = λ j ne. else_ (j == 2) Write (net1.mode j) (apart_from j 2 ne);
          last = λ q ne. else_ (q == 0) 2 0 (apart_from q 0 ne) ∙ sym (else_ (q == 0) 1 0 (apart_from q 0 ne));
          newest = refl;
          how = first_of_main refl refl refl refl;
        }

    pub begun2 : Begun 7 net1 net2 k4c.states k4c.infos 2
    begun2 =
        record {
          adds = adds2;
          begins = refl;
          inside = omega (arith);
          blank = record { linked = refl; headed = refl; left = refl; folds = refl; reads = refl; writes = refl; clear = refl };
          info = refl;
          open_yet = refl;
          tells = record { mode = refl; depth = refl; shallow = omega (arith) };
          ungiven = refl;
          undone = refl;
          reads = refl;
          writes = refl;
          folds = refl;
          clear = refl;
        }

    pub f5b : FieldAt P main first IsJob 7 net2 (λ e. false) role1 k4c (v3 0 ∷ [])
    f5b =
        let f = f5.field in
        let begun' = subst (λ (n : Net). Begun 7 n net2 k4c.states k4c.infos 2) (sym f5.same_net) begun2 in
        let x = links_keep S (Job S) IsJob P main first 7 k4c (v3 0 ∷ []) f 0 (v3 0) (v3 0) 0 d (making 0) 2 r2 net2 k4c.states (record {
          sits = refl;
          has = refl;
          by = t.number;
          among = first_making 0;
          is = ap (λ (z : ℕ → Option Role). z 2) f5.same_role;
          task = refl;
          linked = begins_list t.path (t.last (on 0)) begun' refl refl refl;
          told = (refl, refl, refl);
          starts = λ c s. refl;
          cell = λ c h. let z : on 0 ≡ on c = h in cc;
          same = record { bears = refl; makes = refl; ready = refl; loaded = refl; joined = refl; seen = refl; still = refl };
          owes = refl;
        }) in
        record { field = x.field; same_net = x.same_net; same_gave = x.same_gave ∙ f5.same_gave; same_role = x.same_role ∙ f5.same_role }

    abbrev pub net3 : Net
    net3 = record { place = λ e. cond (e == 3) top (net2.place e); parent = λ e. 0; lead = λ e. e; depth = λ e. cond (e == 3) 1 (net2.depth e); mode = λ e. cond (e == 3) Read (net2.mode e); last = λ e. cond (e == 0) 3 0 }

    adds3 : Adds net2 net3 3
    adds3 =
        record {
          fresh = refl;
          not_main = λ h. let z : 3 ≡ 0 = h in absurd (omega (arith, z));
          place = λ j ne. else_ (j == 3) top (net2.place j) (apart_from j 3 ne);
          parent = λ j ne. refl;
          lead = λ j ne. refl;
          depth = λ j ne. else_ (j == 3) 1 (net2.depth j) (apart_from j 3 ne);
          mode = λ j ne. else_ (j == 3) Read (net2.mode j) (apart_from j 3 ne);
          last = λ q ne. else_ (q == 0) 3 0 (apart_from q 0 ne) ∙ sym (else_ (q == 0) 2 0 (apart_from q 0 ne));
          newest = refl;
          how = first_of_main refl refl refl refl;
        }

    begun3 : Begun 7 net2 net3 k4c.states k4c.infos 3
    begun3 =
        record {
          adds = adds3;
          begins = refl;
          inside = omega (arith);
          blank = record { linked = refl; headed = refl; left = refl; folds = refl; reads = refl; writes = refl; clear = refl };
          info = refl;
          open_yet = refl;
          tells = record { mode = refl; depth = refl; shallow = omega (arith) };
          ungiven = refl;
          undone = refl;
          reads = refl;
          writes = refl;
          folds = refl;
          clear = refl;
        }

    f5c : FieldAt P main first IsJob 7 net3 (λ e. false) role1 k4c (v3 0 ∷ [])
    f5c =
        let f = f5b.field in
        let begun' = subst (λ (n : Net). Begun 7 n net3 k4c.states k4c.infos 3) (sym f5b.same_net) begun3 in
        let x = links_keep S (Job S) IsJob P main first 7 k4c (v3 0 ∷ []) f 0 (v3 0) (v3 0) 0 d (making 0) 3 r3 net3 k4c.states (record {
          sits = refl;
          has = refl;
          by = t.number;
          among = first_making 0;
          is = ap (λ (z : ℕ → Option Role). z 3) f5b.same_role;
          task = refl;
          linked = begins_list t.path (t.last (on 1)) begun' refl refl refl;
          told = (refl, refl, refl);
          starts = λ c s. refl;
          cell = λ c h. let z : on 1 ≡ on c = h in cc;
          same = record { bears = refl; makes = refl; ready = refl; loaded = refl; joined = refl; seen = refl; still = refl };
          owes = refl;
        }) in
        record { field = x.field; same_net = x.same_net; same_gave = x.same_gave ∙ f5b.same_gave; same_role = x.same_role ∙ f5b.same_role }

    -- the new job is put into its slot, in two steps
    abbrev pub j1 : Job S
    j1 = record { task = 1; body = (new_task P d.body o).body; last = λ y. None }

    abbrev pub k6 : Parts (Job S)
    k6 = record k4c { bodies = λ e. cond (e == 1) 2 (cond (e == 0) 2 0) }

    abbrev pub k7 : Parts (Job S)
    k7 = record k4c { bodies = λ e. cond (e == 1) 1 (cond (e == 0) 2 0); jobs = λ e. cond (e == 1) (Some j1) None }

    pub f6 : FieldAt P main first IsJob 7 net3 (λ e. false) role1 k6 (v3 1 ∷ [])
    f6 =
        let x = first_puts_keep S (Job S) IsJob P main first 7 k4c (v3 0 ∷ []) f5c.field 0 (v3 0) (v3 1) 0 d o (making 0) (making 1) k6.bodies k6.jobs (record {
          sits = refl;
          has = refl;
          by = t.number;
          act = act;
          among = first_making 0;
          among_now = first_making 1;
          task = refl;
          maker = refl;
          others = λ a h. inl (sym (among_one (making 1) a h));
          kept = λ a h. (making 1, first_making 1, ap (λ (z : Making). z.task) (among_one (making 0) a h));
          other_bodies = λ j ne. else_ (j == 1) 2 (k2.bodies j) (apart_from j 1 ne);
          other_jobs = λ j ne. refl;
          put = going refl refl refl;
          bears = refl;
          same = record { words = refl; owes = refl; joined = refl; ready = refl; loaded = refl; seen = refl; still = refl };
        }) in
        record { field = x.field; same_net = x.same_net ∙ f5c.same_net; same_gave = x.same_gave ∙ f5c.same_gave; same_role = x.same_role ∙ f5c.same_role }

    pub f7 : FieldAt P main first IsJob 7 net3 (λ e. false) role1 k7 (v3 2 ∷ [])
    f7 =
        let x = first_puts_keep S (Job S) IsJob P main first 7 k6 (v3 1 ∷ []) f6.field 0 (v3 1) (v3 2) 0 d o (making 1) (making 2) k7.bodies k7.jobs (record {
          sits = refl;
          has = refl;
          by = t.number;
          act = act;
          among = first_making 1;
          among_now = first_making 2;
          task = refl;
          maker = refl;
          others = λ a h. inl (sym (among_one (making 2) a h));
          kept = λ a h. (making 2, first_making 2, ap (λ (z : Making). z.task) (among_one (making 1) a h));
          other_bodies = λ j ne. else_ (j == 1) 1 (k2.bodies j) (apart_from j 1 ne) ∙ sym (else_ (j == 1) 2 (k2.bodies j) (apart_from j 1 ne));
          other_jobs = λ j ne. else_ (j == 1) (Some j1) None (apart_from j 1 ne);
          put = is_put j1 refl refl refl (record { task = refl; body = refl; last = λ y. refl });
          bears = refl;
          same = record { words = refl; owes = refl; joined = refl; ready = refl; loaded = refl; seen = refl; still = refl };
        }) in
        record { field = x.field; same_net = x.same_net ∙ f6.same_net; same_gave = x.same_gave ∙ f6.same_gave; same_role = x.same_role ∙ f6.same_role }

    -- the count down that opens it
    abbrev pub c : Bearing S
    c = record { number = d.number; path = d.path; body = with_answer 0 d.body; last = last_two }

    abbrev pub v8 : Sight S
    v8 = record v1 { bears = c ∷ [] }

    abbrev pub k8 : Parts (Job S)
    k8 = record k7 { counts = λ e. cond (e == 1) 0 (cond (e == 0) 0 18446744073709551615) }

    pub f8 : FieldAt P main first IsJob 7 net3 (λ e. false) role1 k8 (v8 ∷ [])
    f8 =
        let f = f7.field in
        let role_at : (e : ℕ) (r : Role) → f.role e ≡ Some r → Ones e r = λ e r h. role_is e r (sym (ap (λ (z : ℕ → Option Role). z e) f7.same_role) ∙ h) in
        let x = openings_keep S (Job S) IsJob P main first 7 k7 (v3 2 ∷ []) f 0 (v3 2) v8 0 d c (making 2) k8.counts (record {
          sits = refl;
          has = refl;
          by = t.number;
          among = first_making 2;
          put = refl;
          hung = λ e r h q. hangs e r (role_at e r h) (ap (λ (n : Net). n.place e) f7.same_net);
          down = refl;
          others = λ j ne. else_ (j == 1) 0 (k2.counts j) (apart_from j 1 ne) ∙ sym (else_ (j == 1) 1 (k2.counts j) (apart_from j 1 ne));
          bears = refl;
          number = refl;
          path = refl;
          body = refl;
          last = λ y. last_at f.role role_at (ap (λ (z : ℕ → Option Role). z 1) f7.same_role) (ap (λ (z : ℕ → Option Role). z 2) f7.same_role) (ap (λ (z : ℕ → Option Role). z 3) f7.same_role) d refl y;
          makes = λ a h. elim h [ ];
          kept = λ a h ne. absurd (ne (sym (ap (λ (z : Making). z.task) (among_one (making 2) a h))));
          same = record { words = refl; owes = refl; joined = refl; ready = refl; loaded = refl; seen = refl; still = refl };
        }) in
        record { field = x.field; same_net = x.same_net ∙ f7.same_net; same_gave = x.same_gave ∙ f7.same_gave; same_role = x.same_role ∙ f7.same_role }
      where
        hangs : (e : ℕ) (r : Role) → Ones e r → {p : Place} → p ≡ net3.place e → p ≢ apart
        hangs e r (inl is) q h = let z : top ≡ apart = sym (ap (λ (i : ℕ). net3.place i) is.0) ∙ (sym q ∙ h) in let bad : ⊥ = cc in bad
        hangs e r (inr (inl is)) q h = let z : top ≡ apart = sym (ap (λ (i : ℕ). net3.place i) is.0) ∙ (sym q ∙ h) in let bad : ⊥ = cc in bad
        hangs e r (inr (inr is)) q h = let z : top ≡ apart = sym (ap (λ (i : ℕ). net3.place i) is.0) ∙ (sym q ∙ h) in let bad : ⊥ = cc in bad

        elsewhere : (c e : ℕ) (r : Role) → Ones e r → r.site ≢ on (suc (suc c))
        elsewhere c e r (inl p) site = let z : itself ≡ on (suc (suc c)) = ap (λ (z : Role). z.site) p.1 ∙ site in let bad : ⊥ = cc in bad
        elsewhere c e r (inr (inl p)) site = let z : on 0 ≡ on (suc (suc c)) = ap (λ (z : Role). z.site) p.1 ∙ site in let bad : ⊥ = cc in bad
        elsewhere c e r (inr (inr p)) site =
            let z : on 1 ≡ on (suc (suc c)) = ap (λ (z : Role). z.site) p.1 ∙ site in
            let u = cell_of_site 1 (suc (suc c)) z in
            absurd (omega (arith, u))

        last_at : (role : ℕ → Option Role) → ((e : ℕ) (r : Role) → role e ≡ Some r → Ones e r) → role 1 ≡ Some r1 → role 2 ≡ Some r2 → role 3 ≡ Some r3 → (b : Bearing S) → d ≡ b → (y : Site)
            → ((i : ℕ) × (r : Role) × (role i ≡ Some r) × (r.task ≡ 1) × (r.site ≡ y) × (last_two y ≡ Some i)) ⊎ (((i : ℕ) (r : Role) → role i ≡ Some r → r.task ≡ 1 → r.site ≢ y) × (last_two y ≡ b.last y))
        last_at role role_at is is2 is3 b one itself = inl (1, r1, is, refl, refl, refl)
        last_at role role_at is is2 is3 b one (on zero) = inl (2, r2, is2, refl, refl, refl)
        last_at role role_at is is2 is3 b one (on (suc zero)) = inl (3, r3, is3, refl, refl, refl)
        last_at role role_at is is2 is3 b one (on (suc (suc y))) = inr (
          (λ i r h q site. elsewhere y i r (role_at i r h) site),
          sym (t.last (on (suc (suc y)))) ∙ ap (λ (z : Bearing S). z.last (on (suc (suc y)))) one,
        )
