-- The run of `RunWrite` goes on: the new task is taken, stores a value in its cell and ends; it gives the cell up, and its job is put back.
use Rattle.std.proofs.Common.{◌≡◌, ◌≢◌, ◌⊎◌, inl, inr, sym, refl, ◌∙◌, ap, ℕ, arith, Bool, true, false, List, [], ◌∷◌, Option, Some, None}
use Rattle.std.specs.Prelude.{◌==◌, cond, slice_set}
use Rattle.oss_syntax.specs.declared.access.Mode.{Mode}
use Rattle.oss_syntax.specs.declared.access.Mode.TheVariants.{Write, Fold}
use Rattle.oss_model.specs.Agreement.{Setting}
use Rattle.oss_model.specs.Bodies.{Order, Program, Start, Body}
use Rattle.oss_model.specs.Bodies.Act.{Created, Store}
use Rattle.oss_model.specs.Context.{right_of}
use Rattle.oss_model.specs.Moves.{act_now, created_now, is_ended, new_task}
use Rattle.oss_model.specs.Rights.{Holds}
use Rattle.oss_words.specs.declared.entry.EntryInfo.{EntryInfo}
use Rattle.oss_words.specs.declared.entry.EntryState.{EntryState}
use Rattle.oss_words.specs.Net.{Net, apart, top}
use Rattle.oss_words.specs.Steps.{no_flags, Gives, GivesUp}
use Rattle.oss_words.specs.Views.{among_first}
use Rattle.oss_roles.specs.Alone.{with_answer}
use Rattle.oss_roles.specs.Field.{FieldAt, Parts, IsNumberOf, of_main, of_entry}
use Rattle.oss_roles.specs.Numbers.{entry_number}
use Rattle.oss_roles.specs.Roles.{Role, Site, Filed, on}
use Rattle.oss_roles.specs.Sights.{Bearing, Sight}
use Rattle.oss_roles.specs.Steps.{JobGoes}
use Rattle.oss_roles.specs.JobSteps.{stores, ended, at_once}
use Rattle.oss_roles.specs.Passing.{still_there}
use Rattle.oss_roles.proofs.JobClaims.{stores_keep, gives_keep}
use Rattle.oss_roles.proofs.MakeClaims.{takes_keep, puts_keep}
use Rattle.oss_roles.proofs.NumberLaw.{entries_follow}
use Rattle.oss_roles.proofs.WordClaims.{count_reads_keep}
use Rattle.oss_roles.proofs.RunWrite as run
use Rattle.oss_roles.proofs.RunWrite.{Job, IsJob, when, else_, apart_from, only, among_one, some_same}

module _ {S : Type 0} (P : Program S) (main : Start S) (first : List ℕ) (setting : Setting main first) (infos : ℕ → EntryInfo) (values cell_of : ℕ → ℕ) (o : Order S)
    (act0 : act_now P (record { start = main; found = [] }) ≡ Created o false)
    (right0 : right_of (new_task P (record { start = main; found = [] }) o).body.start.context 0 ≡ Holds Write true)
    (only0 : (c : ℕ) (m : Mode) (s : Bool) → right_of (new_task P (record { start = main; found = [] }) o).body.start.context c ≡ Holds m s → c ≡ 0) where
  abbrev b0 : Body S
  b0 = run.b0 P main first setting infos values cell_of o act0 right0 only0

  abbrev k2 : Parts (Job S)
  k2 = run.k2 P main first setting infos values cell_of o act0 right0 only0

  module _ (d : Bearing S) (t : run.Taken P main first setting infos values cell_of o act0 right0 only0 d) where
    abbrev r1 : Role
    r1 = run.r1 P main first setting infos values cell_of o act0 right0 only0 d t

    abbrev r2 : Role
    r2 = run.r2 P main first setting infos values cell_of o act0 right0 only0 d t

    abbrev role1 : ℕ → Option Role
    role1 = run.role1 P main first setting infos values cell_of o act0 right0 only0 d t

    role_is : (e : ℕ) (r : Role) → role1 e ≡ Some r → ((e ≡ 1) × (r1 ≡ r)) ⊎ ((e ≡ 2) × (r2 ≡ r))
    role_is e r h = run.role_is P main first setting infos values cell_of o act0 right0 only0 d t e r h

    abbrev open_flags : EntryState
    open_flags = run.open_flags P main first setting infos values cell_of o act0 right0 only0 d t

    abbrev k4 : Parts (Job S)
    k4 = run.k4 P main first setting infos values cell_of o act0 right0 only0 d t

    abbrev net2 : Net
    net2 = run.net2 P main first setting infos values cell_of o act0 right0 only0 d t

    abbrev j1 : Job S
    j1 = run.j1 P main first setting infos values cell_of o act0 right0 only0 d t

    abbrev c : Bearing S
    c = run.c P main first setting infos values cell_of o act0 right0 only0 d t

    abbrev v8 : Sight S
    v8 = run.v8 P main first setting infos values cell_of o act0 right0 only0 d t

    abbrev k8 : Parts (Job S)
    k8 = run.k8 P main first setting infos values cell_of o act0 right0 only0 d t

    f8 : FieldAt P main first IsJob 7 net2 (λ e. false) role1 k8 (v8 ∷ [])
    f8 = run.f8 P main first setting infos values cell_of o act0 right0 only0 d t

    -- its count is read, and its job taken
    abbrev pub v9 : Sight S
    v9 = record v8 { ready = 1 ∷ 0 ∷ [] }

    f9 : FieldAt P main first IsJob 7 net2 (λ e. false) role1 k8 (v9 ∷ [])
    f9 =
        let g = count_reads_keep S (Job S) IsJob P main first 7 k8 (v8 ∷ []) f8.field 0 v8 v9 1 (record { sits = refl; inside = omega (arith); spent = refl; ready = refl; seen = refl; still = refl; same = record { words = refl; bears = refl; makes = refl; loaded = refl; joined = refl; owes = refl } }) in
        record { field = g.field; same_net = g.same_net ∙ f8.same_net; same_gave = g.same_gave ∙ f8.same_gave; same_role = g.same_role ∙ f8.same_role }

    abbrev pub k10 : Parts (Job S)
    k10 = record k8 { bodies = λ e. cond (e == 1) 2 (cond (e == 0) 2 0); jobs = λ e. None }

    abbrev pub v10 : Bearing S → Sight S
    v10 x = record v9 { bears = x ∷ c ∷ [] }

    pub record Fetched (x : Bearing S) : Type 0 where
      pub number : x.number ≡ 1
      pub body : x.body ≡ (new_task P d.body o).body
      pub path : x.path ≡ created_now P d.body ∷ d.path
      pub last : (z : Site) → x.last z ≡ None
      pub rule : FieldAt P main first IsJob 7 net2 (λ e. false) role1 k10 (v10 x ∷ [])

    f10 : (x : Bearing S) × Fetched x
    f10 =
        let y = takes_keep S (Job S) IsJob P main first 7 k8 (v9 ∷ []) f9.field 0 v9 1 k10.bodies k10.jobs (record {
          sits = refl;
          found = among_first refl;
          one = refl;
          out = refl;
          empty = refl;
          other_bodies = λ j ne. else_ (j == 1) 2 (k2.bodies j) (apart_from j 1 ne) ∙ sym (else_ (j == 1) 1 (k2.bodies j) (apart_from j 1 ne));
          other_jobs = λ j ne. sym (else_ (j == 1) (Some j1) None (apart_from j 1 ne));
        }) in
        let x = y.bearing in
        let g = y.keeps (v10 x) (record { words = refl; makes = refl; ready = refl; joined = refl; owes = refl; seen = refl }) refl refl refl in
        let same : j1 ≡ y.job = some_same j1 y.job y.stood in
        let role = g.same_role ∙ f9.same_role in
        let mine = g.field.borne 0 (v10 x) refl 0 x refl in (
          x,
          record {
            number = y.number;
            body = sym y.is.body ∙ ap (λ (j : Job S). j.body) (sym same);
            path = path_one g.field.role (λ e r h. role_is e r (sym (ap (λ (z : ℕ → Option Role). z e) role) ∙ h)) x.number x.path y.number mine.number;
            last = λ z. sym (y.is.last z) ∙ ap (λ (j : Job S). j.last z) (sym same);
            rule = record { field = g.field; same_net = g.same_net ∙ f9.same_net; same_gave = g.same_gave ∙ f9.same_gave; same_role = role };
          },
        )
      where
        path_one : (role : ℕ → Option Role) → ((e : ℕ) (r : Role) → role e ≡ Some r → ((e ≡ 1) × (r1 ≡ r)) ⊎ ((e ≡ 2) × (r2 ≡ r))) → (i : ℕ) (p : List ℕ) → i ≡ 1 → IsNumberOf role i p → p ≡ created_now P d.body ∷ d.path
        path_one role at_ i p one of_main = let z : 0 ≡ 1 = one in absurd (omega (arith, z))
        path_one role at_ i p one (of_entry r is site path) = elim (at_ i r is) [ inl q ↦ sym path ∙ ap (λ (z : Role). z.path) (sym q.1) | inr q ↦ sym path ∙ ap (λ (z : Role). z.path) (sym q.1) ]

    -- it stores into its cell
    module _ (x : Bearing S) (y : Fetched x) (stored : ℕ) (act1 : act_now P (new_task P (record { start = main; found = [] }) o).body ≡ Store 0 stored)
        (over : is_ended P (with_answer 0 (new_task P (record { start = main; found = [] }) o).body) ≡ true) (nowait : (new_task P (record { start = main; found = [] }) o).body.start.order.wait ≡ false) where
      body : x.body ≡ (new_task P b0 o).body
      body = y.body ∙ ap (λ (z : Body S). (new_task P z o).body) t.body

      -- its entry on cell 0 is the one behind its own
      its_entry : (e : Filed y.rule.field.net y.rule.field.role x.path (on 0)) × (e.entry ≡ 2)
      its_entry =
          let z = entries_follow S (Job S) IsJob P main first 7 k10 (v10 x ∷ []) y.rule.field 0 0 (v10 x) x (created_now P d.body) 0 d.path Write true refl refl y.path
          (ap (λ (z : Body S). right_of z.start.context 0) body ∙ right0) in
          (z.0, z.3 ∙ ap (λ (n : ℕ). entry_number n (right_of x.body.start.context) 0) y.number)

      abbrev x1 : Bearing S
      x1 = record { number = x.number; path = x.path; body = with_answer 0 x.body; last = x.last }

      abbrev pub k11 : Parts (Job S)
      k11 = record k10 { cells = slice_set first 0 stored }

      f11 : FieldAt P main first IsJob 7 net2 (λ e. false) role1 k11 (v10 x1 ∷ [])
      f11 =
          let f = y.rule.field in
          let step : JobGoes (v10 x) (v10 x1) 0 x x1 = record { has = refl; bears = refl; number = refl; path = refl; last = refl; start = refl; makes = refl; ready = refl; joined = refl } in
          let act' : act_now P x.body ≡ Store 0 stored = ap (λ (z : Body S). act_now P z) body ∙ act1 in
          let g = stores_keep S (Job S) IsJob P main first 7 k10 (v10 x ∷ []) f 0 (v10 x) (v10 x1) 0 x x1 x.body k11.cells (record {
            with_job = record { sits = refl; job = step; alone = still_there };
            same = record { words = refl; owes = refl; seen = refl; still = refl };
            loaded = λ a h. elim h [ ];
            writes = stores 0 stored act' refl;
            body = refl;
          }) in
          record { field = g.field; same_net = g.same_net ∙ y.rule.same_net; same_gave = g.same_gave ∙ y.rule.same_gave; same_role = g.same_role ∙ y.rule.same_role }

      -- and when it has ended, it gives the cell up
      abbrev pub k12 : Parts (Job S)
      k12 = record k11 { states = λ e. cond (e == 2) (record open_flags { given = true; done = true }) (cond (e == 1) open_flags no_flags) }

      abbrev pub gave2 : ℕ → Bool
      gave2 e = cond (e == 2) true false

      gives : Gives k11.states k12.states k11.infos 2 (v10 x1).words (v10 x1).words
      gives =
          record {
            empty = refl;
            full = refl;
            childless = refl;
            stays = refl;
            sets = refl;
            others = λ j ne. else_ (j == 2) (record open_flags { given = true; done = true }) (k4.states j) (apart_from j 2 ne) ∙ sym (else_ (j == 2) open_flags (k4.states j) (apart_from j 2 ne));
            sends = refl;
            whole = refl;
          }

      f12 : FieldAt P main first IsJob 7 net2 gave2 role1 k12 (v10 x1 ∷ [])
      f12 =
          let f = f11.field in
          let is : f.role 2 ≡ Some r2 = ap (λ (z : ℕ → Option Role). z 2) f11.same_role in
          let hangs : f.net.place 2 ≢ apart = λ h. let z : top ≡ apart = ap (λ (n : Net). n.place 2) (sym f11.same_net) ∙ h in let bad : ⊥ = cc in bad in
          let up : GivesUp f.gave gave2 2 = record { now = refl; same = λ j ne. else_ (j == 2) true false (apart_from j 2 ne) ∙ ap (λ (z : ℕ → Bool). z j) (sym f11.same_gave) } in
          let step : JobGoes (v10 x1) (v10 x1) 0 x1 x1 = record { has = refl; bears = refl; number = refl; path = refl; last = refl; start = refl; makes = refl; ready = refl; joined = refl } in
          let right : right_of x.body.start.context 0 ≡ Holds Write true = ap (λ (z : Body S). right_of z.start.context 0) body ∙ right0 in
          let g = gives_keep S (Job S) IsJob P main first 7 k11 (v10 x1 ∷ []) f 0 (v10 x1) (v10 x1) 0 x1 x1 x1.body 2 r2 k12.states gave2 0 Write true (record {
            up = record {
              entry = record {
                with_job = record { sits = refl; job = step; alone = still_there };
                loaded = λ a h. elim h [ ];
                body = refl;
                is = is;
                path = sym y.path;
                owes = refl;
                none = refl;
                seen = refl;
              };
              hangs = hangs;
              ungiven = refl;
              gives = up;
              word = at_once gives;
              still = λ a h. elim h [ ];
            };
            site = refl;
            right = right;
            no_fold = λ p h. let z : Holds Write true ≡ Holds (Fold p) true = sym right ∙ h in let bad : ⊥ = cc in bad;
            may = ended (ap (λ (z : Body S). is_ended P (with_answer 0 z)) body ∙ over) (λ w. let z : false ≡ true = sym nowait ∙ ap (λ (u : Body S). u.start.order.wait) (sym body) ∙ w in absurd (let bad : ⊥ = cc in bad));
          }) in
          record { field = g.field; same_net = g.same_net ∙ f11.same_net; same_gave = g.same_gave; same_role = g.same_role ∙ f11.same_role }

      -- its job is put back
      abbrev pub back : Job S
      back = record { task = 1; body = with_answer 0 x.body; last = x.last }

      abbrev pub k13 : Parts (Job S)
      k13 = record k12 { bodies = λ e. cond (e == 1) 1 (cond (e == 0) 2 0); jobs = λ e. cond (e == 1) (Some back) None }

      abbrev pub v13 : Sight S
      v13 = record v9 { bears = c ∷ [] }

      pub f13 : FieldAt P main first IsJob 7 net2 gave2 role1 k13 (v13 ∷ [])
      f13 =
          let at_one : (j : ℕ) → j ≢ x.number → j ≢ 1 = λ j ne q. ne (q ∙ sym y.number) in
          let g = puts_keep S (Job S) IsJob P main first 7 k12 (v10 x1 ∷ []) f12.field 0 (v10 x1) v13 x1 back k13.bodies k13.jobs (record {
            sits = refl;
            same = record { words = refl; makes = refl; ready = refl; joined = refl; owes = refl; seen = refl };
            bears = refl;
            is = record { task = sym y.number; body = refl; last = λ z. refl };
            home = ap (λ (z : ℕ). k13.bodies z) y.number;
            full = ap (λ (z : ℕ). k13.jobs z) y.number;
            other_bodies = λ j ne. else_ (j == 1) 1 (k2.bodies j) (apart_from j 1 (at_one j ne)) ∙ sym (else_ (j == 1) 2 (k2.bodies j) (apart_from j 1 (at_one j ne)));
            other_jobs = λ j ne. else_ (j == 1) (Some back) None (apart_from j 1 (at_one j ne));
            makes = λ a h. elim h [ ];
            loaded = λ a h. elim h [ ];
            still = λ a h. elim h [ ];
          }) in
          record { field = g.field; same_net = g.same_net ∙ f12.same_net; same_gave = g.same_gave ∙ f12.same_gave; same_role = g.same_role ∙ f12.same_role }
