-- The run of `RunStore` goes on: main makes a second task, with no cells, and passes a `taskwait on` two cells: the first task has given up the one,
-- and no task has the other. Of neither task is the own entry given up then, so a `taskwait` could not be passed.
use Rattle.std.proofs.Common.{◌≡◌, ◌≢◌, ◌⊎◌, inl, inr, sym, subst, refl, ◌∙◌, ap, ℕ, zero, suc, arith, Bool, true, false, List, [], ◌∷◌, Option, Some, None}
use Rattle.std.specs.Prelude.{◌==◌, ◌&&◌, cond}
use Rattle.std.proofs.lemmas.Bool.Decides.{eqb_tells}
use Rattle.oss_syntax.specs.declared.access.Access.{Access}
use Rattle.oss_syntax.specs.declared.access.Mode.{Mode}
use Rattle.oss_syntax.specs.declared.access.Mode.TheVariants.{Read, Write}
use Rattle.oss_model.specs.Agreement.{Setting}
use Rattle.oss_model.specs.Bodies.{Order, Program, Start, Act, Body}
use Rattle.oss_model.specs.Bodies.Act.{Created, Store, WaitedOn}
use Rattle.oss_model.specs.Context.{right_of, in_clauses}
use Rattle.oss_model.specs.Moves.{act_now, created_now, is_ended, new_task}
use Rattle.oss_model.specs.Rights.{Holds}
use Rattle.oss_words.specs.declared.entry.EntryInfo.{EntryInfo}
use Rattle.oss_words.specs.declared.entry.EntryState.{EntryState}
use Rattle.oss_words.specs.Causes.{sets_reads}
use Rattle.oss_words.specs.Net.{Net, Place, apart, top, first as first_place, after, behind_last}
use Rattle.oss_words.specs.Steps.{no_flags, Fills, Links, to_sibling, Delivers}
use Rattle.oss_words.specs.Sums.{num}
use Rattle.oss_words.specs.Views.{Seen, first_view, Among, among_first}
use Rattle.oss_roles.specs.Alone.{IsOwnAct, with_answer}
use Rattle.oss_roles.specs.Field.{FieldAt, Parts, going, is_put}
use Rattle.oss_roles.specs.MakeSteps.{after_last}
use Rattle.oss_roles.specs.Passing.{AllDone, MayGo, MayPass, still_there, went_on, last_done, no_child}
use Rattle.oss_roles.specs.Roles.{Role, Site, itself, on, Plans}
use Rattle.oss_roles.specs.Sights.{Bearing, Making, Sight}
use Rattle.oss_roles.specs.Steps.{JobGoes}
use Rattle.oss_roles.proofs.CallLemmas.{fresh_path}
use Rattle.oss_roles.proofs.JobClaims.{own_acts_keep}
use Rattle.oss_roles.proofs.MakeClaims.{first_puts_keep, plans_keep, fills_keep, links_keep, openings_keep}
use Rattle.oss_roles.proofs.WordClaims.{word_reads_keep, deliveries_keep}
use Rattle.oss_roles.proofs.RunStore as store
use Rattle.oss_roles.proofs.RunWrite as run
use Rattle.oss_roles.proofs.RunWrite.{Job, IsJob, when, else_, apart_from, among_one, some_same}

module _ {S : Type 0} (P : Program S) (main : Start S) (first : List ℕ) (setting : Setting main first) (infos : ℕ → EntryInfo) (values cell_of : ℕ → ℕ) (o : Order S)
    (act0 : act_now P (record { start = main; found = [] }) ≡ Created o false)
    (right0 : right_of (new_task P (record { start = main; found = [] }) o).body.start.context 0 ≡ Holds Write true)
    (only0 : (c : ℕ) (m : Mode) (s : Bool) → right_of (new_task P (record { start = main; found = [] }) o).body.start.context c ≡ Holds m s → c ≡ 0) where
  abbrev b0 : Body S
  b0 = run.b0 P main first setting infos values cell_of o act0 right0 only0

  module _ (d : Bearing S) (t : run.Taken P main first setting infos values cell_of o act0 right0 only0 d) where
    abbrev r1 : Role
    r1 = run.r1 P main first setting infos values cell_of o act0 right0 only0 d t

    abbrev r2 : Role
    r2 = run.r2 P main first setting infos values cell_of o act0 right0 only0 d t

    abbrev role1 : ℕ → Option Role
    role1 = run.role1 P main first setting infos values cell_of o act0 right0 only0 d t

    role_is : (e : ℕ) (r : Role) → role1 e ≡ Some r → ((e ≡ 1) × (r1 ≡ r)) ⊎ ((e ≡ 2) × (r2 ≡ r))
    role_is e r h = run.role_is P main first setting infos values cell_of o act0 right0 only0 d t e r h

    abbrev open_flags : EntryState
    open_flags = run.open_flags P main first setting infos values cell_of o act0 right0 only0 d t

    abbrev net2 : Net
    net2 = run.net2 P main first setting infos values cell_of o act0 right0 only0 d t

    abbrev c : Bearing S
    c = run.c P main first setting infos values cell_of o act0 right0 only0 d t

    module _ (x : Bearing S) (y : store.Fetched P main first setting infos values cell_of o act0 right0 only0 d t x) (stored : ℕ) (act1 : act_now P (new_task P (record { start = main; found = [] }) o).body ≡ Store 0 stored)
        (over : is_ended P (with_answer 0 (new_task P (record { start = main; found = [] }) o).body) ≡ true) (nowait : (new_task P (record { start = main; found = [] }) o).body.start.order.wait ≡ false) where
      abbrev gave2 : ℕ → Bool
      gave2 = store.gave2 P main first setting infos values cell_of o act0 right0 only0 d t x y stored act1 over nowait

      abbrev k13 : Parts (Job S)
      k13 = store.k13 P main first setting infos values cell_of o act0 right0 only0 d t x y stored act1 over nowait

      abbrev v13 : Sight S
      v13 = store.v13 P main first setting infos values cell_of o act0 right0 only0 d t x y stored act1 over nowait

      f13 : FieldAt P main first IsJob 7 net2 gave2 role1 k13 (v13 ∷ [])
      f13 = store.f13 P main first setting infos values cell_of o act0 right0 only0 d t x y stored act1 over nowait

      -- main makes a second task, and stands before a taskwait on the cells 0 and 1
      module _ (o2 : Order S) (act2 : act_now P (with_answer 0 (record { start = main; found = [] })) ≡ Created o2 false)
          (cellless : (e : ℕ) (m : Mode) (s : Bool) → right_of (new_task P (with_answer 0 (record { start = main; found = [] })) o2).body.start.context e ≡ Holds m s → ⊥)
          (named : List Access) (names : (e : ℕ) → in_clauses named e ≡ true → (e ≡ 0) ⊎ (e ≡ 1))
          (act3 : act_now P (with_answer 0 (with_answer 0 (record { start = main; found = [] }))) ≡ WaitedOn named) where
        act : act_now P c.body ≡ Created o2 false
        act = ap (λ (z : Body S). act_now P (with_answer 0 z)) t.body ∙ act2

        no_cell : (e : ℕ) (m : Mode) (s : Bool) → right_of (new_task P c.body o2).body.start.context e ≡ Holds m s → ⊥
        no_cell e m s h = cellless e m s (subst (λ (z : Body S). right_of (new_task P (with_answer 0 z) o2).body.start.context e ≡ Holds m s) t.body h)

        abbrev r3 : Role
        r3 = record { path = created_now P c.body ∷ c.path; site = itself; task = 3; mode = Read; strong = false; counts = false }

        abbrev role3 : ℕ → Option Role
        role3 e = cond (e == 3) (Some r3) (role1 e)

        role3_is : (e : ℕ) (r : Role) → role3 e ≡ Some r → ((e ≡ 3) × (r3 ≡ r)) ⊎ (role1 e ≡ Some r)
        role3_is e r h = elim (eqb_tells e 3) [
          | inl q ↦ inl (q.1, some_same r3 r (sym (when (e == 3) (Some r3) (role1 e) q.0) ∙ h))
          | inr q ↦ inr (sym (else_ (e == 3) (Some r3) (role1 e) q.0) ∙ h)
        ]

        plans3 : ((e : ℕ) (r : Role) → role1 e ≡ Some r → r.path ≢ created_now P c.body ∷ c.path) → Plans net2 role1 role3 3 (created_now P c.body ∷ c.path)
        plans3 fresh =
            record {
              each = λ e. elim (eqb_tells e 3) [
                | inl q ↦ inr (ap role1 q.1, r3, when (e == 3) (Some r3) (role1 e) q.0, refl, refl, ap (λ (z : ℕ). net2.place z) q.1)
                | inr q ↦ inl (else_ (e == 3) (Some r3) (role1 e) q.0)
              ];
              fresh = fresh;
              own = (r3, refl, refl, refl);
              unused = refl;
              not_main = refl;
              child = (created_now P c.body, c.path, refl);
              one = λ e f r q a b p z s. elim (role3_is e r a) [
                | inl h ↦ elim (role3_is f q b) [ inl g ↦ h.0 ∙ sym g.0 | inr old ↦ absurd (fresh f q old z) ]
                | inr old ↦ absurd (fresh e r old p)
              ];
            }

        abbrev making : ℕ → Making
        making stage = record { by = 0; task = 3; stage = stage }

        abbrev u : ℕ → Sight S
        u stage = record v13 { makes = making stage ∷ [] }

        making_first : (s : ℕ) → Among (making s) (u s).makes
        making_first s = among_first refl

        abbrev k14 : Parts (Job S)
        k14 = record k13 { counts = λ e. cond (e == 3) 1 (k13.counts e) }

        g1 : FieldAt P main first IsJob 7 net2 gave2 role3 k14 (u 0 ∷ [])
        g1 =
            let f = f13.field in
            let fresh : (e : ℕ) (r : Role) → role1 e ≡ Some r → r.path ≢ created_now P c.body ∷ c.path = λ e r h. fresh_path P main first IsJob 7 k13 (v13 ∷ []) f 0 0 v13 c refl refl (λ a among. elim among [ ]) e r (ap (λ (z : ℕ → Option Role). z e) f13.same_role ∙ h) in
            let plans' = subst (λ (n : Net). Plans n f.role role3 3 (created_now P c.body ∷ c.path)) (sym f13.same_net) (subst (λ (z : ℕ → Option Role). Plans net2 z role3 3 (created_now P c.body ∷ c.path)) (sym f13.same_role) (plans3 fresh)) in
            let g = plans_keep S (Job S) IsJob P main first 7 k13 (v13 ∷ []) f 0 v13 (u 0) 0 c o2 3 role3 (making 0) k14.counts (record {
              sits = refl;
              has = refl;
              act = act;
              plans = plans';
              inside = λ e r h. elim (role3_is e r h) [
                | inl q ↦ (let z = q.0 in omega (arith, z))
                | inr old ↦ elim (role_is e r old) [ inl p ↦ (let z = p.0 in omega (arith, z)) | inr p ↦ (let z = p.0 in omega (arith, z)) ]
              ];
              access = λ e m s h. absurd (no_cell e m s h);
              strongly = λ e r h p counted. elim (role3_is e r h) [
                | inl q ↦ (let z : false ≡ true = ap (λ (w : Role). w.counts) q.1 ∙ counted in absurd (let bad : ⊥ = cc in bad))
                | inr old ↦ absurd (fresh e r old p)
              ];
              by = t.number;
              task = refl;
              stage = refl;
              filled = refl;
              others = λ j ne. else_ (j == 3) 1 (k13.counts j) (apart_from j 3 ne);
              bears = refl;
              makes = refl;
              same = record { words = refl; owes = refl; joined = refl; ready = refl; loaded = refl; seen = refl; still = refl };
            }) in
            record { field = g.field; same_net = g.same_net ∙ f13.same_net; same_gave = g.same_gave ∙ f13.same_gave; same_role = g.same_role }

        -- its info word is filled
        abbrev info3 : EntryInfo
        info3 = record { mode = Read; strong = false; depth = 1; parent = 0; task = 3 }

        abbrev k15 : Parts (Job S)
        k15 = record k14 { infos = λ e. cond (e == 3) info3 (k13.infos e) }

        g2 : FieldAt P main first IsJob 7 net2 gave2 role3 k15 (u 0 ∷ [])
        g2 =
            let fills' : Fills 7 net2 k14.states k14.states k14.infos k15.infos 3 = record {
              inside = omega (arith);
              loose = refl;
              blank_before = record { linked = refl; headed = refl; left = refl; folds = refl; reads = refl; writes = refl; clear = refl };
              blank_now = record { linked = refl; headed = refl; left = refl; folds = refl; reads = refl; writes = refl; clear = refl };
              undone = refl;
              ungiven_before = refl;
              ungiven = refl;
              once = inl refl;
              others = λ j ne. refl;
              other_infos = λ j ne. else_ (j == 3) info3 (k13.infos j) (apart_from j 3 ne);
            } in
            let g = fills_keep S (Job S) IsJob P main first 7 k14 (u 0 ∷ []) g1.field 3 k14.states k15.infos k14.cell_of (record {
              fills = subst (λ (n : Net). Fills 7 n k14.states k14.states k14.infos k15.infos 3) (sym g1.same_net) fills';
              cells = λ j ne. refl;
              flags = inl (refl, refl);
            }) in
            record { field = g.field; same_net = g.same_net ∙ g1.same_net; same_gave = g.same_gave ∙ g1.same_gave; same_role = g.same_role ∙ g1.same_role }

        -- its own entry is linked behind that of the first task, and gets reads
        abbrev net3 : Net
        net3 = record { place = λ e. cond (e == 3) (after 1) (net2.place e); parent = λ e. 0; lead = λ e. cond (e == 3) 1 e; depth = λ e. cond (e == 3) 1 (net2.depth e); mode = λ e. cond (e == 3) Read (net2.mode e); last = λ e. cond (e == 0) 3 0 }

        abbrev linked1 : EntryState
        linked1 = record open_flags { linked = true; next = 3 }

        abbrev k16 : Parts (Job S)
        k16 = record k15 { states = λ e. cond (e == 1) linked1 (k13.states e) }

        abbrev w16 : Sight S
        w16 = record (u 0) { words = record first_view { held = record { entry = 3; flag = 3 } ∷ [] } }

        never_after : (j : ℕ) → net2.place j ≢ after 1
        never_after j h = elim (eqb_tells j 2) [
          | inl q ↦ (let z : top ≡ after 1 = sym (when (j == 2) top (cond (j == 1) top apart) q.0) ∙ h in absurd (let bad : ⊥ = cc in bad))
          | inr q ↦ elim (eqb_tells j 1) [
            | inl p ↦ (let z : top ≡ after 1 = sym (else_ (j == 2) top (cond (j == 1) top apart) q.0 ∙ when (j == 1) top apart p.0) ∙ h in absurd (let bad : ⊥ = cc in bad))
            | inr p ↦ (let z : apart ≡ after 1 = sym (else_ (j == 2) top (cond (j == 1) top apart) q.0 ∙ else_ (j == 1) top apart p.0) ∙ h in absurd (let bad : ⊥ = cc in bad))
          ]
        ]

        links3 : Links 7 net2 net3 k15.states k16.states k15.infos 1 3 (u 0).words w16.words
        links3 =
            record {
              adds = record {
                fresh = refl;
                not_main = λ h. let z : 3 ≡ 0 = h in absurd (omega (arith, z));
                place = λ j ne. else_ (j == 3) (after 1) (net2.place j) (apart_from j 3 ne);
                parent = λ j ne. refl;
                lead = λ j ne. else_ (j == 3) 1 j (apart_from j 3 ne);
                depth = λ j ne. else_ (j == 3) 1 (net2.depth j) (apart_from j 3 ne);
                mode = λ j ne. else_ (j == 3) Read (net2.mode j) (apart_from j 3 ne);
                last = λ q ne. else_ (q == 0) 3 0 (apart_from q 0 ne) ∙ sym (else_ (q == 0) 2 0 (apart_from q 0 ne));
                newest = refl;
                how = behind_last 1 refl refl refl refl (omega (arith)) (λ h. let z : top ≡ apart = h in absurd (let bad : ⊥ = cc in bad)) never_after (λ ne. absurd (ne refl));
              };
              inside = omega (arith);
              inside_new = omega (arith);
              empty = refl;
              full = refl;
              links = to_sibling refl refl false false refl;
              others = λ j ne. else_ (j == 1) linked1 (k13.states j) (apart_from j 1 ne);
              blank = record { linked = refl; headed = refl; left = refl; folds = refl; reads = refl; writes = refl; clear = refl };
              info = refl;
              open_yet = refl;
              tells = record { mode = refl; depth = refl; shallow = omega (arith) };
              ungiven = refl;
              undone = refl;
              clears = λ h. let z : after 1 ≡ first_place 1 = h in absurd (let bad : ⊥ = cc in bad);
              above = λ h. let z : after 1 ≡ first_place 1 = h in absurd (let bad : ⊥ = cc in bad);
              covers = λ ne. absurd (ne refl);
              sibling_bits = λ h. record { folds = refl; alike = λ z. (let bad : ⊥ = cc in absurd bad); unlike = λ z p q. (let bad : ⊥ = cc in absurd bad) };
              child_bits = λ h. let z : after 1 ≡ first_place 1 = h in absurd (let bad : ⊥ = cc in bad);
              sends = refl;
              whole = refl;
            }

        g3 : FieldAt P main first IsJob 7 net3 gave2 role3 k16 (w16 ∷ [])
        g3 =
            let links' = subst (λ (n : Net). Links 7 n net3 k15.states k16.states k15.infos 1 3 (u 0).words w16.words) (sym g2.same_net) links3 in
            let g = links_keep S (Job S) IsJob P main first 7 k15 (u 0 ∷ []) g2.field 0 (u 0) w16 0 c (making 0) 3 r3 net3 k16.states (record {
              sits = refl;
              has = refl;
              by = t.number;
              among = making_first 0;
              is = ap (λ (z : ℕ → Option Role). z 3) g2.same_role;
              task = refl;
              linked = after_last 1 refl refl links';
              told = (refl, refl, refl);
              starts = λ e s. let z : false ≡ true = s in absurd (let bad : ⊥ = cc in bad);
              cell = λ e h. let z : itself ≡ on e = h in absurd (let bad : ⊥ = cc in bad);
              same = record { bears = refl; makes = refl; ready = refl; loaded = refl; joined = refl; seen = refl; still = refl };
              owes = refl;
            }) in
            record { field = g.field; same_net = g.same_net; same_gave = g.same_gave ∙ g2.same_gave; same_role = g.same_role ∙ g2.same_role }

        abbrev k17 : Parts (Job S)
        k17 = record k16 { states = λ e. cond (e == 3) (record no_flags { reads = true }) (k16.states e) }

        and_false : (b : Bool) → num (b && false) ≡ 0
        and_false true = refl
        and_false false = refl

        g4 : FieldAt P main first IsJob 7 net3 gave2 role3 k17 (u 0 ∷ [])
        g4 =
            let delivers : Delivers net3 k16.states k17.states k16.infos (record { entry = 3; flag = 3 }) [] w16.words (u 0).words = record {
              took = λ h. refl;
              first = λ b h. elim h [ ];
              full = refl;
              sets = sets_reads refl refl;
              others = λ j ne. else_ (j == 3) (record no_flags { reads = true }) (k16.states j) (apart_from j 3 ne);
              sends = refl;
              whole = refl;
            } in
            let g = deliveries_keep S (Job S) IsJob P main first 7 k16 (w16 ∷ []) g3.field 0 w16 (u 0) (record { entry = 3; flag = 3 }) [] k17.states (record {
              sits = refl;
              word = subst (λ (n : Net). Delivers n k16.states k17.states k16.infos (record { entry = 3; flag = 3 }) [] w16.words (u 0).words) (sym g3.same_net) delivers;
              none = refl;
              owes = λ i. let z = and_false (3 == i) in omega (arith, z);
              same = record { bears = refl; makes = refl; ready = refl; loaded = refl; joined = refl; seen = refl; still = refl };
            }) in
            record { field = g.field; same_net = g.same_net ∙ g3.same_net; same_gave = g.same_gave ∙ g3.same_gave; same_role = g.same_role ∙ g3.same_role }

        -- its job is put, and it is opened
        abbrev j3 : Job S
        j3 = record { task = 3; body = (new_task P c.body o2).body; last = λ q. None }

        abbrev k18 : Parts (Job S)
        k18 = record k17 { bodies = λ e. cond (e == 3) 2 (k13.bodies e) }

        abbrev k19 : Parts (Job S)
        k19 = record k17 { bodies = λ e. cond (e == 3) 1 (k13.bodies e); jobs = λ e. cond (e == 3) (Some j3) (k13.jobs e) }

        g5 : FieldAt P main first IsJob 7 net3 gave2 role3 k18 (u 1 ∷ [])
        g5 =
            let g = first_puts_keep S (Job S) IsJob P main first 7 k17 (u 0 ∷ []) g4.field 0 (u 0) (u 1) 0 c o2 (making 0) (making 1) k18.bodies k18.jobs (record {
              sits = refl;
              has = refl;
              by = t.number;
              act = act;
              among = making_first 0;
              among_now = making_first 1;
              task = refl;
              maker = refl;
              others = λ a h. inl (sym (among_one (making 1) a h));
              kept = λ a h. (making 1, making_first 1, ap (λ (q : Making). q.task) (among_one (making 0) a h));
              other_bodies = λ j ne. else_ (j == 3) 2 (k13.bodies j) (apart_from j 3 ne);
              other_jobs = λ j ne. refl;
              put = going refl refl refl;
              bears = refl;
              same = record { words = refl; owes = refl; joined = refl; ready = refl; loaded = refl; seen = refl; still = refl };
            }) in
            record { field = g.field; same_net = g.same_net ∙ g4.same_net; same_gave = g.same_gave ∙ g4.same_gave; same_role = g.same_role ∙ g4.same_role }

        g6 : FieldAt P main first IsJob 7 net3 gave2 role3 k19 (u 2 ∷ [])
        g6 =
            let g = first_puts_keep S (Job S) IsJob P main first 7 k18 (u 1 ∷ []) g5.field 0 (u 1) (u 2) 0 c o2 (making 1) (making 2) k19.bodies k19.jobs (record {
              sits = refl;
              has = refl;
              by = t.number;
              act = act;
              among = making_first 1;
              among_now = making_first 2;
              task = refl;
              maker = refl;
              others = λ a h. inl (sym (among_one (making 2) a h));
              kept = λ a h. (making 2, making_first 2, ap (λ (q : Making). q.task) (among_one (making 1) a h));
              other_bodies = λ j ne. else_ (j == 3) 1 (k13.bodies j) (apart_from j 3 ne) ∙ sym (else_ (j == 3) 2 (k13.bodies j) (apart_from j 3 ne));
              other_jobs = λ j ne. else_ (j == 3) (Some j3) (k13.jobs j) (apart_from j 3 ne);
              put = is_put j3 refl refl refl (record { task = refl; body = refl; last = λ q. refl });
              bears = refl;
              same = record { words = refl; owes = refl; joined = refl; ready = refl; loaded = refl; seen = refl; still = refl };
            }) in
            record { field = g.field; same_net = g.same_net ∙ g5.same_net; same_gave = g.same_gave ∙ g5.same_gave; same_role = g.same_role ∙ g5.same_role }

        abbrev last_two : Site → Option ℕ
        last_two itself = Some 3
        last_two (on zero) = Some 2
        last_two (on (suc e)) = None

        abbrev c2 : Bearing S
        c2 = record { number = d.number; path = d.path; body = with_answer 0 c.body; last = last_two }

        abbrev v20 : Sight S
        v20 = record v13 { bears = c2 ∷ [] }

        abbrev k20 : Parts (Job S)
        k20 = record k19 { counts = λ e. cond (e == 3) 0 (k13.counts e) }

        g7 : FieldAt P main first IsJob 7 net3 gave2 role3 k20 (v20 ∷ [])
        g7 =
            let f = g6.field in
            let role_at : (e : ℕ) (r : Role) → f.role e ≡ Some r → ((e ≡ 3) × (r3 ≡ r)) ⊎ (role1 e ≡ Some r) = λ e r h. role3_is e r (sym (ap (λ (z : ℕ → Option Role). z e) g6.same_role) ∙ h) in
            let g = openings_keep S (Job S) IsJob P main first 7 k19 (u 2 ∷ []) f 0 (u 2) v20 0 c c2 (making 2) k20.counts (record {
              sits = refl;
              has = refl;
              by = t.number;
              among = making_first 2;
              put = refl;
              hung = λ e r h task q. hangs e r (role_at e r h) task (ap (λ (n : Net). n.place e) g6.same_net) q;
              down = refl;
              others = λ j ne. else_ (j == 3) 0 (k13.counts j) (apart_from j 3 ne) ∙ sym (else_ (j == 3) 1 (k13.counts j) (apart_from j 3 ne));
              bears = refl;
              number = refl;
              path = refl;
              body = refl;
              last = λ s. last_at f.role role_at (ap (λ (z : ℕ → Option Role). z 3) g6.same_role) s;
              makes = λ a h. elim h [ ];
              kept = λ a h ne. absurd (ne (sym (ap (λ (q : Making). q.task) (among_one (making 2) a h))));
              same = record { words = refl; owes = refl; joined = refl; ready = refl; loaded = refl; seen = refl; still = refl };
            }) in
            record { field = g.field; same_net = g.same_net ∙ g6.same_net; same_gave = g.same_gave ∙ g6.same_gave; same_role = g.same_role ∙ g6.same_role }
          where
            old_task : (e : ℕ) (r : Role) → role1 e ≡ Some r → r.task ≡ 3 → ⊥
            old_task e r h task = elim (role_is e r h) [
              | inl q ↦ (let n : 1 ≡ 3 = ap (λ (w : Role). w.task) q.1 ∙ task in omega (arith, n))
              | inr q ↦ (let n : 1 ≡ 3 = ap (λ (w : Role). w.task) q.1 ∙ task in omega (arith, n))
            ]

            hangs : (e : ℕ) (r : Role) → ((e ≡ 3) × (r3 ≡ r)) ⊎ (role1 e ≡ Some r) → r.task ≡ 3 → {p : Place} → p ≡ net3.place e → p ≢ apart
            hangs e r (inl is) task q h = let n : after 1 ≡ apart = sym (ap (λ (i : ℕ). net3.place i) is.0) ∙ (sym q ∙ h) in let bad : ⊥ = cc in bad
            hangs e r (inr old) task q h = old_task e r old task

            not_there : (e : ℕ) (role : ℕ → Option Role) → ((i : ℕ) (r : Role) → role i ≡ Some r → ((i ≡ 3) × (r3 ≡ r)) ⊎ (role1 i ≡ Some r)) → (i : ℕ) (r : Role) → role i ≡ Some r → r.task ≡ 3 → r.site ≢ on e
            not_there e role role_at i r h q site = elim (role_at i r h) [
              | inl p ↦ (let n : itself ≡ on e = ap (λ (w : Role). w.site) p.1 ∙ site in let bad : ⊥ = cc in bad)
              | inr old ↦ old_task i r old q
            ]

            last_at : (role : ℕ → Option Role) → ((e : ℕ) (r : Role) → role e ≡ Some r → ((e ≡ 3) × (r3 ≡ r)) ⊎ (role1 e ≡ Some r)) → role 3 ≡ Some r3 → (s : Site)
                → ((i : ℕ) × (r : Role) × (role i ≡ Some r) × (r.task ≡ 3) × (r.site ≡ s) × (last_two s ≡ Some i)) ⊎ (((i : ℕ) (r : Role) → role i ≡ Some r → r.task ≡ 3 → r.site ≢ s) × (last_two s ≡ c.last s))
            last_at role role_at is itself = inl (3, r3, is, refl, refl, refl)
            last_at role role_at is (on zero) = inr (not_there 0 role role_at, refl)
            last_at role role_at is (on (suc s)) = inr (not_there (suc s) role role_at, refl)

        -- main's seat reads the word of the first task's entry on cell 0
        abbrev read2 : Seen
        read2 = record { entry = 2; state = record open_flags { given = true; done = true } }

        abbrev v21 : Sight S
        v21 = record v20 { seen = read2 ∷ [] }

        g8 : FieldAt P main first IsJob 7 net3 gave2 role3 k20 (v21 ∷ [])
        g8 =
            let g = word_reads_keep S (Job S) IsJob P main first 7 k20 (v20 ∷ []) g7.field 0 v20 v21 2 (record { sits = refl; ready = refl; seen = refl; still = inl refl; same = record { words = refl; bears = refl; makes = refl; loaded = refl; joined = refl; owes = refl } }) in
            record { field = g.field; same_net = g.same_net ∙ g7.same_net; same_gave = g.same_gave ∙ g7.same_gave; same_role = g.same_role ∙ g7.same_role }

        -- and main passes the taskwait on it
        abbrev waited : Bearing S
        waited = record { number = d.number; path = d.path; body = with_answer 0 c2.body; last = last_two }

        abbrev v22 : Sight S
        v22 = record v21 { bears = waited ∷ [] }

        g9 : FieldAt P main first IsJob 7 net3 gave2 role3 k20 (v22 ∷ [])
        g9 =
            let stands : act_now P c2.body ≡ WaitedOn named = ap (λ (z : Body S). act_now P (with_answer 0 (with_answer 0 z))) t.body ∙ act3 in
            let zero_done : AllDone v21 c2 (on 0) = last_done read2 refl (among_first refl) refl refl in
            let one_none : AllDone v21 c2 (on 1) = no_child refl in
            let met : MayPass v21 c2 (WaitedOn named) = λ e h. elim (names e h) [ inl q ↦ subst (λ (z : ℕ). AllDone v21 c2 (on z)) (sym q) zero_done | inr q ↦ subst (λ (z : ℕ). AllDone v21 c2 (on z)) (sym q) one_none ] in
            let goes : MayGo P v21 c2 waited.body = went_on still_there (subst IsOwnAct (sym stands) tt) (subst (λ (a : Act S). MayPass v21 c2 a) (sym stands) met) in
            let step : JobGoes v21 v22 0 c2 waited = record { has = refl; bears = refl; number = refl; path = refl; last = refl; start = refl; makes = refl; ready = refl; joined = refl } in
            let g = own_acts_keep S (Job S) IsJob P main first 7 k20 (v21 ∷ []) g8.field 0 v21 v22 0 c2 waited waited.body (record {
              with_job = record { sits = refl; job = step; alone = goes };
              same = record { words = refl; owes = refl; seen = refl; still = refl };
              loaded = λ a h. elim h [ ];
              body = refl;
            }) in
            record { field = g.field; same_net = g.same_net ∙ g8.same_net; same_gave = g.same_gave ∙ g8.same_gave; same_role = g.same_role ∙ g8.same_role }

        -- neither task is done
        pub undone : ((k20.states 1).done ≡ false) × ((k20.states 3).done ≡ false)
        undone = (refl, refl)
