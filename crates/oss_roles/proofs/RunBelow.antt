-- The runs of `RunWrite` and `RunStore` go on: the first task, which writes the cell, makes a task below it that writes it too. The new entries are
-- linked below those of the first task, and by that get its flags. When the first task ends, it gives up the cell in two steps.
use Rattle.std.proofs.Common.{◌<◌, ◌+◌, ◌≡◌, ◌≢◌, ◌⊎◌, inl, inr, sym, subst, refl, ◌∙◌, ap, ℕ, zero, suc, arith, Bool, true, false, List, [], ◌∷◌, Option, Some, None}
use Rattle.std.specs.Prelude.{◌==◌, ◌&&◌, cond}
use Rattle.std.proofs.lemmas.Bool.Decides.{eqb_tells}
use Rattle.oss_syntax.specs.declared.access.Mode.{Mode}
use Rattle.oss_syntax.specs.declared.access.Mode.TheVariants.{Read, Write, Fold}
use Rattle.oss_model.specs.Agreement.{Setting}
use Rattle.oss_model.specs.Bodies.{Order, Program, Start, Body}
use Rattle.oss_model.specs.Bodies.Act.{Created}
use Rattle.oss_model.specs.Context.{right_of}
use Rattle.oss_model.specs.Moves.{act_now, created_now, is_ended, new_task}
use Rattle.oss_model.specs.Rights.{Holds}
use Rattle.oss_words.specs.declared.entry.EntryInfo.{EntryInfo}
use Rattle.oss_words.specs.declared.entry.EntryState.{EntryState}
use Rattle.oss_words.specs.Net.{Net, Place, apart, top, first as first_place, after, below_parent}
use Rattle.oss_words.specs.Causes.{sets_reads, sets_writes}
use Rattle.oss_words.specs.Steps.{no_flags, Fills, Links, to_child, Delivers, Begins, Rises, GivesUp}
use Rattle.oss_words.specs.declared.message.Message.{Message}
use Rattle.oss_words.specs.Members.{Has, head, tail}
use Rattle.oss_words.specs.Sums.{num}
use Rattle.oss_words.specs.Views.{first_view, Among, among_first}
use Rattle.oss_roles.specs.Alone.{with_answer}
use Rattle.oss_roles.specs.Field.{FieldAt, Parts, going, is_put}
use Rattle.oss_roles.specs.JobSteps.{ended, begins}
use Rattle.oss_roles.specs.MakeSteps.{below_creator}
use Rattle.oss_roles.specs.Numbers.{entry_number}
use Rattle.oss_roles.specs.Passing.{still_there}
use Rattle.oss_roles.specs.Roles.{Role, Site, itself, on, Filed, Plans}
use Rattle.oss_roles.specs.Sights.{Bearing, Making, Sight}
use Rattle.oss_roles.specs.Steps.{JobGoes}
use Rattle.oss_roles.proofs.JobClaims.{gives_keep}
use Rattle.oss_roles.proofs.MakeClaims.{plans_keep, fills_keep, links_keep, first_puts_keep, openings_keep}
use Rattle.oss_roles.proofs.WordClaims.{deliveries_keep, last_links_keep, new_paths_are_free}
use Rattle.oss_roles.proofs.RunStore as store
use Rattle.oss_roles.proofs.RunWrite as run
use Rattle.oss_roles.proofs.RunWrite.{Job, IsJob, when, else_, apart_from, only, among_one, some_same}

module _ {S : Type 0} (P : Program S) (main : Start S) (first : List ℕ) (setting : Setting main first) (infos : ℕ → EntryInfo) (values cell_of : ℕ → ℕ) (o : Order S)
    (act0 : act_now P (record { start = main; found = [] }) ≡ Created o false)
    (right0 : right_of (new_task P (record { start = main; found = [] }) o).body.start.context 0 ≡ Holds Write true)
    (only0 : (c : ℕ) (m : Mode) (s : Bool) → right_of (new_task P (record { start = main; found = [] }) o).body.start.context c ≡ Holds m s → c ≡ 0) where
  abbrev b0 : Body S
  b0 = run.b0 P main first setting infos values cell_of o act0 right0 only0

  module _ (d : Bearing S) (t : run.Taken P main first setting infos values cell_of o act0 right0 only0 d) where
    abbrev r1 : Role
    r1 = run.r1 P main first setting infos values cell_of o act0 right0 only0 d t

    abbrev r2 : Role
    r2 = run.r2 P main first setting infos values cell_of o act0 right0 only0 d t

    abbrev role1 : ℕ → Option Role
    role1 = run.role1 P main first setting infos values cell_of o act0 right0 only0 d t

    role_is : (e : ℕ) (r : Role) → role1 e ≡ Some r → ((e ≡ 1) × (r1 ≡ r)) ⊎ ((e ≡ 2) × (r2 ≡ r))
    role_is e r h = run.role_is P main first setting infos values cell_of o act0 right0 only0 d t e r h

    apart_sites : {A : Type 0} {c : ℕ} → itself ≡ on c → A
    apart_sites h = run.apart_sites P main first setting infos values cell_of o act0 right0 only0 d t h

    abbrev open_flags : EntryState
    open_flags = run.open_flags P main first setting infos values cell_of o act0 right0 only0 d t

    abbrev k4b : Parts (Job S)
    k4b = run.k4b P main first setting infos values cell_of o act0 right0 only0 d t

    abbrev net2 : Net
    net2 = run.net2 P main first setting infos values cell_of o act0 right0 only0 d t

    abbrev c : Bearing S
    c = run.c P main first setting infos values cell_of o act0 right0 only0 d t

    abbrev k10 : Parts (Job S)
    k10 = store.k10 P main first setting infos values cell_of o act0 right0 only0 d t

    abbrev v10 : Bearing S → Sight S
    v10 = store.v10 P main first setting infos values cell_of o act0 right0 only0 d t

    -- the first task makes one below it
    module _ (x : Bearing S) (y : store.Fetched P main first setting infos values cell_of o act0 right0 only0 d t x) (o2 : Order S) (act1 : act_now P (new_task P (record { start = main; found = [] }) o).body ≡ Created o2 false)
        (right1 : right_of (new_task P (new_task P (record { start = main; found = [] }) o).body o2).body.start.context 0 ≡ Holds Write true)
        (only1 : (e : ℕ) (m : Mode) (s : Bool) → right_of (new_task P (new_task P (record { start = main; found = [] }) o).body o2).body.start.context e ≡ Holds m s → e ≡ 0) where
      same_body : x.body ≡ (new_task P b0 o).body
      same_body = y.body ∙ ap (λ (z : Body S). (new_task P z o).body) t.body

      act : act_now P x.body ≡ Created o2 false
      act = ap (λ (z : Body S). act_now P z) same_body ∙ act1

      right_now : (e : ℕ) (m : Mode) (s : Bool) → right_of (new_task P x.body o2).body.start.context e ≡ Holds m s → (0 ≡ e) × (Write ≡ m) × (true ≡ s)
      right_now e m s h =
          let h0 = subst (λ (z : Body S). right_of (new_task P z o2).body.start.context e ≡ Holds m s) same_body h in
          let zero_is : e ≡ 0 = only1 e m s h0 in
          let q : Holds Write true ≡ Holds m s = sym right1 ∙ ap (λ (z : ℕ). right_of (new_task P (new_task P b0 o).body o2).body.start.context z) (sym zero_is) ∙ h0 in
          (sym zero_is, cc, cc)

      abbrev pub r3 : Role
      r3 = record { path = created_now P x.body ∷ x.path; site = itself; task = 3; mode = Read; strong = false; counts = false }

      abbrev pub r4 : Role
      r4 = record { path = created_now P x.body ∷ x.path; site = on 0; task = 3; mode = Write; strong = true; counts = true }

      abbrev pub role3 : ℕ → Option Role
      role3 e = cond (e == 3) (Some r3) (cond (e == 4) (Some r4) (role1 e))

      role3_is : (e : ℕ) (r : Role) → role3 e ≡ Some r → ((e ≡ 3) × (r3 ≡ r)) ⊎ (((e ≡ 4) × (r4 ≡ r)) ⊎ (role1 e ≡ Some r))
      role3_is e r h = elim (eqb_tells e 3) [
        | inl q ↦ inl (q.1, some_same r3 r (sym (when (e == 3) (Some r3) (cond (e == 4) (Some r4) (role1 e)) q.0) ∙ h))
        | inr q ↦
            let k : cond (e == 4) (Some r4) (role1 e) ≡ Some r = sym (else_ (e == 3) (Some r3) (cond (e == 4) (Some r4) (role1 e)) q.0) ∙ h in
            elim (eqb_tells e 4) [
              | inl p ↦ inr (inl (p.1, some_same r4 r (sym (when (e == 4) (Some r4) (role1 e) p.0) ∙ k)))
              | inr p ↦ inr (inr (sym (else_ (e == 4) (Some r4) (role1 e) p.0) ∙ k))
            ]
      ]

      plans3 : ((e : ℕ) (r : Role) → role1 e ≡ Some r → r.path ≢ created_now P x.body ∷ x.path) → Plans net2 role1 role3 3 (created_now P x.body ∷ x.path)
      plans3 fresh =
          record {
            each = λ e. elim (eqb_tells e 3) [
              | inl q ↦ inr (ap role1 q.1, r3, when (e == 3) (Some r3) (cond (e == 4) (Some r4) (role1 e)) q.0, refl, refl, ap (λ (z : ℕ). net2.place z) q.1)
              | inr q ↦ elim (eqb_tells e 4) [
                | inl p ↦ inr (ap role1 p.1, r4, else_ (e == 3) (Some r3) (cond (e == 4) (Some r4) (role1 e)) q.0 ∙ when (e == 4) (Some r4) (role1 e) p.0, refl, refl, ap (λ (z : ℕ). net2.place z) p.1)
                | inr p ↦ inl (else_ (e == 3) (Some r3) (cond (e == 4) (Some r4) (role1 e)) q.0 ∙ else_ (e == 4) (Some r4) (role1 e) p.0)
              ]
            ];
            fresh = fresh;
            own = (r3, refl, refl, refl);
            unused = refl;
            not_main = refl;
            child = (created_now P x.body, x.path, refl);
            one = λ e f r q a b h z s. elim (role3_is e r a) [
              | inl i ↦ elim (role3_is f q b) [
                | inl g ↦ i.0 ∙ sym g.0
                | inr k ↦ elim k [
                  | inl g ↦ apart_sites (ap (λ (w : Role). w.site) i.1 ∙ s ∙ ap (λ (w : Role). w.site) (sym g.1))
                  | inr old ↦ absurd (fresh f q old z)
                ]
              ]
              | inr j ↦ elim j [
                | inl i ↦ elim (role3_is f q b) [
                  | inl g ↦ apart_sites (sym (ap (λ (w : Role). w.site) i.1 ∙ s ∙ ap (λ (w : Role). w.site) (sym g.1)))
                  | inr k ↦ elim k [
                    | inl g ↦ i.0 ∙ sym g.0
                    | inr old ↦ absurd (fresh f q old z)
                  ]
                ]
                | inr old ↦ absurd (fresh e r old h)
              ]
            ];
          }

      abbrev making : ℕ → Making
      making stage = record { by = 1; task = 3; stage = stage }

      abbrev u : ℕ → Sight S
      u stage = record (v10 x) { makes = making stage ∷ [] }

      abbrev k11 : Parts (Job S)
      k11 = record k10 { counts = λ e. cond (e == 3) 2 (k10.counts e) }

      g1 : FieldAt P main first IsJob 7 net2 (λ e. false) role3 k11 (u 0 ∷ [])
      g1 =
          let f = y.rule.field in
          let fresh : (e : ℕ) (r : Role) → role1 e ≡ Some r → r.path ≢ created_now P x.body ∷ x.path = λ e r h. new_paths_are_free S (Job S) IsJob P main first 7 k10 (v10 x ∷ []) f 0 0 (v10 x) x e r refl refl (λ a among. elim among [ ]) (ap (λ (z : ℕ → Option Role). z e) y.rule.same_role ∙ h) in
          let plans' = subst (λ (n : Net). Plans n f.role role3 3 (created_now P x.body ∷ x.path)) (sym y.rule.same_net) (subst (λ (z : ℕ → Option Role). Plans net2 z role3 3 (created_now P x.body ∷ x.path)) (sym y.rule.same_role) (plans3 fresh)) in
          let g = plans_keep S (Job S) IsJob P main first 7 k10 (v10 x ∷ []) f 0 (v10 x) (u 0) 0 x o2 3 role3 (making 0) k11.counts (record {
            sits = refl;
            has = refl;
            act = act;
            plans = plans';
            inside = λ e r h. elim (role3_is e r h) [
              | inl q ↦ (let z = q.0 in omega (arith, z))
              | inr q ↦ elim q [
                | inl p ↦ (let z = p.0 in omega (arith, z))
                | inr old ↦ elim (role_is e r old) [ inl p ↦ (let z = p.0 in omega (arith, z)) | inr p ↦ (let z = p.0 in omega (arith, z)) ]
              ]
            ];
            access = λ e m s h. let w = right_now e m s h in (
              4,
              r4,
              refl,
              refl,
              ap (λ (z : ℕ). on z) w.0,
              refl,
              w.1,
              w.2,
              ap (λ (z : ℕ). entry_number 3 (right_of (new_task P x.body o2).body.start.context) z) w.0,
            );
            strongly = λ e r h p counted. elim (role3_is e r h) [
              | inl q ↦ (let z : false ≡ true = ap (λ (w : Role). w.counts) q.1 ∙ counted in absurd (let bad : ⊥ = cc in bad))
              | inr q ↦ elim q [
                | inl w ↦ ap (λ (z : Role). z.strong) (sym w.1)
                | inr old ↦ absurd (fresh e r old p)
              ]
            ];
            by = y.number;
            task = refl;
            stage = refl;
            filled = refl;
            others = λ j ne. else_ (j == 3) 2 (k10.counts j) (apart_from j 3 ne);
            bears = refl;
            makes = refl;
            same = record { words = refl; owes = refl; joined = refl; ready = refl; loaded = refl; seen = refl; still = refl };
          }) in
          record { field = g.field; same_net = g.same_net ∙ y.rule.same_net; same_gave = g.same_gave ∙ y.rule.same_gave; same_role = g.same_role }

      -- the words of its entries are filled; a first child is clear from the start
      abbrev info3 : EntryInfo
      info3 = record { mode = Read; strong = false; depth = 2; parent = 1; task = 3 }

      abbrev info4 : EntryInfo
      info4 = record { mode = Write; strong = true; depth = 2; parent = 2; task = 3 }

      abbrev pub clear_flag : EntryState
      clear_flag = record no_flags { clear = true }

      abbrev k12 : Parts (Job S)
      k12 = record k11 { states = λ e. cond (e == 3) clear_flag (k10.states e); infos = λ e. cond (e == 3) info3 (k10.infos e) }

      abbrev k13 : Parts (Job S)
      k13 = record k11 { states = λ e. cond (e == 4) clear_flag (cond (e == 3) clear_flag (k10.states e)); infos = λ e. cond (e == 4) info4 (cond (e == 3) info3 (k10.infos e)); cell_of = λ e. cond (e == 4) 0 (k10.cell_of e) }

      g2 : FieldAt P main first IsJob 7 net2 (λ e. false) role3 k12 (u 0 ∷ [])
      g2 =
          let fills : Fills 7 net2 k11.states k12.states k11.infos k12.infos 3 = record {
            inside = omega (arith);
            loose = refl;
            blank_before = record { linked = refl; headed = refl; left = refl; folds = refl; reads = refl; writes = refl; clear = refl };
            blank_now = record { linked = refl; headed = refl; left = refl; folds = refl; reads = refl; writes = refl; clear = refl };
            undone = refl;
            ungiven_before = refl;
            ungiven = refl;
            once = inr refl;
            others = λ j ne. else_ (j == 3) clear_flag (k11.states j) (apart_from j 3 ne);
            other_infos = λ j ne. else_ (j == 3) info3 (k11.infos j) (apart_from j 3 ne);
          } in
          let g = fills_keep S (Job S) IsJob P main first 7 k11 (u 0 ∷ []) g1.field 3 k12.states k12.infos k12.cell_of (record {
            fills = subst (λ (n : Net). Fills 7 n k11.states k12.states k11.infos k12.infos 3) (sym g1.same_net) fills;
            cells = λ j ne. refl;
            flags = inl (refl, refl);
          }) in
          record { field = g.field; same_net = g.same_net ∙ g1.same_net; same_gave = g.same_gave ∙ g1.same_gave; same_role = g.same_role ∙ g1.same_role }

      g3 : FieldAt P main first IsJob 7 net2 (λ e. false) role3 k13 (u 0 ∷ [])
      g3 =
          let fills : Fills 7 net2 k12.states k13.states k12.infos k13.infos 4 = record {
            inside = omega (arith);
            loose = refl;
            blank_before = record { linked = refl; headed = refl; left = refl; folds = refl; reads = refl; writes = refl; clear = refl };
            blank_now = record { linked = refl; headed = refl; left = refl; folds = refl; reads = refl; writes = refl; clear = refl };
            undone = refl;
            ungiven_before = refl;
            ungiven = refl;
            once = inr refl;
            others = λ j ne. else_ (j == 4) clear_flag (k12.states j) (apart_from j 4 ne);
            other_infos = λ j ne. else_ (j == 4) info4 (k12.infos j) (apart_from j 4 ne);
          } in
          let g = fills_keep S (Job S) IsJob P main first 7 k12 (u 0 ∷ []) g2.field 4 k13.states k13.infos k13.cell_of (record {
            fills = subst (λ (n : Net). Fills 7 n k12.states k13.states k12.infos k13.infos 4) (sym g2.same_net) fills;
            cells = λ j ne. else_ (j == 4) 0 (k10.cell_of j) (apart_from j 4 ne);
            flags = inl (refl, refl);
          }) in
          record { field = g.field; same_net = g.same_net ∙ g2.same_net; same_gave = g.same_gave ∙ g2.same_gave; same_role = g.same_role ∙ g2.same_role }

      making_first : (s : ℕ) → Among (making s) (u s).makes
      making_first s = among_first refl

      -- its own entry is linked below the first task's own
      abbrev net3 : Net
      net3 = record { place = λ e. cond (e == 3) (first_place 1) (net2.place e); parent = λ e. cond (e == 3) 1 0; lead = λ e. e; depth = λ e. cond (e == 3) 2 (net2.depth e); mode = λ e. cond (e == 3) Read (net2.mode e); last = λ e. cond (e == 1) 3 (net2.last e) }

      abbrev pub net4 : Net
      net4 = record { place = λ e. cond (e == 4) (first_place 2) (net3.place e); parent = λ e. cond (e == 4) 2 (net3.parent e); lead = λ e. e; depth = λ e. cond (e == 4) 2 (net3.depth e); mode = λ e. cond (e == 4) Write (net3.mode e); last = λ e. cond (e == 2) 4 (net3.last e) }

      never_first : (o j : ℕ) → net2.place j ≢ first_place o
      never_first o j h = elim (eqb_tells j 2) [
        | inl q ↦ (let z : top ≡ first_place o = sym (when (j == 2) top (cond (j == 1) top apart) q.0) ∙ h in absurd (let bad : ⊥ = cc in bad))
        | inr q ↦ elim (eqb_tells j 1) [
          | inl p ↦ (let z : top ≡ first_place o = sym (else_ (j == 2) top (cond (j == 1) top apart) q.0 ∙ when (j == 1) top apart p.0) ∙ h in absurd (let bad : ⊥ = cc in bad))
          | inr p ↦ (let z : apart ≡ first_place o = sym (else_ (j == 2) top (cond (j == 1) top apart) q.0 ∙ else_ (j == 1) top apart p.0) ∙ h in absurd (let bad : ⊥ = cc in bad))
        ]
      ]

      first_same : (a b : ℕ) → first_place a ≡ first_place b → a ≡ b
      first_same a b h = cc

      never_first_again : (j : ℕ) → net3.place j ≢ first_place 2
      never_first_again j h = elim (eqb_tells j 3) [
        | inl q ↦ (let z : first_place 1 ≡ first_place 2 = sym (when (j == 3) (first_place 1) (net2.place j) q.0) ∙ h in let n = first_same 1 2 z in omega (arith, n))
        | inr q ↦ never_first 2 j (sym (else_ (j == 3) (first_place 1) (net2.place j) q.0) ∙ h)
      ]

      abbrev pub headed1 : EntryState
      headed1 = record open_flags { headed = true; child = 3 }

      abbrev pub headed2 : EntryState
      headed2 = record open_flags { headed = true; child = 4; child_folds = false; child_same = true }

      abbrev k14 : Parts (Job S)
      k14 = record k13 { states = λ e. cond (e == 1) headed1 (k13.states e) }

      abbrev w14 : Sight S
      w14 = record (u 0) { words = record first_view { held = record { entry = 3; flag = 3 } ∷ record { entry = 3; flag = 4 } ∷ [] } }

      links3 : Links 7 net2 net3 k13.states k14.states k13.infos 1 3 (u 0).words w14.words
      links3 =
          record {
            adds = record {
              fresh = refl;
              not_main = λ h. let z : 3 ≡ 0 = h in absurd (omega (arith, z));
              place = λ j ne. else_ (j == 3) (first_place 1) (net2.place j) (apart_from j 3 ne);
              parent = λ j ne. else_ (j == 3) 1 (0) (apart_from j 3 ne);
              lead = λ j ne. refl;
              depth = λ j ne. else_ (j == 3) 2 (net2.depth j) (apart_from j 3 ne);
              mode = λ j ne. else_ (j == 3) Read (net2.mode j) (apart_from j 3 ne);
              last = λ q ne. else_ (q == 1) 3 (net2.last q) (apart_from q 1 ne);
              newest = refl;
              how = below_parent 1 refl refl refl refl (λ h. let z : 1 ≡ 3 = h in absurd (omega (arith, z))) (λ h. let z : top ≡ apart = h in absurd (let bad : ⊥ = cc in bad)) (never_first 1);
            };
            inside = omega (arith);
            inside_new = omega (arith);
            empty = refl;
            full = refl;
            links = to_child refl refl refl false false refl;
            others = λ j ne. else_ (j == 1) headed1 (k13.states j) (apart_from j 1 ne);
            blank = record { linked = refl; headed = refl; left = refl; folds = refl; reads = refl; writes = refl; clear = refl };
            info = refl;
            open_yet = refl;
            tells = record { mode = refl; depth = refl; shallow = omega (arith) };
            ungiven = refl;
            undone = refl;
            clears = λ h. refl;
            above = λ h. omega (arith);
            covers = λ ne. inr refl;
            sibling_bits = λ h. let z : first_place 1 ≡ after 1 = h in absurd (let bad : ⊥ = cc in bad);
            child_bits = λ h. record { folds = refl; alike = λ z. (let bad : ⊥ = cc in absurd bad); unlike = λ z p q. (let bad : ⊥ = cc in absurd bad) };
            sends = refl;
            whole = refl;
          }

      g4 : FieldAt P main first IsJob 7 net3 (λ e. false) role3 k14 (w14 ∷ [])
      g4 =
          let f = g3.field in
          let up : Filed f.net f.role x.path r3.site = record { entry = 1; it = r1; is = ap (λ (z : ℕ → Option Role). z 1) g3.same_role; hangs = λ h. (let z : top ≡ apart = ap (λ (n : Net). n.place 1) (sym g3.same_net) ∙ h in let bad : ⊥ = cc in bad); path = sym y.path; site = refl } in
          let g = links_keep S (Job S) IsJob P main first 7 k13 (u 0 ∷ []) f 0 (u 0) w14 0 x (making 0) 3 r3 net3 k14.states (record {
            sits = refl;
            has = refl;
            by = y.number;
            among = making_first 0;
            is = ap (λ (z : ℕ → Option Role). z 3) g3.same_role;
            task = refl;
            linked = below_creator up (y.last r3.site) refl (subst (λ (n : Net). Links 7 n net3 k13.states k14.states k13.infos 1 3 (u 0).words w14.words) (sym g3.same_net) links3);
            told = (refl, refl, refl);
            starts = λ e s. let z : false ≡ true = s in absurd (let bad : ⊥ = cc in bad);
            cell = λ e h. let z : itself ≡ on e = h in absurd (let bad : ⊥ = cc in bad);
            same = record { bears = refl; makes = refl; ready = refl; loaded = refl; joined = refl; seen = refl; still = refl };
            owes = refl;
          }) in
          record { field = g.field; same_net = g.same_net; same_gave = g.same_gave ∙ g3.same_gave; same_role = g.same_role ∙ g3.same_role }

      -- reads and writes are delivered: no count waits for them
      and_false : (b : Bool) → num (b && false) ≡ 0
      and_false true = refl
      and_false false = refl

      and_true : (b : Bool) → num b + 0 ≡ num (b && true)
      and_true true = refl
      and_true false = refl

      later : (net : Net) (e : ℕ) (b : Message) → Has b (record { entry = e; flag = 4 } ∷ []) → (net.depth b.entry ≡ net.depth e) × (3 < b.flag)
      later net e b (head p q) = (ap (λ (z : ℕ). net.depth z) (sym p), omega (arith, q))
      later net e b (tail h) = elim h [ ]

      abbrev k15 : Parts (Job S)
      k15 = record k14 { states = λ e. cond (e == 3) (record clear_flag { reads = true }) (k14.states e) }

      abbrev w15 : Sight S
      w15 = record (u 0) { words = record first_view { held = record { entry = 3; flag = 4 } ∷ [] } }

      abbrev k16 : Parts (Job S)
      k16 = record k15 { states = λ e. cond (e == 3) (record clear_flag { reads = true; writes = true }) (k15.states e) }

      g5 : FieldAt P main first IsJob 7 net3 (λ e. false) role3 k15 (w15 ∷ [])
      g5 =
          let word : Delivers net3 k14.states k15.states k14.infos (record { entry = 3; flag = 3 }) (record { entry = 3; flag = 4 } ∷ []) w14.words w15.words = record {
            took = λ h. refl;
            first = λ b h. inr (later net3 3 b h);
            full = refl;
            sets = sets_reads refl refl;
            others = λ j ne. else_ (j == 3) (record clear_flag { reads = true }) (k14.states j) (apart_from j 3 ne);
            sends = refl;
            whole = refl;
          } in
          let g = deliveries_keep S (Job S) IsJob P main first 7 k14 (w14 ∷ []) g4.field 0 w14 w15 (record { entry = 3; flag = 3 }) (record { entry = 3; flag = 4 } ∷ []) k15.states (record {
            sits = refl;
            word = subst (λ (n : Net). Delivers n k14.states k15.states k14.infos (record { entry = 3; flag = 3 }) (record { entry = 3; flag = 4 } ∷ []) w14.words w15.words) (sym g4.same_net) word;
            none = refl;
            owes = λ i. let z = and_false (3 == i) in omega (arith, z);
            same = record { bears = refl; makes = refl; ready = refl; loaded = refl; joined = refl; seen = refl; still = refl };
          }) in
          record { field = g.field; same_net = g.same_net ∙ g4.same_net; same_gave = g.same_gave ∙ g4.same_gave; same_role = g.same_role ∙ g4.same_role }

      g6 : FieldAt P main first IsJob 7 net3 (λ e. false) role3 k16 ((u 0) ∷ [])
      g6 =
          let word : Delivers net3 k15.states k16.states k15.infos (record { entry = 3; flag = 4 }) [] w15.words (u 0).words = record {
            took = λ h. refl;
            first = λ b h. elim h [ ];
            full = refl;
            sets = sets_writes refl refl;
            others = λ j ne. else_ (j == 3) (record clear_flag { reads = true; writes = true }) (k15.states j) (apart_from j 3 ne);
            sends = refl;
            whole = refl;
          } in
          let g = deliveries_keep S (Job S) IsJob P main first 7 k15 (w15 ∷ []) g5.field 0 w15 (u 0) (record { entry = 3; flag = 4 }) [] k16.states (record {
            sits = refl;
            word = subst (λ (n : Net). Delivers n k15.states k16.states k15.infos (record { entry = 3; flag = 4 }) [] w15.words (u 0).words) (sym g5.same_net) word;
            none = refl;
            owes = λ i. let z = and_false (3 == i) in omega (arith, z);
            same = record { bears = refl; makes = refl; ready = refl; loaded = refl; joined = refl; seen = refl; still = refl };
          }) in
          record { field = g.field; same_net = g.same_net ∙ g5.same_net; same_gave = g.same_gave ∙ g5.same_gave; same_role = g.same_role ∙ g5.same_role }

      -- that of its cell is linked below the first task's, and gets its flags too: its count waits for writes
      abbrev k17 : Parts (Job S)
      k17 = record k16 { states = λ e. cond (e == 2) headed2 (k16.states e) }

      abbrev w17 : Sight S
      w17 = record (u 0) { words = record first_view { held = record { entry = 4; flag = 3 } ∷ record { entry = 4; flag = 4 } ∷ [] } }

      links4 : Links 7 net3 net4 k16.states k17.states k16.infos 2 4 (u 0).words w17.words
      links4 =
          record {
            adds = record {
              fresh = refl;
              not_main = λ h. let z : 4 ≡ 0 = h in absurd (omega (arith, z));
              place = λ j ne. else_ (j == 4) (first_place 2) (net3.place j) (apart_from j 4 ne);
              parent = λ j ne. else_ (j == 4) 2 (net3.parent j) (apart_from j 4 ne);
              lead = λ j ne. refl;
              depth = λ j ne. else_ (j == 4) 2 (net3.depth j) (apart_from j 4 ne);
              mode = λ j ne. else_ (j == 4) Write (net3.mode j) (apart_from j 4 ne);
              last = λ q ne. else_ (q == 2) 4 (net3.last q) (apart_from q 2 ne);
              newest = refl;
              how = below_parent 2 refl refl refl refl (λ h. let z : 2 ≡ 4 = h in absurd (omega (arith, z))) (λ h. let z : top ≡ apart = h in absurd (let bad : ⊥ = cc in bad)) never_first_again;
            };
            inside = omega (arith);
            inside_new = omega (arith);
            empty = refl;
            full = refl;
            links = to_child refl refl refl false true refl;
            others = λ j ne. else_ (j == 2) headed2 (k16.states j) (apart_from j 2 ne);
            blank = record { linked = refl; headed = refl; left = refl; folds = refl; reads = refl; writes = refl; clear = refl };
            info = refl;
            open_yet = refl;
            tells = record { mode = refl; depth = refl; shallow = omega (arith) };
            ungiven = refl;
            undone = refl;
            clears = λ h. refl;
            above = λ h. omega (arith);
            covers = λ ne. inl refl;
            sibling_bits = λ h. let z : first_place 2 ≡ after 2 = h in absurd (let bad : ⊥ = cc in bad);
            child_bits = λ h. record { folds = refl; alike = λ z. refl; unlike = λ z p q. (let bad : ⊥ = cc in absurd bad) };
            sends = refl;
            whole = refl;
          }

      g7 : FieldAt P main first IsJob 7 net4 (λ e. false) role3 k17 (w17 ∷ [])
      g7 =
          let f = g6.field in
          let up : Filed f.net f.role x.path r4.site = record { entry = 2; it = r2; is = ap (λ (z : ℕ → Option Role). z 2) g6.same_role; hangs = λ h. (let z : top ≡ apart = ap (λ (n : Net). n.place 2) (sym g6.same_net) ∙ h in let bad : ⊥ = cc in bad); path = sym y.path; site = refl } in
          let g = links_keep S (Job S) IsJob P main first 7 k16 (u 0 ∷ []) f 0 (u 0) w17 0 x (making 0) 4 r4 net4 k17.states (record {
            sits = refl;
            has = refl;
            by = y.number;
            among = making_first 0;
            is = ap (λ (z : ℕ → Option Role). z 4) g6.same_role;
            task = refl;
            linked = below_creator up (y.last r4.site) refl (subst (λ (n : Net). Links 7 n net4 k16.states k17.states k16.infos 2 4 (u 0).words w17.words) (sym g6.same_net) links4);
            told = (refl, refl, refl);
            starts = λ e s. let z : true ≡ false = e in absurd (let bad : ⊥ = cc in bad);
            cell = λ e h. let z : on 0 ≡ on e = h in cc;
            same = record { bears = refl; makes = refl; ready = refl; loaded = refl; joined = refl; seen = refl; still = refl };
            owes = refl;
          }) in
          record { field = g.field; same_net = g.same_net; same_gave = g.same_gave ∙ g6.same_gave; same_role = g.same_role ∙ g6.same_role }

      abbrev k18 : Parts (Job S)
      k18 = record k17 { states = λ e. cond (e == 4) (record clear_flag { reads = true }) (k17.states e) }

      abbrev w18 : Sight S
      w18 = record (u 0) { words = record first_view { held = record { entry = 4; flag = 4 } ∷ [] } }

      abbrev k19 : Parts (Job S)
      k19 = record k18 { states = λ e. cond (e == 4) (record clear_flag { reads = true; writes = true }) (k18.states e) }

      abbrev z : ℕ → Sight S
      z stage = record (u stage) { owes = 3 ∷ [] }

      g8 : FieldAt P main first IsJob 7 net4 (λ e. false) role3 k18 (w18 ∷ [])
      g8 =
          let word : Delivers net4 k17.states k18.states k17.infos (record { entry = 4; flag = 3 }) (record { entry = 4; flag = 4 } ∷ []) w17.words w18.words = record {
            took = λ h. refl;
            first = λ b h. inr (later net4 4 b h);
            full = refl;
            sets = sets_reads refl refl;
            others = λ j ne. else_ (j == 4) (record clear_flag { reads = true }) (k17.states j) (apart_from j 4 ne);
            sends = refl;
            whole = refl;
          } in
          let g = deliveries_keep S (Job S) IsJob P main first 7 k17 (w17 ∷ []) g7.field 0 w17 w18 (record { entry = 4; flag = 3 }) (record { entry = 4; flag = 4 } ∷ []) k18.states (record {
            sits = refl;
            word = subst (λ (n : Net). Delivers n k17.states k18.states k17.infos (record { entry = 4; flag = 3 }) (record { entry = 4; flag = 4 } ∷ []) w17.words w18.words) (sym g7.same_net) word;
            none = refl;
            owes = λ i. let q = and_false (3 == i) in omega (arith, q);
            same = record { bears = refl; makes = refl; ready = refl; loaded = refl; joined = refl; seen = refl; still = refl };
          }) in
          record { field = g.field; same_net = g.same_net ∙ g7.same_net; same_gave = g.same_gave ∙ g7.same_gave; same_role = g.same_role ∙ g7.same_role }

      g9 : FieldAt P main first IsJob 7 net4 (λ e. false) role3 k19 ((z 0) ∷ [])
      g9 =
          let word : Delivers net4 k18.states k19.states k18.infos (record { entry = 4; flag = 4 }) [] w18.words (z 0).words = record {
            took = λ h. refl;
            first = λ b h. elim h [ ];
            full = refl;
            sets = sets_writes refl refl;
            others = λ j ne. else_ (j == 4) (record clear_flag { reads = true; writes = true }) (k18.states j) (apart_from j 4 ne);
            sends = refl;
            whole = refl;
          } in
          let g = deliveries_keep S (Job S) IsJob P main first 7 k18 (w18 ∷ []) g8.field 0 w18 (z 0) (record { entry = 4; flag = 4 }) [] k19.states (record {
            sits = refl;
            word = subst (λ (n : Net). Delivers n k18.states k19.states k18.infos (record { entry = 4; flag = 4 }) [] w18.words (z 0).words) (sym g8.same_net) word;
            none = refl;
            owes = λ i. let q = and_true (3 == i) in omega (arith, q);
            same = record { bears = refl; makes = refl; ready = refl; loaded = refl; joined = refl; seen = refl; still = refl };
          }) in
          record { field = g.field; same_net = g.same_net ∙ g8.same_net; same_gave = g.same_gave ∙ g8.same_gave; same_role = g.same_role ∙ g8.same_role }

      -- the new job is put, and its task opened
      abbrev pub j2 : Job S
      j2 = record { task = 3; body = (new_task P x.body o2).body; last = λ q. None }

      abbrev k20 : Parts (Job S)
      k20 = record k19 { bodies = λ e. cond (e == 3) 2 (k10.bodies e) }

      abbrev k21 : Parts (Job S)
      k21 = record k19 { bodies = λ e. cond (e == 3) 1 (k10.bodies e); jobs = λ e. cond (e == 3) (Some j2) None }

      g10 : FieldAt P main first IsJob 7 net4 (λ e. false) role3 k20 (z 1 ∷ [])
      g10 =
          let g = first_puts_keep S (Job S) IsJob P main first 7 k19 (z 0 ∷ []) g9.field 0 (z 0) (z 1) 0 x o2 (making 0) (making 1) k20.bodies k20.jobs (record {
            sits = refl;
            has = refl;
            by = y.number;
            act = act;
            among = making_first 0;
            among_now = making_first 1;
            task = refl;
            maker = refl;
            others = λ a h. inl (sym (among_one (making 1) a h));
            kept = λ a h. (making 1, making_first 1, ap (λ (q : Making). q.task) (among_one (making 0) a h));
            other_bodies = λ j ne. else_ (j == 3) 2 (k10.bodies j) (apart_from j 3 ne);
            other_jobs = λ j ne. refl;
            put = going refl refl refl;
            bears = refl;
            same = record { words = refl; owes = refl; joined = refl; ready = refl; loaded = refl; seen = refl; still = refl };
          }) in
          record { field = g.field; same_net = g.same_net ∙ g9.same_net; same_gave = g.same_gave ∙ g9.same_gave; same_role = g.same_role ∙ g9.same_role }

      g11 : FieldAt P main first IsJob 7 net4 (λ e. false) role3 k21 (z 2 ∷ [])
      g11 =
          let g = first_puts_keep S (Job S) IsJob P main first 7 k20 (z 1 ∷ []) g10.field 0 (z 1) (z 2) 0 x o2 (making 1) (making 2) k21.bodies k21.jobs (record {
            sits = refl;
            has = refl;
            by = y.number;
            act = act;
            among = making_first 1;
            among_now = making_first 2;
            task = refl;
            maker = refl;
            others = λ a h. inl (sym (among_one (making 2) a h));
            kept = λ a h. (making 2, making_first 2, ap (λ (q : Making). q.task) (among_one (making 1) a h));
            other_bodies = λ j ne. else_ (j == 3) 1 (k10.bodies j) (apart_from j 3 ne) ∙ sym (else_ (j == 3) 2 (k10.bodies j) (apart_from j 3 ne));
            other_jobs = λ j ne. else_ (j == 3) (Some j2) None (apart_from j 3 ne);
            put = is_put j2 refl refl refl (record { task = refl; body = refl; last = λ q. refl });
            bears = refl;
            same = record { words = refl; owes = refl; joined = refl; ready = refl; loaded = refl; seen = refl; still = refl };
          }) in
          record { field = g.field; same_net = g.same_net ∙ g10.same_net; same_gave = g.same_gave ∙ g10.same_gave; same_role = g.same_role ∙ g10.same_role }

      abbrev last_two : Site → Option ℕ
      last_two itself = Some 3
      last_two (on zero) = Some 4
      last_two (on (suc e)) = None

      abbrev pub x1 : Bearing S
      x1 = record { number = x.number; path = x.path; body = with_answer 0 x.body; last = last_two }

      abbrev pub v22 : Sight S
      v22 = record (v10 x1) { owes = 3 ∷ [] }

      abbrev pub k22 : Parts (Job S)
      k22 = record k21 { counts = λ e. cond (e == 3) 1 (k10.counts e) }

      pub g12 : FieldAt P main first IsJob 7 net4 (λ e. false) role3 k22 (v22 ∷ [])
      g12 =
          let f = g11.field in
          let g = openings_keep S (Job S) IsJob P main first 7 k21 (z 2 ∷ []) f 0 (z 2) v22 0 x x1 (making 2) k22.counts (record {
            sits = refl;
            has = refl;
            by = y.number;
            among = making_first 2;
            put = refl;
            hung = λ e r h task q. hangs e r (role3_is e r (sym (ap (λ (p : ℕ → Option Role). p e) g11.same_role) ∙ h)) task (ap (λ (n : Net). n.place e) g11.same_net) q;
            down = refl;
            others = λ j ne. else_ (j == 3) 1 (k10.counts j) (apart_from j 3 ne) ∙ sym (else_ (j == 3) 2 (k10.counts j) (apart_from j 3 ne));
            bears = refl;
            number = refl;
            path = refl;
            body = refl;
            last = λ s. last_at f.role (λ e r h. role3_is e r (sym (ap (λ (p : ℕ → Option Role). p e) g11.same_role) ∙ h)) (ap (λ (p : ℕ → Option Role). p 3) g11.same_role) (ap (λ (p : ℕ → Option Role). p 4) g11.same_role) s;
            makes = λ a h. elim h [ ];
            kept = λ a h ne. absurd (ne (sym (ap (λ (q : Making). q.task) (among_one (making 2) a h))));
            same = record { words = refl; owes = refl; joined = refl; ready = refl; loaded = refl; seen = refl; still = refl };
          }) in
          record { field = g.field; same_net = g.same_net ∙ g11.same_net; same_gave = g.same_gave ∙ g11.same_gave; same_role = g.same_role ∙ g11.same_role }
        where
          old_task : (e : ℕ) (r : Role) → role1 e ≡ Some r → r.task ≡ 3 → ⊥
          old_task e r h task = elim (role_is e r h) [
            | inl q ↦ (let n : 1 ≡ 3 = ap (λ (w : Role). w.task) q.1 ∙ task in omega (arith, n))
            | inr q ↦ (let n : 1 ≡ 3 = ap (λ (w : Role). w.task) q.1 ∙ task in omega (arith, n))
          ]

          hangs : (e : ℕ) (r : Role) → ((e ≡ 3) × (r3 ≡ r)) ⊎ (((e ≡ 4) × (r4 ≡ r)) ⊎ (role1 e ≡ Some r)) → r.task ≡ 3 → {p : Place} → p ≡ net4.place e → p ≢ apart
          hangs e r (inl is) task q h = let n : first_place 1 ≡ apart = sym (ap (λ (i : ℕ). net4.place i) is.0) ∙ (sym q ∙ h) in let bad : ⊥ = cc in bad
          hangs e r (inr (inl is)) task q h = let n : first_place 2 ≡ apart = sym (ap (λ (i : ℕ). net4.place i) is.0) ∙ (sym q ∙ h) in let bad : ⊥ = cc in bad
          hangs e r (inr (inr old)) task q h = old_task e r old task

          last_at : (role : ℕ → Option Role) → ((e : ℕ) (r : Role) → role e ≡ Some r → ((e ≡ 3) × (r3 ≡ r)) ⊎ (((e ≡ 4) × (r4 ≡ r)) ⊎ (role1 e ≡ Some r))) → role 3 ≡ Some r3 → role 4 ≡ Some r4 → (s : Site)
              → ((i : ℕ) × (r : Role) × (role i ≡ Some r) × (r.task ≡ 3) × (r.site ≡ s) × (last_two s ≡ Some i)) ⊎ (((i : ℕ) (r : Role) → role i ≡ Some r → r.task ≡ 3 → r.site ≢ s) × (last_two s ≡ x.last s))
          last_at role role_at is is2 itself = inl (3, r3, is, refl, refl, refl)
          last_at role role_at is is2 (on zero) = inl (4, r4, is2, refl, refl, refl)
          last_at role role_at is is2 (on (suc s)) = inr (
            (λ i r h q site. elim (role_at i r h) [
              | inl p ↦ (let n : itself ≡ on (suc s) = ap (λ (w : Role). w.site) p.1 ∙ site in let bad : ⊥ = cc in bad)
              | inr v ↦ elim v [
                | inl p ↦ (let n : on 0 ≡ on (suc s) = ap (λ (w : Role). w.site) p.1 ∙ site in let bad : ⊥ = cc in bad)
                | inr old ↦ old_task i r old q
              ]
            ]),
            sym (y.last (on (suc s))),
          )

      -- the first task has ended, and gives up the cell in two steps
      module _ (over : is_ended P (with_answer 0 (new_task P (record { start = main; found = [] }) o).body) ≡ true) (nowait : (new_task P (record { start = main; found = [] }) o).body.start.order.wait ≡ false) where
        abbrev k23 : Parts (Job S)
        k23 = record k22 { states = λ e. cond (e == 2) (record headed2 { given = true }) (k22.states e) }

        abbrev gave2 : ℕ → Bool
        gave2 e = cond (e == 2) true false

        abbrev v23 : Sight S
        v23 = record v22 { words = record first_view { half = 2 ∷ [] } }

        begun : Begins k22.states k23.states 2 v22.words v23.words
        begun =
            record {
              empty = refl;
              full = refl;
              stays = refl;
              sets = refl;
              others = λ j ne. else_ (j == 2) (record headed2 { given = true }) (k22.states j) (apart_from j 2 ne);
              sends = refl;
              whole = refl;
            }

        g13 : FieldAt P main first IsJob 7 net4 gave2 role3 k23 (v23 ∷ [])
        g13 =
            let f = g12.field in
            let is : f.role 2 ≡ Some r2 = ap (λ (p : ℕ → Option Role). p 2) g12.same_role in
            let hangs : f.net.place 2 ≢ apart = λ h. let n : top ≡ apart = ap (λ (n : Net). n.place 2) (sym g12.same_net) ∙ h in let bad : ⊥ = cc in bad in
            let up : GivesUp f.gave gave2 2 = record { now = refl; same = λ j ne. else_ (j == 2) true false (apart_from j 2 ne) ∙ ap (λ (p : ℕ → Bool). p j) (sym g12.same_gave) } in
            let step : JobGoes v22 v23 0 x1 x1 = record { has = refl; bears = refl; number = refl; path = refl; last = refl; start = refl; makes = refl; ready = refl; joined = refl } in
            let right : right_of x.body.start.context 0 ≡ Holds Write true = ap (λ (b : Body S). right_of b.start.context 0) same_body ∙ right0 in
            let g = gives_keep S (Job S) IsJob P main first 7 k22 (v22 ∷ []) f 0 v22 v23 0 x1 x1 x1.body 2 r2 k23.states gave2 0 Write true (record {
              up = record {
                entry = record {
                  with_job = record { sits = refl; job = step; alone = still_there };
                  loaded = λ a h. elim h [ ];
                  body = refl;
                  is = is;
                  path = sym y.path;
                  owes = refl;
                  none = refl;
                  seen = refl;
                };
                hangs = hangs;
                ungiven = refl;
                gives = up;
                word = begins refl begun;
                still = λ a h. elim h [ ];
              };
              site = refl;
              right = right;
              no_fold = λ p h. let n : Holds Write true ≡ Holds (Fold p) true = sym right ∙ h in let bad : ⊥ = cc in bad;
              may = ended (ap (λ (b : Body S). is_ended P (with_answer 0 b)) same_body ∙ over) (λ w. let n : false ≡ true = sym nowait ∙ ap (λ (b : Body S). b.start.order.wait) (sym same_body) ∙ w in absurd (let bad : ⊥ = cc in bad));
            }) in
            record { field = g.field; same_net = g.same_net ∙ g12.same_net; same_gave = g.same_gave; same_role = g.same_role ∙ g12.same_role }

        abbrev k24 : Parts (Job S)
        k24 = record k23 { states = λ e. cond (e == 4) (record clear_flag { reads = true; writes = true; linked = true; next = 2 }) (k23.states e) }

        risen : Rises net4 k23.states k24.states k23.infos 2 v23.words v22.words
        risen =
            record {
              full = refl;
              sets = refl;
              others = λ j ne. else_ (j == 4) (record clear_flag { reads = true; writes = true; linked = true; next = 2 }) (k23.states j) (apart_from j 4 ne);
              sends = refl;
              whole = refl;
            }

        g14 : FieldAt P main first IsJob 7 net4 gave2 role3 k24 (v22 ∷ [])
        g14 =
            let g = last_links_keep S (Job S) IsJob P main first 7 k23 (v23 ∷ []) g13.field 0 v23 v22 2 k24.states (record {
              sits = refl;
              word = subst (λ (n : Net). Rises n k23.states k24.states k23.infos 2 v23.words v22.words) (sym g13.same_net) risen;
              unlinked = ap (λ (n : Net). (k23.states (n.last 2)).linked) g13.same_net;
              none = refl;
              owes = refl;
              same = record { bears = refl; makes = refl; ready = refl; loaded = refl; joined = refl; seen = refl; still = refl };
            }) in
            record { field = g.field; same_net = g.same_net ∙ g13.same_net; same_gave = g.same_gave ∙ g13.same_gave; same_role = g.same_role ∙ g13.same_role }
