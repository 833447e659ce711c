-- The run of `RunWrite` goes on: main makes a second task, which reads the cell that the first one writes. Its count waits for the flag reads; the
-- first task ends and gives up the cell, reads is delivered, the count down that is owed is made, and the second task is found ready.
use Rattle.std.proofs.Common.{◌<◌, ◌+◌, ◌≡◌, ◌≢◌, ◌⊎◌, inl, inr, sym, subst, refl, ◌∙◌, ap, ℕ, zero, suc, arith, Bool, true, false, List, [], ◌∷◌, set, Option, Some, None}
use Rattle.std.specs.Prelude.{◌==◌, ◌&&◌, cond}
use Rattle.std.proofs.lemmas.Bool.Decides.{eqb_tells}
use Rattle.oss_syntax.specs.declared.access.Mode.{Mode}
use Rattle.oss_syntax.specs.declared.access.Mode.TheVariants.{Read, Write, Fold}
use Rattle.oss_model.specs.Agreement.{Setting}
use Rattle.oss_model.specs.Bodies.{Order, Program, Start, Body}
use Rattle.oss_model.specs.Bodies.Act.{Created}
use Rattle.oss_model.specs.Context.{right_of}
use Rattle.oss_model.specs.Moves.{act_now, created_now, is_ended, new_task}
use Rattle.oss_model.specs.Rights.{Holds}
use Rattle.oss_words.specs.declared.entry.EntryInfo.{EntryInfo}
use Rattle.oss_words.specs.declared.entry.EntryState.{EntryState}
use Rattle.oss_words.specs.Net.{Net, Place, apart, top, first as first_place, after, behind_last}
use Rattle.oss_words.specs.Causes.{sets_reads}
use Rattle.oss_words.specs.Steps.{no_flags, Fills, Links, to_sibling, Delivers, Gives, GivesUp}
use Rattle.oss_words.specs.declared.message.Message.{Message}
use Rattle.oss_words.specs.Members.{Has, head, tail}
use Rattle.oss_words.specs.Sums.{num}
use Rattle.oss_words.specs.Views.{first_view, Among, among_first}
use Rattle.oss_roles.specs.Alone.{with_answer}
use Rattle.oss_roles.specs.Field.{FieldAt, Parts, IsNumberOf, of_main, of_entry, going, is_put}
use Rattle.oss_roles.specs.Numbers.{entry_number}
use Rattle.oss_roles.specs.Roles.{Role, Site, itself, on, Plans}
use Rattle.oss_roles.specs.Sights.{Bearing, Making, Sight}
use Rattle.oss_roles.specs.Steps.{JobGoes}
use Rattle.oss_roles.proofs.FillField.{fill_field}
use Rattle.oss_roles.proofs.CallLemmas.{fresh_path}
use Rattle.oss_roles.proofs.LookLaw.{ready_field}
use Rattle.oss_roles.proofs.OpenField.{open_field}
use Rattle.oss_roles.proofs.PlanField.{plan_field}
use Rattle.oss_roles.proofs.SeatLaw.{stage_field}
use Rattle.oss_roles.proofs.TakeLaw.{take_field}
use Rattle.oss_roles.proofs.RunWrite as run
use Rattle.oss_roles.proofs.RunWrite.{Job, IsJob, when, else_, apart_from, only, among_one, some_same, order_same}
use Rattle.oss_roles.specs.JobSteps.{ended, at_once}
use Rattle.oss_roles.specs.MakeSteps.{after_last}
use Rattle.oss_roles.specs.Passing.{still_there}
use Rattle.oss_roles.proofs.JobClaims.{gives_keep}
use Rattle.oss_roles.proofs.MakeClaims.{links_keep}
use Rattle.oss_roles.proofs.WordClaims.{count_reads_keep, deliveries_keep, count_downs_keep}

module _ {S : Type 0} {strong : Bool} (P : Program S) (main : Start S) (first : List ℕ) (setting : Setting main first) (infos : ℕ → EntryInfo) (values cell_of : ℕ → ℕ) (o : Order S)
    (act0 : act_now P (record { start = main; found = [] }) ≡ Created o false)
    (right0 : right_of (new_task P (record { start = main; found = [] }) o).body.start.context 0 ≡ Holds Write strong)
    (only0 : (c : ℕ) (m : Mode) (s : Bool) → right_of (new_task P (record { start = main; found = [] }) o).body.start.context c ≡ Holds m s → c ≡ 0) where
  abbrev b0 : Body S
  b0 = run.b0 P main first setting infos values cell_of o act0 right0 only0

  module _ (d : Bearing S) (t : run.Taken P main first setting infos values cell_of o act0 right0 only0 d) where
    abbrev r1 : Role
    r1 = run.r1 P main first setting infos values cell_of o act0 right0 only0 d t

    abbrev r2 : Role
    r2 = run.r2 P main first setting infos values cell_of o act0 right0 only0 d t

    abbrev role1 : ℕ → Option Role
    role1 = run.role1 P main first setting infos values cell_of o act0 right0 only0 d t

    role_is : (e : ℕ) (r : Role) → role1 e ≡ Some r → ((e ≡ 1) × (r1 ≡ r)) ⊎ ((e ≡ 2) × (r2 ≡ r))
    role_is e r h = run.role_is P main first setting infos values cell_of o act0 right0 only0 d t e r h

    apart_sites : {A : Type 0} {c : ℕ} → itself ≡ on c → A
    apart_sites h = run.apart_sites P main first setting infos values cell_of o act0 right0 only0 d t h

    abbrev open_flags : EntryState
    open_flags = run.open_flags P main first setting infos values cell_of o act0 right0 only0 d t

    abbrev k4b : Parts (Job S)
    k4b = run.k4b P main first setting infos values cell_of o act0 right0 only0 d t

    abbrev net2 : Net
    net2 = run.net2 P main first setting infos values cell_of o act0 right0 only0 d t

    abbrev j1 : Job S
    j1 = run.j1 P main first setting infos values cell_of o act0 right0 only0 d t

    abbrev k7 : Parts (Job S)
    k7 = run.k7 P main first setting infos values cell_of o act0 right0 only0 d t

    abbrev c : Bearing S
    c = run.c P main first setting infos values cell_of o act0 right0 only0 d t

    abbrev v8 : Sight S
    v8 = run.v8 P main first setting infos values cell_of o act0 right0 only0 d t

    abbrev k8 : Parts (Job S)
    k8 = run.k8 P main first setting infos values cell_of o act0 right0 only0 d t

    f8 : FieldAt P main first IsJob 7 net2 (λ e. false) role1 k8 (v8 ∷ [])
    f8 = run.f8 P main first setting infos values cell_of o act0 right0 only0 d t

    -- main makes a second task, which reads the cell
    module _ (o2 : Order S) (act2 : act_now P (with_answer 0 (record { start = main; found = [] })) ≡ Created o2 false)
        (right2 : right_of (new_task P (with_answer 0 (record { start = main; found = [] })) o2).body.start.context 0 ≡ Holds Read true)
        (only2 : (e : ℕ) (m : Mode) (s : Bool) → right_of (new_task P (with_answer 0 (record { start = main; found = [] })) o2).body.start.context e ≡ Holds m s → e ≡ 0) where
      act2_now : act_now P c.body ≡ Created o2 false
      act2_now = ap (λ (z : Body S). act_now P (with_answer 0 z)) t.body ∙ act2

      right2_now : (e : ℕ) (m : Mode) (s : Bool) → right_of (new_task P c.body o2).body.start.context e ≡ Holds m s → (0 ≡ e) × (Read ≡ m) × (true ≡ s)
      right2_now e m s h =
          let h0 = subst (λ (x : Body S). right_of (new_task P (with_answer 0 x) o2).body.start.context e ≡ Holds m s) t.body h in
          let zero_is : e ≡ 0 = only2 e m s h0 in
          let q : Holds Read true ≡ Holds m s = sym right2 ∙ ap (λ (x : ℕ). right_of (new_task P (with_answer 0 b0) o2).body.start.context x) (sym zero_is) ∙ h0 in
          (sym zero_is, cc, cc)

      abbrev pub r3 : Role
      r3 = record { path = created_now P c.body ∷ c.path; site = itself; task = 3; mode = Read; strong = false; counts = false }

      abbrev pub r4 : Role
      r4 = record { path = created_now P c.body ∷ c.path; site = on 0; task = 3; mode = Read; strong = true; counts = true }

      abbrev pub role3 : ℕ → Option Role
      role3 e = cond (e == 3) (Some r3) (cond (e == 4) (Some r4) (role1 e))

      pub role3_is : (e : ℕ) (r : Role) → role3 e ≡ Some r → ((e ≡ 3) × (r3 ≡ r)) ⊎ (((e ≡ 4) × (r4 ≡ r)) ⊎ (role1 e ≡ Some r))
      role3_is e r h = elim (eqb_tells e 3) [
        | inl q ↦ inl (q.1, some_same r3 r (sym (when (e == 3) (Some r3) (cond (e == 4) (Some r4) (role1 e)) q.0) ∙ h))
        | inr q ↦
            let k : cond (e == 4) (Some r4) (role1 e) ≡ Some r = sym (else_ (e == 3) (Some r3) (cond (e == 4) (Some r4) (role1 e)) q.0) ∙ h in
            elim (eqb_tells e 4) [
              | inl p ↦ inr (inl (p.1, some_same r4 r (sym (when (e == 4) (Some r4) (role1 e) p.0) ∙ k)))
              | inr p ↦ inr (inr (sym (else_ (e == 4) (Some r4) (role1 e) p.0) ∙ k))
            ]
      ]

      plans3 : ((e : ℕ) (r : Role) → role1 e ≡ Some r → r.path ≢ created_now P c.body ∷ c.path) → Plans net2 role1 role3 3 (created_now P c.body ∷ c.path)
      plans3 fresh =
          record {
            each = λ e. elim (eqb_tells e 3) [
              | inl q ↦ inr (ap role1 q.1, r3, when (e == 3) (Some r3) (cond (e == 4) (Some r4) (role1 e)) q.0, refl, refl, ap (λ (z : ℕ). net2.place z) q.1)
              | inr q ↦ elim (eqb_tells e 4) [
                | inl p ↦ inr (ap role1 p.1, r4, else_ (e == 3) (Some r3) (cond (e == 4) (Some r4) (role1 e)) q.0 ∙ when (e == 4) (Some r4) (role1 e) p.0, refl, refl, ap (λ (z : ℕ). net2.place z) p.1)
                | inr p ↦ inl (else_ (e == 3) (Some r3) (cond (e == 4) (Some r4) (role1 e)) q.0 ∙ else_ (e == 4) (Some r4) (role1 e) p.0)
              ]
            ];
            fresh = fresh;
            own = (r3, refl, refl, refl);
            unused = refl;
            not_main = refl;
            child = (created_now P c.body, c.path, refl);
            one = λ e f r q a b x y z. elim (role3_is e r a) [
              | inl h ↦ elim (role3_is f q b) [
                | inl g ↦ h.0 ∙ sym g.0
                | inr k ↦ elim k [
                  | inl g ↦ apart_sites (ap (λ (w : Role). w.site) h.1 ∙ z ∙ ap (λ (w : Role). w.site) (sym g.1))
                  | inr old ↦ absurd (fresh f q old y)
                ]
              ]
              | inr j ↦ elim j [
                | inl h ↦ elim (role3_is f q b) [
                  | inl g ↦ apart_sites (sym (ap (λ (w : Role). w.site) h.1 ∙ z ∙ ap (λ (w : Role). w.site) (sym g.1)))
                  | inr k ↦ elim k [
                    | inl g ↦ h.0 ∙ sym g.0
                    | inr old ↦ absurd (fresh f q old y)
                  ]
                ]
                | inr old ↦ absurd (fresh e r old x)
              ]
            ];
          }

      abbrev making3 : ℕ → Making
      making3 stage = record { by = 0; task = 3; stage = stage }

      abbrev u : ℕ → Sight S
      u stage = record v8 { makes = making3 stage ∷ [] }

      abbrev k9 : Parts (Job S)
      k9 = record k8 { counts = λ e. cond (e == 3) 2 (cond (e == 1) 0 (cond (e == 0) 0 18446744073709551615)) }

      g1 : FieldAt P main first IsJob 7 net2 (λ e. false) role3 k9 (u 0 ∷ [])
      g1 =
          let f = f8.field in
          let fresh : (e : ℕ) (r : Role) → role1 e ≡ Some r → r.path ≢ created_now P c.body ∷ c.path = λ e r h. fresh_path P main first IsJob 7 k8 (v8 ∷ []) f 0 0 v8 c refl refl (λ a among. elim among [ ]) e r (ap (λ (z : ℕ → Option Role). z e) f8.same_role ∙ h) in
          let plans' = subst (λ (n : Net). Plans n f.role role3 3 (created_now P c.body ∷ c.path)) (sym f8.same_net) (subst (λ (x : ℕ → Option Role). Plans net2 x role3 3 (created_now P c.body ∷ c.path)) (sym f8.same_role) (plans3 fresh)) in
          let g = plan_field P main first IsJob 7 k8 (v8 ∷ []) f 0 v8 (u 0) refl 0 c refl o2 act2_now 3 role3 plans'
          (λ e r h. elim (role3_is e r h) [
            | inl q ↦ (let z = q.0 in omega (arith, z))
            | inr q ↦ elim q [
              | inl p ↦ (let z = p.0 in omega (arith, z))
              | inr old ↦ elim (role_is e r old) [ inl p ↦ (let z = p.0 in omega (arith, z)) | inr p ↦ (let z = p.0 in omega (arith, z)) ]
            ]
          ]) (λ h. let z : 3 ≡ 0 = h in absurd (omega (arith, z))) (making3 0) t.number refl refl
          (λ e m s h. let w = right2_now e m s h in (
            4,
            r4,
            refl,
            refl,
            ap (λ (x : ℕ). on x) w.0,
            refl,
            w.1,
            w.2,
            ap (λ (x : ℕ). entry_number 3 (right_of (new_task P c.body o2).body.start.context) x) w.0,
          ))
          (λ e r h p counted. elim (role3_is e r h) [
            | inl q ↦ (let z : false ≡ true = ap (λ (w : Role). w.counts) q.1 ∙ counted in absurd (let bad : ⊥ = cc in bad))
            | inr q ↦ elim q [
              | inl w ↦ ap (λ (z : Role). z.strong) (sym w.1)
              | inr old ↦ absurd (fresh e r old p)
            ]
          ])
          k9.counts refl (λ j ne. else_ (j == 3) 2 (k8.counts j) (apart_from j 3 ne)) refl refl refl refl refl refl refl refl refl in
          record { field = g.field; same_net = g.same_net ∙ f8.same_net; same_gave = g.same_gave ∙ f8.same_gave; same_role = g.same_role }

      -- the info words and the cell word are filled
      abbrev info4 : EntryInfo
      info4 = record { mode = Read; strong = true; depth = 1; parent = 0; task = 3 }

      abbrev info3 : EntryInfo
      info3 = record { mode = Read; strong = false; depth = 1; parent = 0; task = 3 }

      abbrev k10 : Parts (Job S)
      k10 = record k9 { infos = λ e. cond (e == 3) info3 (k4b.infos e) }

      abbrev k11 : Parts (Job S)
      k11 = record k9 { infos = λ e. cond (e == 4) info4 (cond (e == 3) info3 (k4b.infos e)); cell_of = λ e. cond (e == 4) 0 (k4b.cell_of e) }

      empty_word : (e : ℕ) → e ≢ 1 → e ≢ 2 → k4b.states e ≡ no_flags
      empty_word e n1 n2 = else_ (e == 2) open_flags (cond (e == 1) open_flags no_flags) (apart_from e 2 n2) ∙ else_ (e == 1) open_flags no_flags (apart_from e 1 n1)

      g2 : FieldAt P main first IsJob 7 net2 (λ e. false) role3 k10 (u 0 ∷ [])
      g2 =
          let fills' : Fills 7 net2 k9.states k9.states k9.infos k10.infos 3 = record {
            inside = omega (arith);
            loose = refl;
            blank_before = record { linked = refl; headed = refl; left = refl; folds = refl; reads = refl; writes = refl; clear = refl };
            blank_now = record { linked = refl; headed = refl; left = refl; folds = refl; reads = refl; writes = refl; clear = refl };
            undone = refl;
            ungiven_before = refl;
            ungiven = refl;
            once = inl refl;
            others = λ j ne. refl;
            other_infos = λ j ne. else_ (j == 3) info3 (k4b.infos j) (apart_from j 3 ne);
          } in
          let g = fill_field P main first IsJob 7 k9 (u 0 ∷ []) g1.field 3 k9.states k10.infos k9.cell_of (subst (λ (n : Net). Fills 7 n k9.states k9.states k9.infos k10.infos 3) (sym g1.same_net) fills') (λ j ne. refl) (inl (refl, refl)) in
          record { field = g.field; same_net = g.same_net ∙ g1.same_net; same_gave = g.same_gave ∙ g1.same_gave; same_role = g.same_role ∙ g1.same_role }

      g3 : FieldAt P main first IsJob 7 net2 (λ e. false) role3 k11 (u 0 ∷ [])
      g3 =
          let fills' : Fills 7 net2 k10.states k10.states k10.infos k11.infos 4 = record {
            inside = omega (arith);
            loose = refl;
            blank_before = record { linked = refl; headed = refl; left = refl; folds = refl; reads = refl; writes = refl; clear = refl };
            blank_now = record { linked = refl; headed = refl; left = refl; folds = refl; reads = refl; writes = refl; clear = refl };
            undone = refl;
            ungiven_before = refl;
            ungiven = refl;
            once = inl refl;
            others = λ j ne. refl;
            other_infos = λ j ne. else_ (j == 4) info4 (k10.infos j) (apart_from j 4 ne);
          } in
          let g = fill_field P main first IsJob 7 k10 (u 0 ∷ []) g2.field 4 k10.states k11.infos k11.cell_of (subst (λ (n : Net). Fills 7 n k10.states k10.states k10.infos k11.infos 4) (sym g2.same_net) fills') (λ j ne. else_ (j == 4) 0 (k4b.cell_of j) (apart_from j 4 ne)) (inl (refl, refl)) in
          record { field = g.field; same_net = g.same_net ∙ g2.same_net; same_gave = g.same_gave ∙ g2.same_gave; same_role = g.same_role ∙ g2.same_role }

      -- its own entry is linked behind that of the first task: since that is a read, reads is sent on
      abbrev net3 : Net
      net3 = record { place = λ e. cond (e == 3) (after 1) (net2.place e); parent = λ e. 0; lead = λ e. cond (e == 3) 1 e; depth = λ e. cond (e == 3) 1 (net2.depth e); mode = λ e. cond (e == 3) Read (net2.mode e); last = λ e. cond (e == 0) 3 0 }

      abbrev k12 : Parts (Job S)
      k12 = record k11 { states = λ e. cond (e == 1) (record open_flags { linked = true; next = 3 }) (k4b.states e) }

      abbrev w12 : Sight S
      w12 = record (u 0) { words = record first_view { held = record { entry = 3; flag = 3 } ∷ [] } }

      never_after : (o j : ℕ) → net2.place j ≢ after o
      never_after o j h = elim (eqb_tells j 2) [
        | inl q ↦ (let z : top ≡ after o = sym (when (j == 2) top (cond (j == 1) top apart) q.0) ∙ h in absurd (let bad : ⊥ = cc in bad))
        | inr q ↦ elim (eqb_tells j 1) [
          | inl p ↦ (let z : top ≡ after o = sym (else_ (j == 2) top (cond (j == 1) top apart) q.0 ∙ when (j == 1) top apart p.0) ∙ h in absurd (let bad : ⊥ = cc in bad))
          | inr p ↦ (let z : apart ≡ after o = sym (else_ (j == 2) top (cond (j == 1) top apart) q.0 ∙ else_ (j == 1) top apart p.0) ∙ h in absurd (let bad : ⊥ = cc in bad))
        ]
      ]

      links3 : Links 7 net2 net3 k11.states k12.states k11.infos 1 3 (u 0).words w12.words
      links3 =
          record {
            adds = record {
              fresh = refl;
              not_main = λ h. let z : 3 ≡ 0 = h in absurd (omega (arith, z));
              place = λ j ne. else_ (j == 3) (after 1) (net2.place j) (apart_from j 3 ne);
              parent = λ j ne. refl;
              lead = λ j ne. else_ (j == 3) 1 j (apart_from j 3 ne);
              depth = λ j ne. else_ (j == 3) 1 (net2.depth j) (apart_from j 3 ne);
              mode = λ j ne. else_ (j == 3) Read (net2.mode j) (apart_from j 3 ne);
              last = λ q ne. else_ (q == 0) 3 0 (apart_from q 0 ne) ∙ sym (else_ (q == 0) 2 0 (apart_from q 0 ne));
              newest = refl;
              how = behind_last 1 refl refl refl refl (omega (arith)) (λ h. let z : top ≡ apart = h in absurd (let bad : ⊥ = cc in bad)) (never_after 1) (λ ne. absurd (ne refl));
            };
            inside = omega (arith);
            inside_new = omega (arith);
            empty = refl;
            full = refl;
            links = to_sibling refl refl false false refl;
            others = λ j ne. else_ (j == 1) (record open_flags { linked = true; next = 3 }) (k4b.states j) (apart_from j 1 ne);
            blank = record { linked = refl; headed = refl; left = refl; folds = refl; reads = refl; writes = refl; clear = refl };
            info = refl;
            open_yet = refl;
            tells = record { mode = refl; depth = refl; shallow = omega (arith) };
            ungiven = refl;
            undone = refl;
            clears = λ h. let z : after 1 ≡ first_place 1 = h in absurd (let bad : ⊥ = cc in bad);
            above = λ h. let z : after 1 ≡ first_place 1 = h in absurd (let bad : ⊥ = cc in bad);
            covers = λ ne. absurd (ne refl);
            sibling_bits = λ h. record { folds = refl; alike = λ z. (let bad : ⊥ = cc in absurd bad); unlike = λ z p q. (let bad : ⊥ = cc in absurd bad) };
            child_bits = λ h. let z : after 1 ≡ first_place 1 = h in absurd (let bad : ⊥ = cc in bad);
            sends = refl;
            whole = refl;
          }

      making_first : (s : ℕ) → Among (making3 s) (u s).makes
      making_first s = among_first refl

      g4 : FieldAt P main first IsJob 7 net3 (λ e. false) role3 k12 (w12 ∷ [])
      g4 =
          let f = g3.field in
          let links' = subst (λ (n : Net). Links 7 n net3 k11.states k12.states k11.infos 1 3 (u 0).words w12.words) (sym g3.same_net) links3 in
          let x = links_keep S (Job S) IsJob P main first 7 k11 (u 0 ∷ []) f 0 (u 0) w12 0 c (making3 0) 3 r3 net3 k12.states (record {
            sits = refl;
            has = refl;
            by = t.number;
            among = making_first 0;
            is = ap (λ (z : ℕ → Option Role). z 3) g3.same_role;
            task = refl;
            linked = after_last 1 refl refl links';
            told = (refl, refl, refl);
            starts = λ e s. let z : false ≡ true = s in absurd (let bad : ⊥ = cc in bad);
            cell = λ e h. let z : itself ≡ on e = h in absurd (let bad : ⊥ = cc in bad);
            same = record { bears = refl; makes = refl; ready = refl; loaded = refl; joined = refl; seen = refl; still = refl };
            owes = refl;
          }) in
          record { field = x.field; same_net = x.same_net; same_gave = x.same_gave ∙ g3.same_gave; same_role = x.same_role ∙ g3.same_role }

      -- and delivered: no count waits for it
      abbrev k13 : Parts (Job S)
      k13 = record k12 { states = λ e. cond (e == 3) (record no_flags { reads = true }) (k12.states e) }

      and_false : (b : Bool) → num (b && false) ≡ 0
      and_false true = refl
      and_false false = refl

      g5 : FieldAt P main first IsJob 7 net3 (λ e. false) role3 k13 (u 0 ∷ [])
      g5 =
          let d : Delivers net3 k12.states k13.states k12.infos (record { entry = 3; flag = 3 }) [] w12.words (u 0).words = record {
            took = λ h. refl;
            first = λ b h. elim h [ ];
            full = refl;
            sets = sets_reads refl refl;
            others = λ j ne. else_ (j == 3) (record no_flags { reads = true }) (k12.states j) (apart_from j 3 ne);
            sends = refl;
            whole = refl;
          } in
          let g = deliveries_keep S (Job S) IsJob P main first 7 k12 (w12 ∷ []) g4.field 0 w12 (u 0) (record { entry = 3; flag = 3 }) [] k13.states (record {
            sits = refl;
            word = subst (λ (n : Net). Delivers n k12.states k13.states k12.infos (record { entry = 3; flag = 3 }) [] w12.words (u 0).words) (sym g4.same_net) d;
            none = refl;
            owes = λ i. let z = and_false (3 == i) in omega (arith, z);
            same = record { bears = refl; makes = refl; ready = refl; loaded = refl; joined = refl; seen = refl; still = refl };
          }) in
          record { field = g.field; same_net = g.same_net ∙ g4.same_net; same_gave = g.same_gave ∙ g4.same_gave; same_role = g.same_role ∙ g4.same_role }

      -- that of its cell is linked behind the write, which sends nothing yet
      abbrev pub net4 : Net
      net4 = record { place = λ e. cond (e == 4) (after 2) (net3.place e); parent = λ e. 0; lead = λ e. cond (e == 4) 2 (net3.lead e); depth = λ e. cond (e == 4) 1 (net3.depth e); mode = λ e. cond (e == 4) Read (net3.mode e); last = λ e. cond (e == 0) 4 0 }

      abbrev k14 : Parts (Job S)
      k14 = record k13 { states = λ e. cond (e == 2) (record open_flags { linked = true; next = 4 }) (k13.states e) }

      never_after2 : (j : ℕ) → net3.place j ≢ after 2
      never_after2 j h = elim (eqb_tells j 3) [
        | inl q ↦ (let z : after 1 ≡ after 2 = sym (when (j == 3) (after 1) (net2.place j) q.0) ∙ h in absurd (let bad : ⊥ = cc in bad))
        | inr q ↦ absurd (never_after 2 j (sym (else_ (j == 3) (after 1) (net2.place j) q.0) ∙ h))
      ]

      links4 : Links 7 net3 net4 k13.states k14.states k13.infos 2 4 (u 0).words (u 0).words
      links4 =
          record {
            adds = record {
              fresh = refl;
              not_main = λ h. let z : 4 ≡ 0 = h in absurd (omega (arith, z));
              place = λ j ne. else_ (j == 4) (after 2) (net3.place j) (apart_from j 4 ne);
              parent = λ j ne. refl;
              lead = λ j ne. else_ (j == 4) 2 (net3.lead j) (apart_from j 4 ne);
              depth = λ j ne. else_ (j == 4) 1 (net3.depth j) (apart_from j 4 ne);
              mode = λ j ne. else_ (j == 4) Read (net3.mode j) (apart_from j 4 ne);
              last = λ q ne. else_ (q == 0) 4 0 (apart_from q 0 ne) ∙ sym (else_ (q == 0) 3 0 (apart_from q 0 ne));
              newest = refl;
              how = behind_last 2 refl refl refl refl (omega (arith)) (λ h. let z : top ≡ apart = h in absurd (let bad : ⊥ = cc in bad)) never_after2 (λ ne. absurd (ne refl));
            };
            inside = omega (arith);
            inside_new = omega (arith);
            empty = refl;
            full = refl;
            links = to_sibling refl refl false false refl;
            others = λ j ne. else_ (j == 2) (record open_flags { linked = true; next = 4 }) (k13.states j) (apart_from j 2 ne);
            blank = record { linked = refl; headed = refl; left = refl; folds = refl; reads = refl; writes = refl; clear = refl };
            info = refl;
            open_yet = refl;
            tells = record { mode = refl; depth = refl; shallow = omega (arith) };
            ungiven = refl;
            undone = refl;
            clears = λ h. let z : after 2 ≡ first_place 2 = h in absurd (let bad : ⊥ = cc in bad);
            above = λ h. let z : after 2 ≡ first_place 2 = h in absurd (let bad : ⊥ = cc in bad);
            covers = λ ne. absurd (ne refl);
            sibling_bits = λ h. record { folds = refl; alike = λ z. (let bad : ⊥ = cc in absurd bad); unlike = λ z p q. (let bad : ⊥ = cc in absurd bad) };
            child_bits = λ h. let z : after 2 ≡ first_place 2 = h in absurd (let bad : ⊥ = cc in bad);
            sends = refl;
            whole = refl;
          }

      g6 : FieldAt P main first IsJob 7 net4 (λ e. false) role3 k14 (u 0 ∷ [])
      g6 =
          let f = g5.field in
          let links' = subst (λ (n : Net). Links 7 n net4 k13.states k14.states k13.infos 2 4 (u 0).words (u 0).words) (sym g5.same_net) links4 in
          let x = links_keep S (Job S) IsJob P main first 7 k13 (u 0 ∷ []) f 0 (u 0) (u 0) 0 c (making3 0) 4 r4 net4 k14.states (record {
            sits = refl;
            has = refl;
            by = t.number;
            among = making_first 0;
            is = ap (λ (z : ℕ → Option Role). z 4) g5.same_role;
            task = refl;
            linked = after_last 2 refl refl links';
            told = (refl, refl, refl);
            starts = λ e s. let z : true ≡ false = e in absurd (let bad : ⊥ = cc in bad);
            cell = λ e h. let z : on 0 ≡ on e = h in cc;
            same = record { bears = refl; makes = refl; ready = refl; loaded = refl; joined = refl; seen = refl; still = refl };
            owes = refl;
          }) in
          record { field = x.field; same_net = x.same_net; same_gave = x.same_gave ∙ g5.same_gave; same_role = x.same_role ∙ g5.same_role }

      -- the first put of the second task's job
      abbrev j2 : Job S
      j2 = record { task = 3; body = (new_task P c.body o2).body; last = λ y. None }

      abbrev k15 : Parts (Job S)
      k15 = record k14 { bodies = λ e. cond (e == 3) 2 (k7.bodies e) }

      abbrev k16 : Parts (Job S)
      k16 = record k14 { bodies = λ e. cond (e == 3) 1 (k7.bodies e); jobs = λ e. cond (e == 3) (Some j2) (k7.jobs e) }

      g7 : FieldAt P main first IsJob 7 net4 (λ e. false) role3 k15 (u 1 ∷ [])
      g7 =
          let x = stage_field P main first IsJob 7 k14 (u 0 ∷ []) g6.field 0 (u 0) (u 1) refl (making3 0) (making3 1) (making_first 0) (making_first 1) refl refl
          (λ a h. inl (sym (among_one (making3 1) a h))) (λ a h. (making3 1, making_first 1, ap (λ (z : Making). z.task) (among_one (making3 0) a h)))
          k15.bodies k15.jobs (λ j ne. else_ (j == 3) 2 (k7.bodies j) (apart_from j 3 ne)) (λ j ne. refl) (going refl refl refl) refl refl refl refl refl refl refl refl
          (λ j y sits a h q. (only (u 0) j y sits).0) in
          record { field = x.field; same_net = x.same_net ∙ g6.same_net; same_gave = x.same_gave ∙ g6.same_gave; same_role = x.same_role ∙ g6.same_role }

      g8 : FieldAt P main first IsJob 7 net4 (λ e. false) role3 k16 (u 2 ∷ [])
      g8 =
          let g = g7.field.made 0 (u 1) refl (making3 1) (making_first 1) in
          let one : c ≡ g.creator = (only c g.place g.creator g.held).1 in
          let order : o2 ≡ g.order = order_same o2 g.order (sym act2_now ∙ ap (λ (z : Bearing S). act_now P z.body) one ∙ g.act) in
          let body : (new_task P c.body o2).body ≡ (new_task P g.creator.body g.order).body = ap (λ (z : Bearing S). (new_task P z.body o2).body) one ∙ ap (λ (z : Order S). (new_task P g.creator.body z).body) order in
          let x = stage_field P main first IsJob 7 k15 (u 1 ∷ []) g7.field 0 (u 1) (u 2) refl (making3 1) (making3 2) (making_first 1) (making_first 2) refl refl
          (λ a h. inl (sym (among_one (making3 2) a h))) (λ a h. (making3 2, making_first 2, ap (λ (z : Making). z.task) (among_one (making3 1) a h)))
          k16.bodies k16.jobs (λ j ne. else_ (j == 3) 1 (k7.bodies j) (apart_from j 3 ne) ∙ sym (else_ (j == 3) 2 (k7.bodies j) (apart_from j 3 ne))) (λ j ne. else_ (j == 3) (Some j2) (k7.jobs j) (apart_from j 3 ne))
          (is_put j2 refl refl refl (record { task = refl; body = body; last = λ y. refl })) refl refl refl refl refl refl refl refl
          (λ j y sits a h q. (only (u 1) j y sits).0) in
          record { field = x.field; same_net = x.same_net ∙ g7.same_net; same_gave = x.same_gave ∙ g7.same_gave; same_role = x.same_role ∙ g7.same_role }

      -- it is opened: one flag is waited for
      abbrev last_two : Site → Option ℕ
      last_two itself = Some 3
      last_two (on zero) = Some 4
      last_two (on (suc e)) = None

      abbrev pub c2 : Bearing S
      c2 = record { number = d.number; path = d.path; body = with_answer 0 c.body; last = last_two }

      abbrev v17 : Sight S
      v17 = record v8 { bears = c2 ∷ [] }

      abbrev k17 : Parts (Job S)
      k17 = record k16 { counts = λ e. cond (e == 3) 1 (k8.counts e) }

      g9 : FieldAt P main first IsJob 7 net4 (λ e. false) role3 k17 (v17 ∷ [])
      g9 =
          let f = g8.field in
          let g = f.made 0 (u 2) refl (making3 2) (making_first 2) in
          let held = only c g.place g.creator g.held in
          let one : c ≡ g.creator = held.1 in
          let x = open_field P main first IsJob 7 k16 (u 2 ∷ []) f 0 (u 2) v17 refl (making3 2) (making_first 2) refl (λ h. let z : 3 ≡ 0 = h in absurd (omega (arith, z)))
          (λ e r h task q. hangs2 e r (role3_is e r (sym (ap (λ (z : ℕ → Option Role). z e) g8.same_role) ∙ h)) task (ap (λ (n : Net). n.place e) g8.same_net) q)
          c2 (ap (λ (z : ℕ). set (c ∷ []) z c2) (sym held.0)) (ap (λ (z : Bearing S). z.number) one) (ap (λ (z : Bearing S). z.path) one) (ap (λ (z : Bearing S). with_answer 0 z.body) one)
          (λ y. last_at2 f.role (λ e r h. role3_is e r (sym (ap (λ (z : ℕ → Option Role). z e) g8.same_role) ∙ h)) (ap (λ (z : ℕ → Option Role). z 3) g8.same_role) (ap (λ (z : ℕ → Option Role). z 4) g8.same_role) g.creator one y)
          (λ a h. elim h [ ]) (λ a h ne. absurd (ne (sym (ap (λ (z : Making). z.task) (among_one (making3 2) a h)))))
          (λ j. cond (j == 3) true (f.opened j)) k17.counts refl refl
          (λ j ne. (else_ (j == 3) true (f.opened j) (apart_from j 3 ne), else_ (j == 3) 1 (k8.counts j) (apart_from j 3 ne) ∙ sym (else_ (j == 3) 2 (k8.counts j) (apart_from j 3 ne))))
          refl refl refl refl refl refl refl in
          record { field = x.field; same_net = x.same_net ∙ g8.same_net; same_gave = x.same_gave ∙ g8.same_gave; same_role = x.same_role ∙ g8.same_role }
        where
          old_task : (e : ℕ) (r : Role) → role1 e ≡ Some r → r.task ≡ 3 → ⊥
          old_task e r h task = elim (role_is e r h) [
            | inl q ↦ (let z : 1 ≡ 3 = ap (λ (w : Role). w.task) q.1 ∙ task in omega (arith, z))
            | inr q ↦ (let z : 1 ≡ 3 = ap (λ (w : Role). w.task) q.1 ∙ task in omega (arith, z))
          ]

          hangs2 : (e : ℕ) (r : Role) → ((e ≡ 3) × (r3 ≡ r)) ⊎ (((e ≡ 4) × (r4 ≡ r)) ⊎ (role1 e ≡ Some r)) → r.task ≡ 3 → {p : Place} → p ≡ net4.place e → p ≢ apart
          hangs2 e r (inl is) task q h = let z : after 1 ≡ apart = sym (ap (λ (i : ℕ). net4.place i) is.0) ∙ (sym q ∙ h) in let bad : ⊥ = cc in bad
          hangs2 e r (inr (inl is)) task q h = let z : after 2 ≡ apart = sym (ap (λ (i : ℕ). net4.place i) is.0) ∙ (sym q ∙ h) in let bad : ⊥ = cc in bad
          hangs2 e r (inr (inr old)) task q h = old_task e r old task

          last_at2 : (role : ℕ → Option Role) → ((e : ℕ) (r : Role) → role e ≡ Some r → ((e ≡ 3) × (r3 ≡ r)) ⊎ (((e ≡ 4) × (r4 ≡ r)) ⊎ (role1 e ≡ Some r))) → role 3 ≡ Some r3 → role 4 ≡ Some r4 → (b : Bearing S) → c ≡ b → (y : Site)
              → ((i : ℕ) × (r : Role) × (role i ≡ Some r) × (r.task ≡ 3) × (r.site ≡ y) × (last_two y ≡ Some i)) ⊎ (((i : ℕ) (r : Role) → role i ≡ Some r → r.task ≡ 3 → r.site ≢ y) × (last_two y ≡ b.last y))
          last_at2 role role_at is is2 b one itself = inl (3, r3, is, refl, refl, refl)
          last_at2 role role_at is is2 b one (on zero) = inl (4, r4, is2, refl, refl, refl)
          last_at2 role role_at is is2 b one (on (suc y)) = inr (
            (λ i r h q site. elim (role_at i r h) [
              | inl p ↦ (let z : itself ≡ on (suc y) = ap (λ (z : Role). z.site) p.1 ∙ site in let bad : ⊥ = cc in bad)
              | inr w ↦ elim w [
                | inl p ↦ (let z : on 0 ≡ on (suc y) = ap (λ (z : Role). z.site) p.1 ∙ site in let bad : ⊥ = cc in bad)
                | inr old ↦ old_task i r old q
              ]
            ]),
            ap (λ (z : Bearing S). z.last (on (suc y))) one,
          )

      -- the first task is taken; when it has ended, it gives up the cell
      abbrev v18 : Sight S
      v18 = record v17 { ready = 1 ∷ 0 ∷ [] }

      g10 : FieldAt P main first IsJob 7 net4 (λ e. false) role3 k17 (v18 ∷ [])
      g10 =
          let is : g9.field.role 1 ≡ Some r1 = ap (λ (z : ℕ → Option Role). z 1) g9.same_role in
          let g = ready_field P main first IsJob 7 k17 (v17 ∷ []) g9.field 0 v17 v18 refl (record { words = refl; bears = refl; makes = refl; loaded = refl; joined = refl; owes = refl }) 1 r1.path (of_entry r1 is refl refl) refl refl refl refl in
          record { field = g.field; same_net = g.same_net ∙ g9.same_net; same_gave = g.same_gave ∙ g9.same_gave; same_role = g.same_role ∙ g9.same_role }

      abbrev pub k18 : Parts (Job S)
      k18 = record k17 { bodies = λ e. cond (e == 1) 2 (k16.bodies e); jobs = λ e. cond (e == 1) None (k16.jobs e) }

      abbrev pub v19 : Bearing S → Sight S
      v19 x = record v18 { bears = x ∷ c2 ∷ [] }

      pub record Fetched (x : Bearing S) : Type 0 where
        pub number : x.number ≡ 1
        pub body : x.body ≡ (new_task P d.body o).body
        pub path : x.path ≡ created_now P d.body ∷ d.path
        pub last : (z : Site) → x.last z ≡ None
        pub rule : FieldAt P main first IsJob 7 net4 (λ e. false) role3 k18 (v19 x ∷ [])

      g11 : (x : Bearing S) × Fetched x
      g11 =
          let y = take_field P main first IsJob 7 k17 (v18 ∷ []) g10.field 0 v18 refl 1 (among_first refl) refl k18.bodies k18.jobs refl refl
          (λ j ne. else_ (j == 1) 2 (k16.bodies j) (apart_from j 1 ne)) (λ j ne. else_ (j == 1) None (k16.jobs j) (apart_from j 1 ne)) in
          let x = y.1 in
          let g = y.5 (v19 x) (record { words = refl; makes = refl; ready = refl; joined = refl; owes = refl; seen = refl }) refl refl refl in
          let same : j1 ≡ y.0 = some_same j1 y.0 y.3 in
          let role = g.same_role ∙ g10.same_role in
          let mine = g.field.borne 0 (v19 x) refl 0 x refl in (
            x,
            record {
              number = y.2;
              body = sym y.4.body ∙ ap (λ (j : Job S). j.body) (sym same);
              path = path_one g.field.role (ap (λ (z : ℕ → Option Role). z 1) role) x.number x.path y.2 mine.number;
              last = λ z. sym (y.4.last z) ∙ ap (λ (j : Job S). j.last z) (sym same);
              rule = record { field = g.field; same_net = g.same_net ∙ g10.same_net; same_gave = g.same_gave ∙ g10.same_gave; same_role = role };
            },
          )
        where
          path_one : (role : ℕ → Option Role) → role 1 ≡ Some r1 → (i : ℕ) (p : List ℕ) → i ≡ 1 → IsNumberOf role i p → p ≡ created_now P d.body ∷ d.path
          path_one role at_ i p one of_main = let z : 0 ≡ 1 = one in absurd (omega (arith, z))
          path_one role at_ i p one (of_entry r is site path) = sym path ∙ ap (λ (z : Role). z.path) (some_same r r1 (sym is ∙ ap role one ∙ at_))

      module _ (x : Bearing S) (y : Fetched x) (over : is_ended P (new_task P (record { start = main; found = [] }) o).body ≡ true) (nowait : (new_task P (record { start = main; found = [] }) o).body.start.order.wait ≡ false) where
        body : x.body ≡ (new_task P b0 o).body
        body = y.body ∙ ap (λ (z : Body S). (new_task P z o).body) t.body

        -- by the give reads, writes and clear are sent along
        abbrev k20 : Parts (Job S)
        k20 = record k18 { states = λ e. cond (e == 2) (record open_flags { linked = true; next = 4; given = true; done = true }) (k13.states e) }

        abbrev gave2 : ℕ → Bool
        gave2 e = cond (e == 2) true false

        abbrev v20 : Sight S
        v20 = record (v19 x) { words = record first_view { held = record { entry = 4; flag = 3 } ∷ record { entry = 4; flag = 4 } ∷ record { entry = 4; flag = 5 } ∷ [] } }

        gives : Gives k18.states k20.states k18.infos 2 (v19 x).words v20.words
        gives =
            record {
              empty = refl;
              full = refl;
              childless = refl;
              stays = refl;
              sets = refl;
              others = λ j ne. else_ (j == 2) (record open_flags { linked = true; next = 4; given = true; done = true }) (k13.states j) (apart_from j 2 ne) ∙ sym (else_ (j == 2) (record open_flags { linked = true; next = 4 }) (k13.states j) (apart_from j 2 ne));
              sends = refl;
              whole = refl;
            }

        g12 : FieldAt P main first IsJob 7 net4 gave2 role3 k20 (v20 ∷ [])
        g12 =
            let f = y.rule.field in
            let is : f.role 2 ≡ Some r2 = ap (λ (z : ℕ → Option Role). z 2) y.rule.same_role in
            let hangs : f.net.place 2 ≢ apart = λ h. let z : top ≡ apart = ap (λ (n : Net). n.place 2) (sym y.rule.same_net) ∙ h in let bad : ⊥ = cc in bad in
            let up : GivesUp f.gave gave2 2 = record { now = refl; same = λ j ne. else_ (j == 2) true false (apart_from j 2 ne) ∙ ap (λ (z : ℕ → Bool). z j) (sym y.rule.same_gave) } in
            let step : JobGoes (v19 x) v20 0 x x = record { has = refl; bears = refl; number = refl; path = refl; last = refl; start = refl; makes = refl; ready = refl; joined = refl } in
            let right : right_of x.body.start.context 0 ≡ Holds Write strong = ap (λ (z : Body S). right_of z.start.context 0) body ∙ right0 in
            let g = gives_keep S (Job S) IsJob P main first 7 k18 (v19 x ∷ []) f 0 (v19 x) v20 0 x x x.body 2 r2 k20.states gave2 0 Write strong (record {
              up = record {
                entry = record {
                  with_job = record { sits = refl; job = step; alone = still_there };
                  loaded = λ a h. elim h [ ];
                  body = refl;
                  is = is;
                  path = sym y.path;
                  owes = refl;
                  none = refl;
                  seen = refl;
                };
                hangs = hangs;
                ungiven = refl;
                gives = up;
                word = at_once gives;
                still = λ a h. elim h [ ];
              };
              site = refl;
              right = right;
              no_fold = λ p h. let z : Holds Write strong ≡ Holds (Fold p) true = sym right ∙ h in let bad : ⊥ = cc in bad;
              may = ended (ap (λ (z : Body S). is_ended P z) body ∙ over) (λ w. let z : false ≡ true = sym nowait ∙ ap (λ (u : Body S). u.start.order.wait) (sym body) ∙ w in absurd (let bad : ⊥ = cc in bad));
            }) in
            record { field = g.field; same_net = g.same_net ∙ y.rule.same_net; same_gave = g.same_gave; same_role = g.same_role ∙ y.rule.same_role }

        -- reads is delivered: a count down is owed
        abbrev k21 : Parts (Job S)
        k21 = record k20 { states = λ e. cond (e == 4) (record no_flags { reads = true }) (k20.states e) }

        abbrev v21 : Sight S
        v21 = record (v19 x) { words = record first_view { held = record { entry = 4; flag = 4 } ∷ record { entry = 4; flag = 5 } ∷ [] }; owes = 3 ∷ [] }

        later : (b : Message) → Has b (record { entry = 4; flag = 4 } ∷ record { entry = 4; flag = 5 } ∷ []) → (net4.depth b.entry ≡ net4.depth 4) × (3 < b.flag)
        later b (head e f) = (ap (λ (z : ℕ). net4.depth z) (sym e), omega (arith, f))
        later b (tail (head e f)) = (ap (λ (z : ℕ). net4.depth z) (sym e), omega (arith, f))
        later b (tail (tail h)) = elim h [ ]

        and_true : (b : Bool) → num b + 0 ≡ num (b && true)
        and_true true = refl
        and_true false = refl

        g13 : FieldAt P main first IsJob 7 net4 gave2 role3 k21 (v21 ∷ [])
        g13 =
            let d0 : Delivers net4 k20.states k21.states k20.infos (record { entry = 4; flag = 3 }) (record { entry = 4; flag = 4 } ∷ record { entry = 4; flag = 5 } ∷ []) v20.words v21.words = record {
              took = λ h. refl;
              first = λ b h. inr (later b h);
              full = refl;
              sets = sets_reads refl refl;
              others = λ j ne. else_ (j == 4) (record no_flags { reads = true }) (k20.states j) (apart_from j 4 ne);
              sends = refl;
              whole = refl;
            } in
            let g = deliveries_keep S (Job S) IsJob P main first 7 k20 (v20 ∷ []) g12.field 0 v20 v21 (record { entry = 4; flag = 3 }) (record { entry = 4; flag = 4 } ∷ record { entry = 4; flag = 5 } ∷ []) k21.states (record {
              sits = refl;
              word = subst (λ (n : Net). Delivers n k20.states k21.states k20.infos (record { entry = 4; flag = 3 }) (record { entry = 4; flag = 4 } ∷ record { entry = 4; flag = 5 } ∷ []) v20.words v21.words) (sym g12.same_net) d0;
              none = refl;
              owes = λ i. let z = and_true (3 == i) in omega (arith, z);
              same = record { bears = refl; makes = refl; ready = refl; loaded = refl; joined = refl; seen = refl; still = refl };
            }) in
            record { field = g.field; same_net = g.same_net ∙ g12.same_net; same_gave = g.same_gave ∙ g12.same_gave; same_role = g.same_role ∙ g12.same_role }

        -- the count goes down to 0
        abbrev k22 : Parts (Job S)
        k22 = record k21 { counts = λ e. cond (e == 3) 0 (k8.counts e) }

        abbrev v22 : Sight S
        v22 = record v21 { owes = [] }

        flip : (i : ℕ) → num (i == 3) ≡ num (3 == i) + 0
        flip i = elim (eqb_tells i 3) [
          | inl q ↦ (let a : num (i == 3) ≡ 1 = ap num q.0 in let b : num (3 == i) ≡ 1 = ap (λ (z : ℕ). num (3 == z)) q.1 in omega (arith, a, b))
          | inr q ↦ (let a : num (i == 3) ≡ 0 = ap num q.0 in let b : num (3 == i) ≡ 0 = ap num (apart_from 3 i (λ e. q.1 (sym e))) in omega (arith, a, b))
        ]

        g14 : FieldAt P main first IsJob 7 net4 gave2 role3 k22 (v22 ∷ [])
        g14 =
            let g = count_downs_keep S (Job S) IsJob P main first 7 k21 (v21 ∷ []) g13.field 0 v21 v22 3 k22.counts (record {
              sits = refl;
              due = omega (arith);
              owes = λ j. let z = flip j in omega (arith, z);
              down = refl;
              others = λ j ne. else_ (j == 3) 0 (k8.counts j) (apart_from j 3 ne) ∙ sym (else_ (j == 3) 1 (k8.counts j) (apart_from j 3 ne));
              words = refl;
              same = record { bears = refl; makes = refl; ready = refl; loaded = refl; joined = refl; seen = refl; still = refl };
            }) in
            record { field = g.field; same_net = g.same_net ∙ g13.same_net; same_gave = g.same_gave ∙ g13.same_gave; same_role = g.same_role ∙ g13.same_role }

        -- and is found to be 0: the second task is ready
        abbrev v23 : Sight S
        v23 = record v22 { ready = 3 ∷ 1 ∷ 0 ∷ [] }

        g15 : FieldAt P main first IsJob 7 net4 gave2 role3 k22 (v23 ∷ [])
        g15 =
            let g = count_reads_keep S (Job S) IsJob P main first 7 k22 (v22 ∷ []) g14.field 0 v22 v23 3 (record { sits = refl; inside = omega (arith); spent = refl; ready = refl; seen = refl; still = refl; same = record { words = refl; bears = refl; makes = refl; loaded = refl; joined = refl; owes = refl } }) in
            record { field = g.field; same_net = g.same_net ∙ g14.same_net; same_gave = g.same_gave ∙ g14.same_gave; same_role = g.same_role ∙ g14.same_role }
