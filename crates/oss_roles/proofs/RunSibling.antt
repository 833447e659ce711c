-- The run of `RunFold` goes on from where the first task is opened: main makes a second task, which writes another cell. This one has made the first
-- half of a fold into its cell when the first task's value is joined into the other cell. Then the second half is made, with what the first found.
use Rattle.std.proofs.Common.{◌≡◌, ◌≢◌, ◌⊎◌, inl, inr, sym, subst, refl, ◌∙◌, ap, ℕ, ◌+◌, zero, suc, arith, Bool, true, false, List, [], ◌∷◌, Option, Some, None}
use Rattle.std.specs.Prelude.{◌==◌, ◌&&◌, cond, slice_index, slice_set}
use Rattle.std.proofs.lemmas.Bool.Decides.{eqb_tells}
use Rattle.oss_syntax.specs.declared.access.Mode.{Mode}
use Rattle.oss_syntax.specs.declared.access.Mode.TheVariants.{Read, Write, Fold}
use Rattle.oss_syntax.specs.declared.access.Op.{Op}
use Rattle.oss_syntax.specs.declared.access.Op.TheVariants.{Add}
use Rattle.oss_model.specs.Agreement.{Setting}
use Rattle.oss_model.specs.Bodies.{Order, Program, Start, Body}
use Rattle.oss_model.specs.Bodies.Act.{Created, Folded}
use Rattle.oss_model.specs.Context.{right_of}
use Rattle.oss_model.specs.Moves.{act_now, created_now, is_ended, combine, new_task, slot_of}
use Rattle.oss_model.specs.Rights.{Holds}
use Rattle.oss_words.specs.declared.entry.EntryInfo.{EntryInfo}
use Rattle.oss_words.specs.declared.entry.EntryState.{EntryState}
use Rattle.oss_words.specs.Causes.{sets_reads}
use Rattle.oss_words.specs.Members.{head}
use Rattle.oss_words.specs.Net.{Net, Place, Adds, apart, top, first as first_place, after, behind_last, first_of_main}
use Rattle.oss_words.specs.Steps.{no_flags, Fills, Begun, Links, to_sibling, Delivers, GivesUp, Leaves, JoinsGives}
use Rattle.oss_words.specs.Sums.{num}
use Rattle.oss_words.specs.Views.{first_view, Among, among_first, among_later}
use Rattle.oss_roles.specs.Alone.{with_answer}
use Rattle.oss_roles.specs.Field.{FieldAt, Parts, IsNumberOf, of_main, of_entry, going, is_put}
use Rattle.oss_roles.specs.JobSteps.{folds, StaysLoaded, of_other, of_this}
use Rattle.oss_roles.specs.MakeSteps.{after_last, begins_list}
use Rattle.oss_roles.specs.Numbers.{entry_number, has_cell}
use Rattle.oss_roles.specs.Passing.{still_there}
use Rattle.oss_roles.specs.Roles.{Role, Site, itself, on, Plans}
use Rattle.oss_roles.specs.Sights.{Bearing, Making, Noted, Sight}
use Rattle.oss_roles.specs.WordSteps.{joins_at_once}
use Rattle.oss_roles.proofs.CallLemmas.{fresh_path}
use Rattle.oss_roles.proofs.JobClaims.{leaves_keep, own_acts_keep, stores_keep, values_keep}
use Rattle.oss_roles.proofs.MakeClaims.{first_puts_keep, plans_keep, fills_keep, links_keep, openings_keep, takes_keep}
use Rattle.oss_roles.proofs.WordClaims.{count_reads_keep, deliveries_keep, joined_gives_keep, joins_keep}
use Rattle.oss_roles.proofs.RunFold as run
use Rattle.oss_roles.proofs.RunFold.{Job, IsJob}
use Rattle.oss_roles.proofs.RunWrite.{when, else_, apart_from, among_one, some_same}

module _ {S : Type 0} (P : Program S) (main : Start S) (first : List ℕ) (setting : Setting main first) (infos : ℕ → EntryInfo) (values cell_of : ℕ → ℕ) (o : Order S)
    (act0 : act_now P (record { start = main; found = [] }) ≡ Created o false)
    (right0 : right_of (new_task P (record { start = main; found = [] }) o).body.start.context 0 ≡ Holds (Fold Add) true)
    (only0 : (c : ℕ) (m : Mode) (s : Bool) → right_of (new_task P (record { start = main; found = [] }) o).body.start.context c ≡ Holds m s → c ≡ 0) where
  abbrev b0 : Body S
  b0 = record { start = main; found = [] }

  module _ (d : Bearing S) (t : run.Taken P main first setting infos values cell_of o act0 right0 only0 d) where
    abbrev r1 : Role
    r1 = run.r1 P main first setting infos values cell_of o act0 right0 only0 d t

    abbrev r2 : Role
    r2 = run.r2 P main first setting infos values cell_of o act0 right0 only0 d t

    abbrev role1 : ℕ → Option Role
    role1 = run.role1 P main first setting infos values cell_of o act0 right0 only0 d t

    role_is : (e : ℕ) (r : Role) → role1 e ≡ Some r → ((e ≡ 1) × (r1 ≡ r)) ⊎ ((e ≡ 2) × (r2 ≡ r))
    role_is e r h = run.role_is P main first setting infos values cell_of o act0 right0 only0 d t e r h

    abbrev open_flags : EntryState
    open_flags = run.open_flags P main first setting infos values cell_of o act0 right0 only0 d t

    abbrev net2 : Net
    net2 = run.net2 P main first setting infos values cell_of o act0 right0 only0 d t

    abbrev j1 : Job S
    j1 = run.j1 P main first setting infos values cell_of o act0 right0 only0 d t

    abbrev c : Bearing S
    c = run.c P main first setting infos values cell_of o act0 right0 only0 d t

    abbrev v8 : Sight S
    v8 = run.v8 P main first setting infos values cell_of o act0 right0 only0 d t

    abbrev k8 : Parts (Job S)
    k8 = run.k8 P main first setting infos values cell_of o act0 right0 only0 d t

    f8 : FieldAt P main first IsJob 5 net2 (λ e. false) role1 k8 (v8 ∷ [])
    f8 = run.f8 P main first setting infos values cell_of o act0 right0 only0 d t

    -- main makes a second task, which writes cell 1
    module _ (o2 : Order S) (act2 : act_now P (with_answer 0 (record { start = main; found = [] })) ≡ Created o2 false)
        (right2 : right_of (new_task P (with_answer 0 (record { start = main; found = [] })) o2).body.start.context 1 ≡ Holds Write true)
        (only2 : (e : ℕ) (m : Mode) (s : Bool) → right_of (new_task P (with_answer 0 (record { start = main; found = [] })) o2).body.start.context e ≡ Holds m s → e ≡ 1)
        (none2 : has_cell (right_of (new_task P (with_answer 0 (record { start = main; found = [] })) o2).body.start.context 0) ≡ false) where
      act : act_now P c.body ≡ Created o2 false
      act = ap (λ (z : Body S). act_now P (with_answer 0 z)) t.body ∙ act2

      right_now : (e : ℕ) (m : Mode) (s : Bool) → right_of (new_task P c.body o2).body.start.context e ≡ Holds m s → (1 ≡ e) × (Write ≡ m) × (true ≡ s)
      right_now e m s h =
          let h0 = subst (λ (z : Body S). right_of (new_task P (with_answer 0 z) o2).body.start.context e ≡ Holds m s) t.body h in
          let one_is : e ≡ 1 = only2 e m s h0 in
          let q : Holds Write true ≡ Holds m s = sym right2 ∙ ap (λ (z : ℕ). right_of (new_task P (with_answer 0 b0) o2).body.start.context z) (sym one_is) ∙ h0 in
          (sym one_is, cc, cc)

      -- so its entry on cell 1 is the one behind its own
      numbered : 4 ≡ entry_number 3 (right_of (new_task P c.body o2).body.start.context) 1
      numbered = ap (λ (b : Bool). 3 + 1 + (num b + 0)) (sym (ap (λ (z : Body S). has_cell (right_of (new_task P (with_answer 0 z) o2).body.start.context 0)) t.body ∙ none2))

      abbrev r3 : Role
      r3 = record { path = created_now P c.body ∷ c.path; site = itself; task = 3; mode = Read; strong = false; counts = false }

      abbrev r4 : Role
      r4 = record { path = created_now P c.body ∷ c.path; site = on 1; task = 3; mode = Write; strong = true; counts = false }

      abbrev role3 : ℕ → Option Role
      role3 e = cond (e == 3) (Some r3) (cond (e == 4) (Some r4) (role1 e))

      role3_is : (e : ℕ) (r : Role) → role3 e ≡ Some r → ((e ≡ 3) × (r3 ≡ r)) ⊎ (((e ≡ 4) × (r4 ≡ r)) ⊎ (role1 e ≡ Some r))
      role3_is e r h = elim (eqb_tells e 3) [
        | inl q ↦ inl (q.1, some_same r3 r (sym (when (e == 3) (Some r3) (cond (e == 4) (Some r4) (role1 e)) q.0) ∙ h))
        | inr q ↦
            let k : cond (e == 4) (Some r4) (role1 e) ≡ Some r = sym (else_ (e == 3) (Some r3) (cond (e == 4) (Some r4) (role1 e)) q.0) ∙ h in
            elim (eqb_tells e 4) [
              | inl p ↦ inr (inl (p.1, some_same r4 r (sym (when (e == 4) (Some r4) (role1 e) p.0) ∙ k)))
              | inr p ↦ inr (inr (sym (else_ (e == 4) (Some r4) (role1 e) p.0) ∙ k))
            ]
      ]

      apart_sites : {X : Type 0} {e : ℕ} → itself ≡ on e → X
      apart_sites h = absurd (let bad : ⊥ = cc in bad)

      uncounted : (e : ℕ) (r : Role) → role3 e ≡ Some r → r.counts ≡ false
      uncounted e r h = elim (role3_is e r h) [
        | inl q ↦ ap (λ (w : Role). w.counts) (sym q.1)
        | inr q ↦ elim q [
          | inl p ↦ ap (λ (w : Role). w.counts) (sym p.1)
          | inr old ↦ run.uncounted P main first setting infos values cell_of o act0 right0 only0 d t e r old
        ]
      ]

      plans3 : ((e : ℕ) (r : Role) → role1 e ≡ Some r → r.path ≢ created_now P c.body ∷ c.path) → Plans net2 role1 role3 3 (created_now P c.body ∷ c.path)
      plans3 fresh =
          record {
            each = λ e. elim (eqb_tells e 3) [
              | inl q ↦ inr (ap role1 q.1, r3, when (e == 3) (Some r3) (cond (e == 4) (Some r4) (role1 e)) q.0, refl, refl, ap (λ (z : ℕ). net2.place z) q.1)
              | inr q ↦ elim (eqb_tells e 4) [
                | inl p ↦ inr (ap role1 p.1, r4, else_ (e == 3) (Some r3) (cond (e == 4) (Some r4) (role1 e)) q.0 ∙ when (e == 4) (Some r4) (role1 e) p.0, refl, refl, ap (λ (z : ℕ). net2.place z) p.1)
                | inr p ↦ inl (else_ (e == 3) (Some r3) (cond (e == 4) (Some r4) (role1 e)) q.0 ∙ else_ (e == 4) (Some r4) (role1 e) p.0)
              ]
            ];
            fresh = fresh;
            own = (r3, refl, refl, refl);
            unused = refl;
            not_main = refl;
            child = (created_now P c.body, c.path, refl);
            one = λ e f r q a b x y z. elim (role3_is e r a) [
              | inl h ↦ elim (role3_is f q b) [
                | inl g ↦ h.0 ∙ sym g.0
                | inr k ↦ elim k [
                  | inl g ↦ apart_sites (ap (λ (w : Role). w.site) h.1 ∙ z ∙ ap (λ (w : Role). w.site) (sym g.1))
                  | inr old ↦ absurd (fresh f q old y)
                ]
              ]
              | inr j ↦ elim j [
                | inl h ↦ elim (role3_is f q b) [
                  | inl g ↦ apart_sites (sym (ap (λ (w : Role). w.site) h.1 ∙ z ∙ ap (λ (w : Role). w.site) (sym g.1)))
                  | inr k ↦ elim k [
                    | inl g ↦ h.0 ∙ sym g.0
                    | inr old ↦ absurd (fresh f q old y)
                  ]
                ]
                | inr old ↦ absurd (fresh e r old x)
              ]
            ];
          }

      abbrev making : ℕ → Making
      making stage = record { by = 0; task = 3; stage = stage }

      abbrev u : ℕ → Sight S
      u stage = record v8 { makes = making stage ∷ [] }

      making_first : (s : ℕ) → Among (making s) (u s).makes
      making_first s = among_first refl

      abbrev k14 : Parts (Job S)
      k14 = record k8 { counts = λ e. cond (e == 3) 1 (k8.counts e) }

      g1 : FieldAt P main first IsJob 5 net2 (λ e. false) role3 k14 (u 0 ∷ [])
      g1 =
          let f = f8.field in
          let fresh : (e : ℕ) (r : Role) → role1 e ≡ Some r → r.path ≢ created_now P c.body ∷ c.path = λ e r h. fresh_path P main first IsJob 5 k8 (v8 ∷ []) f 0 0 v8 c refl refl (λ a among. elim among [ ]) e r (ap (λ (z : ℕ → Option Role). z e) f8.same_role ∙ h) in
          let plans' = subst (λ (n : Net). Plans n f.role role3 3 (created_now P c.body ∷ c.path)) (sym f8.same_net) (subst (λ (z : ℕ → Option Role). Plans net2 z role3 3 (created_now P c.body ∷ c.path)) (sym f8.same_role) (plans3 fresh)) in
          let g = plans_keep S (Job S) IsJob P main first 5 k8 (v8 ∷ []) f 0 v8 (u 0) 0 c o2 3 role3 (making 0) k14.counts (record {
            sits = refl;
            has = refl;
            act = act;
            plans = plans';
            inside = λ e r h. elim (role3_is e r h) [
              | inl q ↦ (let z = q.0 in omega (arith, z))
              | inr k ↦ elim k [
                | inl q ↦ (let z = q.0 in omega (arith, z))
                | inr old ↦ elim (role_is e r old) [ inl p ↦ (let z = p.0 in omega (arith, z)) | inr p ↦ (let z = p.0 in omega (arith, z)) ]
              ]
            ];
            access = λ e m s h. let w = right_now e m s h in (
              4,
              r4,
              refl,
              refl,
              ap (λ (z : ℕ). on z) w.0,
              refl,
              w.1,
              w.2,
              numbered ∙ ap (λ (z : ℕ). entry_number 3 (right_of (new_task P c.body o2).body.start.context) z) w.0,
            );
            strongly = λ e r h p counted. let z : false ≡ true = sym (uncounted e r h) ∙ counted in absurd (let bad : ⊥ = cc in bad);
            by = t.number;
            task = refl;
            stage = refl;
            filled = refl;
            others = λ j ne. else_ (j == 3) 1 (k8.counts j) (apart_from j 3 ne);
            bears = refl;
            makes = refl;
            same = record { words = refl; owes = refl; joined = refl; ready = refl; loaded = refl; seen = refl; still = refl };
          }) in
          record { field = g.field; same_net = g.same_net ∙ f8.same_net; same_gave = g.same_gave ∙ f8.same_gave; same_role = g.same_role }

      -- its info word is filled
      abbrev info3 : EntryInfo
      info3 = record { mode = Read; strong = false; depth = 1; parent = 0; task = 3 }

      abbrev k15 : Parts (Job S)
      k15 = record k14 { infos = λ e. cond (e == 3) info3 (k8.infos e) }

      g2 : FieldAt P main first IsJob 5 net2 (λ e. false) role3 k15 (u 0 ∷ [])
      g2 =
          let fills' : Fills 5 net2 k14.states k14.states k14.infos k15.infos 3 = record {
            inside = omega (arith);
            loose = refl;
            blank_before = record { linked = refl; headed = refl; left = refl; folds = refl; reads = refl; writes = refl; clear = refl };
            blank_now = record { linked = refl; headed = refl; left = refl; folds = refl; reads = refl; writes = refl; clear = refl };
            undone = refl;
            ungiven_before = refl;
            ungiven = refl;
            once = inl refl;
            others = λ j ne. refl;
            other_infos = λ j ne. else_ (j == 3) info3 (k8.infos j) (apart_from j 3 ne);
          } in
          let g = fills_keep S (Job S) IsJob P main first 5 k14 (u 0 ∷ []) g1.field 3 k14.states k15.infos k14.cell_of (record {
            fills = subst (λ (n : Net). Fills 5 n k14.states k14.states k14.infos k15.infos 3) (sym g1.same_net) fills';
            cells = λ j ne. refl;
            flags = inl (refl, refl);
          }) in
          record { field = g.field; same_net = g.same_net ∙ g1.same_net; same_gave = g.same_gave ∙ g1.same_gave; same_role = g.same_role ∙ g1.same_role }

      -- and all words of the entry on its cell
      abbrev info4 : EntryInfo
      info4 = record { mode = Write; strong = true; depth = 1; parent = 0; task = 3 }

      abbrev k15b : Parts (Job S)
      k15b = record k15 { states = λ e. cond (e == 4) open_flags (k8.states e); infos = λ e. cond (e == 4) info4 (k15.infos e); cell_of = λ e. cond (e == 4) 1 (k8.cell_of e) }

      g2b : FieldAt P main first IsJob 5 net2 (λ e. false) role3 k15b (u 0 ∷ [])
      g2b =
          let fills' : Fills 5 net2 k15.states k15b.states k15.infos k15b.infos 4 = record {
            inside = omega (arith);
            loose = refl;
            blank_before = record { linked = refl; headed = refl; left = refl; folds = refl; reads = refl; writes = refl; clear = refl };
            blank_now = record { linked = refl; headed = refl; left = refl; folds = refl; reads = refl; writes = refl; clear = refl };
            undone = refl;
            ungiven_before = refl;
            ungiven = refl;
            once = inr refl;
            others = λ j ne. else_ (j == 4) open_flags (k8.states j) (apart_from j 4 ne);
            other_infos = λ j ne. else_ (j == 4) info4 (k15.infos j) (apart_from j 4 ne);
          } in
          let g = fills_keep S (Job S) IsJob P main first 5 k15 (u 0 ∷ []) g2.field 4 k15b.states k15b.infos k15b.cell_of (record {
            fills = subst (λ (n : Net). Fills 5 n k15.states k15b.states k15.infos k15b.infos 4) (sym g2.same_net) fills';
            cells = λ j ne. else_ (j == 4) 1 (k8.cell_of j) (apart_from j 4 ne);
            flags = inr (λ r h. uncounted 4 r (sym (ap (λ (z : ℕ → Option Role). z 4) g2.same_role) ∙ h));
          }) in
          record { field = g.field; same_net = g.same_net ∙ g2.same_net; same_gave = g.same_gave ∙ g2.same_gave; same_role = g.same_role ∙ g2.same_role }

      -- its own entry is linked behind that of the first task, and gets reads
      abbrev net3 : Net
      net3 = record { place = λ e. cond (e == 3) (after 1) (net2.place e); parent = λ e. 0; lead = λ e. cond (e == 3) 1 e; depth = λ e. cond (e == 3) 1 (net2.depth e); mode = λ e. cond (e == 3) Read (net2.mode e); last = λ e. cond (e == 0) 3 0 }

      abbrev linked1 : EntryState
      linked1 = record open_flags { linked = true; next = 3 }

      abbrev k16 : Parts (Job S)
      k16 = record k15b { states = λ e. cond (e == 1) linked1 (k15b.states e) }

      abbrev w16 : Sight S
      w16 = record (u 0) { words = record first_view { held = record { entry = 3; flag = 3 } ∷ [] } }

      never_after : (j : ℕ) → net2.place j ≢ after 1
      never_after j h = elim (eqb_tells j 2) [
        | inl q ↦ (let z : top ≡ after 1 = sym (when (j == 2) top (cond (j == 1) top apart) q.0) ∙ h in absurd (let bad : ⊥ = cc in bad))
        | inr q ↦ elim (eqb_tells j 1) [
          | inl p ↦ (let z : top ≡ after 1 = sym (else_ (j == 2) top (cond (j == 1) top apart) q.0 ∙ when (j == 1) top apart p.0) ∙ h in absurd (let bad : ⊥ = cc in bad))
          | inr p ↦ (let z : apart ≡ after 1 = sym (else_ (j == 2) top (cond (j == 1) top apart) q.0 ∙ else_ (j == 1) top apart p.0) ∙ h in absurd (let bad : ⊥ = cc in bad))
        ]
      ]

      links3 : Links 5 net2 net3 k15b.states k16.states k15b.infos 1 3 (u 0).words w16.words
      links3 =
          record {
            adds = record {
              fresh = refl;
              not_main = λ h. let z : 3 ≡ 0 = h in absurd (omega (arith, z));
              place = λ j ne. else_ (j == 3) (after 1) (net2.place j) (apart_from j 3 ne);
              parent = λ j ne. refl;
              lead = λ j ne. else_ (j == 3) 1 j (apart_from j 3 ne);
              depth = λ j ne. else_ (j == 3) 1 (net2.depth j) (apart_from j 3 ne);
              mode = λ j ne. else_ (j == 3) Read (net2.mode j) (apart_from j 3 ne);
              last = λ q ne. else_ (q == 0) 3 0 (apart_from q 0 ne) ∙ sym (else_ (q == 0) 2 0 (apart_from q 0 ne));
              newest = refl;
              how = behind_last 1 refl refl refl refl (omega (arith)) (λ h. let z : top ≡ apart = h in absurd (let bad : ⊥ = cc in bad)) never_after (λ ne. absurd (ne refl));
            };
            inside = omega (arith);
            inside_new = omega (arith);
            empty = refl;
            full = refl;
            links = to_sibling refl refl false false refl;
            others = λ j ne. else_ (j == 1) linked1 (k15b.states j) (apart_from j 1 ne);
            blank = record { linked = refl; headed = refl; left = refl; folds = refl; reads = refl; writes = refl; clear = refl };
            info = refl;
            open_yet = refl;
            tells = record { mode = refl; depth = refl; shallow = omega (arith) };
            ungiven = refl;
            undone = refl;
            clears = λ h. let z : after 1 ≡ first_place 1 = h in absurd (let bad : ⊥ = cc in bad);
            above = λ h. let z : after 1 ≡ first_place 1 = h in absurd (let bad : ⊥ = cc in bad);
            covers = λ ne. absurd (ne refl);
            sibling_bits = λ h. record { folds = refl; alike = λ z. (let bad : ⊥ = cc in absurd bad); unlike = λ z p q. (let bad : ⊥ = cc in absurd bad) };
            child_bits = λ h. let z : after 1 ≡ first_place 1 = h in absurd (let bad : ⊥ = cc in bad);
            sends = refl;
            whole = refl;
          }

      g3 : FieldAt P main first IsJob 5 net3 (λ e. false) role3 k16 (w16 ∷ [])
      g3 =
          let links' = subst (λ (n : Net). Links 5 n net3 k15b.states k16.states k15b.infos 1 3 (u 0).words w16.words) (sym g2b.same_net) links3 in
          let g = links_keep S (Job S) IsJob P main first 5 k15b (u 0 ∷ []) g2b.field 0 (u 0) w16 0 c (making 0) 3 r3 net3 k16.states (record {
            sits = refl;
            has = refl;
            by = t.number;
            among = making_first 0;
            is = ap (λ (z : ℕ → Option Role). z 3) g2b.same_role;
            task = refl;
            linked = after_last 1 refl refl links';
            told = (refl, refl, refl);
            starts = λ e s. let z : false ≡ true = s in absurd (let bad : ⊥ = cc in bad);
            cell = λ e h. let z : itself ≡ on e = h in absurd (let bad : ⊥ = cc in bad);
            same = record { bears = refl; makes = refl; ready = refl; loaded = refl; joined = refl; seen = refl; still = refl };
            owes = refl;
          }) in
          record { field = g.field; same_net = g.same_net; same_gave = g.same_gave ∙ g2b.same_gave; same_role = g.same_role ∙ g2b.same_role }

      abbrev k17 : Parts (Job S)
      k17 = record k16 { states = λ e. cond (e == 3) (record no_flags { reads = true }) (k16.states e) }

      and_false : (b : Bool) → num (b && false) ≡ 0
      and_false true = refl
      and_false false = refl

      g4 : FieldAt P main first IsJob 5 net3 (λ e. false) role3 k17 (u 0 ∷ [])
      g4 =
          let delivers : Delivers net3 k16.states k17.states k16.infos (record { entry = 3; flag = 3 }) [] w16.words (u 0).words = record {
            took = λ h. refl;
            first = λ b h. elim h [ ];
            full = refl;
            sets = sets_reads refl refl;
            others = λ j ne. else_ (j == 3) (record no_flags { reads = true }) (k16.states j) (apart_from j 3 ne);
            sends = refl;
            whole = refl;
          } in
          let g = deliveries_keep S (Job S) IsJob P main first 5 k16 (w16 ∷ []) g3.field 0 w16 (u 0) (record { entry = 3; flag = 3 }) [] k17.states (record {
            sits = refl;
            word = subst (λ (n : Net). Delivers n k16.states k17.states k16.infos (record { entry = 3; flag = 3 }) [] w16.words (u 0).words) (sym g3.same_net) delivers;
            none = refl;
            owes = λ i. let z = and_false (3 == i) in omega (arith, z);
            same = record { bears = refl; makes = refl; ready = refl; loaded = refl; joined = refl; seen = refl; still = refl };
          }) in
          record { field = g.field; same_net = g.same_net ∙ g3.same_net; same_gave = g.same_gave ∙ g3.same_gave; same_role = g.same_role ∙ g3.same_role }

      -- that of its cell begins a list of main
      abbrev net4 : Net
      net4 = record { place = λ e. cond (e == 4) top (net3.place e); parent = λ e. 0; lead = net3.lead; depth = λ e. cond (e == 4) 1 (net3.depth e); mode = λ e. cond (e == 4) Write (net3.mode e); last = λ e. cond (e == 0) 4 0 }

      adds4 : Adds net3 net4 4
      adds4 =
          record {
            fresh = refl;
            not_main = λ h. let z : 4 ≡ 0 = h in absurd (omega (arith, z));
            place = λ j ne. else_ (j == 4) top (net3.place j) (apart_from j 4 ne);
            parent = λ j ne. refl;
            lead = λ j ne. refl;
            depth = λ j ne. else_ (j == 4) 1 (net3.depth j) (apart_from j 4 ne);
            mode = λ j ne. else_ (j == 4) Write (net3.mode j) (apart_from j 4 ne);
            last = λ q ne. else_ (q == 0) 4 0 (apart_from q 0 ne) ∙ sym (else_ (q == 0) 3 0 (apart_from q 0 ne));
            newest = refl;
            how = first_of_main refl refl refl refl;
          }

      begun4 : Begun 5 net3 net4 k17.states k17.infos 4
      begun4 = record { adds = adds4; begins = refl; inside = omega (arith); blank = record { linked = refl; headed = refl; left = refl; folds = refl; reads = refl; writes = refl; clear = refl }; info = refl; open_yet = refl; tells = record { mode = refl; depth = refl; shallow = omega (arith) }; ungiven = refl; undone = refl; reads = refl; writes = refl; folds = refl; clear = refl }

      g4b : FieldAt P main first IsJob 5 net4 (λ e. false) role3 k17 (u 0 ∷ [])
      g4b =
          let begun' = subst (λ (n : Net). Begun 5 n net4 k17.states k17.infos 4) (sym g4.same_net) begun4 in
          let g = links_keep S (Job S) IsJob P main first 5 k17 (u 0 ∷ []) g4.field 0 (u 0) (u 0) 0 c (making 0) 4 r4 net4 k17.states (record {
            sits = refl;
            has = refl;
            by = t.number;
            among = making_first 0;
            is = ap (λ (z : ℕ → Option Role). z 4) g4.same_role;
            task = refl;
            linked = begins_list t.path refl begun' refl refl refl;
            told = (refl, refl, refl);
            starts = λ e s. refl;
            cell = λ e h. let z : on 1 ≡ on e = h in cc;
            same = record { bears = refl; makes = refl; ready = refl; loaded = refl; joined = refl; seen = refl; still = refl };
            owes = refl;
          }) in
          record { field = g.field; same_net = g.same_net; same_gave = g.same_gave ∙ g4.same_gave; same_role = g.same_role ∙ g4.same_role }

      -- its job is put, and it is opened
      abbrev j3 : Job S
      j3 = record { task = 3; body = (new_task P c.body o2).body; last = λ q. None }

      abbrev k18 : Parts (Job S)
      k18 = record k17 { bodies = λ e. cond (e == 3) 2 (k8.bodies e) }

      abbrev k19 : Parts (Job S)
      k19 = record k17 { bodies = λ e. cond (e == 3) 1 (k8.bodies e); jobs = λ e. cond (e == 3) (Some j3) (k8.jobs e) }

      g5 : FieldAt P main first IsJob 5 net4 (λ e. false) role3 k18 (u 1 ∷ [])
      g5 =
          let g = first_puts_keep S (Job S) IsJob P main first 5 k17 (u 0 ∷ []) g4b.field 0 (u 0) (u 1) 0 c o2 (making 0) (making 1) k18.bodies k18.jobs (record {
            sits = refl;
            has = refl;
            by = t.number;
            act = act;
            among = making_first 0;
            among_now = making_first 1;
            task = refl;
            maker = refl;
            others = λ a h. inl (sym (among_one (making 1) a h));
            kept = λ a h. (making 1, making_first 1, ap (λ (q : Making). q.task) (among_one (making 0) a h));
            other_bodies = λ j ne. else_ (j == 3) 2 (k8.bodies j) (apart_from j 3 ne);
            other_jobs = λ j ne. refl;
            put = going refl refl refl;
            bears = refl;
            same = record { words = refl; owes = refl; joined = refl; ready = refl; loaded = refl; seen = refl; still = refl };
          }) in
          record { field = g.field; same_net = g.same_net ∙ g4b.same_net; same_gave = g.same_gave ∙ g4b.same_gave; same_role = g.same_role ∙ g4b.same_role }

      g6 : FieldAt P main first IsJob 5 net4 (λ e. false) role3 k19 (u 2 ∷ [])
      g6 =
          let g = first_puts_keep S (Job S) IsJob P main first 5 k18 (u 1 ∷ []) g5.field 0 (u 1) (u 2) 0 c o2 (making 1) (making 2) k19.bodies k19.jobs (record {
            sits = refl;
            has = refl;
            by = t.number;
            act = act;
            among = making_first 1;
            among_now = making_first 2;
            task = refl;
            maker = refl;
            others = λ a h. inl (sym (among_one (making 2) a h));
            kept = λ a h. (making 2, making_first 2, ap (λ (q : Making). q.task) (among_one (making 1) a h));
            other_bodies = λ j ne. else_ (j == 3) 1 (k8.bodies j) (apart_from j 3 ne) ∙ sym (else_ (j == 3) 2 (k8.bodies j) (apart_from j 3 ne));
            other_jobs = λ j ne. else_ (j == 3) (Some j3) (k8.jobs j) (apart_from j 3 ne);
            put = is_put j3 refl refl refl (record { task = refl; body = refl; last = λ q. refl });
            bears = refl;
            same = record { words = refl; owes = refl; joined = refl; ready = refl; loaded = refl; seen = refl; still = refl };
          }) in
          record { field = g.field; same_net = g.same_net ∙ g5.same_net; same_gave = g.same_gave ∙ g5.same_gave; same_role = g.same_role ∙ g5.same_role }

      abbrev last_two : Site → Option ℕ
      last_two itself = Some 3
      last_two (on zero) = Some 2
      last_two (on (suc zero)) = Some 4
      last_two (on (suc (suc e))) = None

      abbrev c2 : Bearing S
      c2 = record { number = d.number; path = d.path; body = with_answer 0 c.body; last = last_two }

      abbrev v20 : Sight S
      v20 = record v8 { bears = c2 ∷ [] }

      abbrev k20 : Parts (Job S)
      k20 = record k19 { counts = λ e. cond (e == 3) 0 (k8.counts e) }

      g7 : FieldAt P main first IsJob 5 net4 (λ e. false) role3 k20 (v20 ∷ [])
      g7 =
          let f = g6.field in
          let role_at : (e : ℕ) (r : Role) → f.role e ≡ Some r → ((e ≡ 3) × (r3 ≡ r)) ⊎ (((e ≡ 4) × (r4 ≡ r)) ⊎ (role1 e ≡ Some r)) = λ e r h. role3_is e r (sym (ap (λ (z : ℕ → Option Role). z e) g6.same_role) ∙ h) in
          let g = openings_keep S (Job S) IsJob P main first 5 k19 (u 2 ∷ []) f 0 (u 2) v20 0 c c2 (making 2) k20.counts (record {
            sits = refl;
            has = refl;
            by = t.number;
            among = making_first 2;
            put = refl;
            hung = λ e r h task q. hangs e r (role_at e r h) task (ap (λ (n : Net). n.place e) g6.same_net) q;
            down = refl;
            others = λ j ne. else_ (j == 3) 0 (k8.counts j) (apart_from j 3 ne) ∙ sym (else_ (j == 3) 1 (k8.counts j) (apart_from j 3 ne));
            bears = refl;
            number = refl;
            path = refl;
            body = refl;
            last = λ s. last_at f.role role_at (ap (λ (z : ℕ → Option Role). z 3) g6.same_role) (ap (λ (z : ℕ → Option Role). z 4) g6.same_role) s;
            makes = λ a h. elim h [ ];
            kept = λ a h ne. absurd (ne (sym (ap (λ (q : Making). q.task) (among_one (making 2) a h))));
            same = record { words = refl; owes = refl; joined = refl; ready = refl; loaded = refl; seen = refl; still = refl };
          }) in
          record { field = g.field; same_net = g.same_net ∙ g6.same_net; same_gave = g.same_gave ∙ g6.same_gave; same_role = g.same_role ∙ g6.same_role }
        where
          old_task : (e : ℕ) (r : Role) → role1 e ≡ Some r → r.task ≡ 3 → ⊥
          old_task e r h task = elim (role_is e r h) [
            | inl q ↦ (let n : 1 ≡ 3 = ap (λ (w : Role). w.task) q.1 ∙ task in omega (arith, n))
            | inr q ↦ (let n : 1 ≡ 3 = ap (λ (w : Role). w.task) q.1 ∙ task in omega (arith, n))
          ]

          hangs : (e : ℕ) (r : Role) → ((e ≡ 3) × (r3 ≡ r)) ⊎ (((e ≡ 4) × (r4 ≡ r)) ⊎ (role1 e ≡ Some r)) → r.task ≡ 3 → {p : Place} → p ≡ net4.place e → p ≢ apart
          hangs e r (inl is) task q h = let n : after 1 ≡ apart = sym (ap (λ (i : ℕ). net4.place i) is.0) ∙ (sym q ∙ h) in let bad : ⊥ = cc in bad
          hangs e r (inr (inl is)) task q h = let n : top ≡ apart = sym (ap (λ (i : ℕ). net4.place i) is.0) ∙ (sym q ∙ h) in let bad : ⊥ = cc in bad
          hangs e r (inr (inr old)) task q h = old_task e r old task

          not_there : (e : ℕ) → e ≢ 1 → (role : ℕ → Option Role) → ((i : ℕ) (r : Role) → role i ≡ Some r → ((i ≡ 3) × (r3 ≡ r)) ⊎ (((i ≡ 4) × (r4 ≡ r)) ⊎ (role1 i ≡ Some r))) → (i : ℕ) (r : Role) → role i ≡ Some r → r.task ≡ 3 → r.site ≢ on e
          not_there e ne role role_at i r h q site = elim (role_at i r h) [
            | inl p ↦ (let n : itself ≡ on e = ap (λ (w : Role). w.site) p.1 ∙ site in let bad : ⊥ = cc in bad)
            | inr k ↦ elim k [
              | inl p ↦ (let n : on 1 ≡ on e = ap (λ (w : Role). w.site) p.1 ∙ site in let one : 1 ≡ e = cc in ne (sym one))
              | inr old ↦ old_task i r old q
            ]
          ]

          last_at : (role : ℕ → Option Role) → ((e : ℕ) (r : Role) → role e ≡ Some r → ((e ≡ 3) × (r3 ≡ r)) ⊎ (((e ≡ 4) × (r4 ≡ r)) ⊎ (role1 e ≡ Some r))) → role 3 ≡ Some r3 → role 4 ≡ Some r4 → (s : Site)
              → ((i : ℕ) × (r : Role) × (role i ≡ Some r) × (r.task ≡ 3) × (r.site ≡ s) × (last_two s ≡ Some i)) ⊎ (((i : ℕ) (r : Role) → role i ≡ Some r → r.task ≡ 3 → r.site ≢ s) × (last_two s ≡ c.last s))
          last_at role role_at is is4 itself = inl (3, r3, is, refl, refl, refl)
          last_at role role_at is is4 (on zero) = inr (not_there 0 (λ e. omega (arith, e)) role role_at, refl)
          last_at role role_at is is4 (on (suc zero)) = inl (4, r4, is4, refl, refl, refl)
          last_at role role_at is is4 (on (suc (suc s))) = inr (not_there (suc (suc s)) (λ e. omega (arith, e)) role role_at, refl)

      -- the count of the second task is read, and its job taken
      abbrev v21 : Sight S
      v21 = record v20 { ready = 3 ∷ 0 ∷ [] }

      g8 : FieldAt P main first IsJob 5 net4 (λ e. false) role3 k20 (v21 ∷ [])
      g8 =
          let g = count_reads_keep S (Job S) IsJob P main first 5 k20 (v20 ∷ []) g7.field 0 v20 v21 3 (record { sits = refl; inside = omega (arith); spent = refl; ready = refl; seen = refl; still = refl; same = record { words = refl; bears = refl; makes = refl; loaded = refl; joined = refl; owes = refl } }) in
          record { field = g.field; same_net = g.same_net ∙ g7.same_net; same_gave = g.same_gave ∙ g7.same_gave; same_role = g.same_role ∙ g7.same_role }

      abbrev k22 : Parts (Job S)
      k22 = record k20 { bodies = λ e. cond (e == 3) 2 (k8.bodies e); jobs = k8.jobs }

      abbrev v22 : Bearing S → Sight S
      v22 q = record v21 { bears = q ∷ c2 ∷ [] }

      record Second (q : Bearing S) : Type 0 where
        number : q.number ≡ 3
        body : q.body ≡ (new_task P c.body o2).body
        rule : FieldAt P main first IsJob 5 net4 (λ e. false) role3 k22 (v22 q ∷ [])

      g9 : (q : Bearing S) × Second q
      g9 =
          let a = takes_keep S (Job S) IsJob P main first 5 k20 (v21 ∷ []) g8.field 0 v21 3 k22.bodies k22.jobs (record {
            sits = refl;
            found = among_first refl;
            one = refl;
            out = refl;
            empty = refl;
            other_bodies = λ j ne. else_ (j == 3) 2 (k8.bodies j) (apart_from j 3 ne) ∙ sym (else_ (j == 3) 1 (k8.bodies j) (apart_from j 3 ne));
            other_jobs = λ j ne. sym (else_ (j == 3) (Some j3) (k8.jobs j) (apart_from j 3 ne));
          }) in
          let q = a.bearing in
          let g = a.keeps (v22 q) (record { words = refl; makes = refl; ready = refl; joined = refl; owes = refl; seen = refl }) refl refl refl in
          let same : j3 ≡ a.job = some_same j3 a.job a.stood in (
            q,
            record {
              number = a.number;
              body = sym a.is.body ∙ ap (λ (j : Job S). j.body) (sym same);
              rule = record { field = g.field; same_net = g.same_net ∙ g8.same_net; same_gave = g.same_gave ∙ g8.same_gave; same_role = g.same_role ∙ g8.same_role };
            },
          )

      -- it makes the first half of a fold into its cell
      module _ (q : Bearing S) (two : Second q) (op : Op) (operand : ℕ) (act3 : act_now P (new_task P (with_answer 0 (record { start = main; found = [] })) o2).body ≡ Folded 1 op operand false) where
        before_fold : act_now P q.body ≡ Folded 1 op operand false
        before_fold = ap (λ (z : Body S). act_now P z) (two.body ∙ ap (λ (z : Body S). (new_task P (with_answer 0 z) o2).body) t.body) ∙ act3

        abbrev noted : Noted
        noted = record { name = q.number; value = slice_index first 1 }

        abbrev v23 : Sight S
        v23 = record (v22 q) { loaded = noted ∷ [] }

        g10 : FieldAt P main first IsJob 5 net4 (λ e. false) role3 k22 (v23 ∷ [])
        g10 =
            let g = own_acts_keep S (Job S) IsJob P main first 5 k22 (v22 q ∷ []) two.rule.field 0 (v22 q) v23 0 q q q.body (record {
              with_job = record { sits = refl; job = record { has = refl; bears = refl; number = refl; path = refl; last = refl; start = refl; makes = refl; ready = refl; joined = refl }; alone = still_there };
              same = record { words = refl; owes = refl; seen = refl; still = refl };
              loaded = found;
              body = refl;
            }) in
            record { field = g.field; same_net = g.same_net ∙ two.rule.same_net; same_gave = g.same_gave ∙ two.rule.same_gave; same_role = g.same_role ∙ two.rule.same_role }
          where
            found : (a : Noted) → Among a (noted ∷ []) → StaysLoaded P first (v22 q) q q.body a
            found a (among_first h) = subst (λ (z : Noted). StaysLoaded P first (v22 q) q q.body z) h (of_this refl 1 op operand before_fold refl)
            found a (among_later h) = elim h [ ]

        -- the first task's count is read, and its job taken
        abbrev v24 : Sight S
        v24 = record v23 { ready = 1 ∷ 3 ∷ 0 ∷ [] }

        g11 : FieldAt P main first IsJob 5 net4 (λ e. false) role3 k22 (v24 ∷ [])
        g11 =
            let g = count_reads_keep S (Job S) IsJob P main first 5 k22 (v23 ∷ []) g10.field 0 v23 v24 1 (record { sits = refl; inside = omega (arith); spent = refl; ready = refl; seen = refl; still = refl; same = record { words = refl; bears = refl; makes = refl; loaded = refl; joined = refl; owes = refl } }) in
            record { field = g.field; same_net = g.same_net ∙ g10.same_net; same_gave = g.same_gave ∙ g10.same_gave; same_role = g.same_role ∙ g10.same_role }

        abbrev k25 : Parts (Job S)
        k25 = record k22 { bodies = λ e. cond (e == 1) 2 (k22.bodies e); jobs = λ e. None }

        abbrev v25 : Bearing S → Sight S
        v25 x = record v24 { bears = x ∷ q ∷ c2 ∷ [] }

        record Fetched (x : Bearing S) : Type 0 where
          number : x.number ≡ 1
          body : x.body ≡ (new_task P d.body o).body
          path : x.path ≡ created_now P d.body ∷ d.path
          rule : FieldAt P main first IsJob 5 net4 (λ e. false) role3 k25 (v25 x ∷ [])

        g12 : (x : Bearing S) × Fetched x
        g12 =
            let a = takes_keep S (Job S) IsJob P main first 5 k22 (v24 ∷ []) g11.field 0 v24 1 k25.bodies k25.jobs (record {
              sits = refl;
              found = among_first refl;
              one = refl;
              out = refl;
              empty = refl;
              other_bodies = λ j ne. else_ (j == 1) 2 (k22.bodies j) (apart_from j 1 ne);
              other_jobs = λ j ne. sym (else_ (j == 1) (Some j1) None (apart_from j 1 ne));
            }) in
            let x = a.bearing in
            let g = a.keeps (v25 x) (record { words = refl; makes = refl; ready = refl; joined = refl; owes = refl; seen = refl }) refl refl refl in
            let same : j1 ≡ a.job = some_same j1 a.job a.stood in
            let role = g.same_role ∙ g11.same_role in
            let mine = g.field.borne 0 (v25 x) refl 0 x refl in (
              x,
              record {
                number = a.number;
                body = sym a.is.body ∙ ap (λ (j : Job S). j.body) (sym same);
                path = path_one g.field.role (ap (λ (z : ℕ → Option Role). z 1) role) x.number x.path a.number mine.number;
                rule = record { field = g.field; same_net = g.same_net ∙ g11.same_net; same_gave = g.same_gave ∙ g11.same_gave; same_role = role };
              },
            )
          where
            path_one : (role : ℕ → Option Role) → role 1 ≡ Some r1 → (i : ℕ) (p : List ℕ) → i ≡ 1 → IsNumberOf role i p → p ≡ created_now P d.body ∷ d.path
            path_one role at_ i p one of_main = let z : 0 ≡ 1 = one in absurd (omega (arith, z))
            path_one role at_ i p one (of_entry r is site path) = sym path ∙ ap (λ (z : Role). z.path) (some_same r r1 (sym is ∙ ap role one ∙ at_))

        -- the first task has ended, and leaves its value
        module _ (x : Bearing S) (y : Fetched x) (over : is_ended P (new_task P (record { start = main; found = [] }) o).body ≡ true) (nowait : (new_task P (record { start = main; found = [] }) o).body.start.order.wait ≡ false) where
          body : x.body ≡ (new_task P b0 o).body
          body = y.body ∙ ap (λ (z : Body S). (new_task P z o).body) t.body

          stays : (a : Noted) → Among a (noted ∷ []) → StaysLoaded P first (v25 x) x x.body a
          stays a h = of_other h (λ e. let z : 3 ≡ 1 = sym two.number ∙ ap (λ (n : Noted). n.name) (among_one noted a h) ∙ e ∙ y.number in omega (arith, z))

          abbrev value : ℕ
          value = slot_of P x.body.start 0 Add x.body.found

          abbrev k26 : Parts (Job S)
          k26 = record k25 { values = λ e. cond (e == 2) value (values e) }

          g13 : FieldAt P main first IsJob 5 net4 (λ e. false) role3 k26 (v25 x ∷ [])
          g13 =
              let g = values_keep S (Job S) IsJob P main first 5 k25 (v25 x ∷ []) y.rule.field 0 (v25 x) (v25 x) 0 x x x.body 2 r2 value k26.values (record {
                entry = record {
                  with_job = record { sits = refl; job = record { has = refl; bears = refl; number = refl; path = refl; last = refl; start = refl; makes = refl; ready = refl; joined = refl }; alone = still_there };
                  loaded = stays;
                  body = refl;
                  is = ap (λ (z : ℕ → Option Role). z 2) y.rule.same_role;
                  path = sym y.path;
                  owes = refl;
                  none = refl;
                  seen = refl;
                };
                words = refl;
                unleft = refl;
                value_is = refl;
                others = λ j ne. else_ (j == 2) value (values j) (apart_from j 2 ne);
                still = λ a h. elim h [ ];
              }) in
              record { field = g.field; same_net = g.same_net ∙ y.rule.same_net; same_gave = g.same_gave ∙ y.rule.same_gave; same_role = g.same_role ∙ y.rule.same_role }

          abbrev left2 : EntryState
          left2 = record open_flags { left = true }

          abbrev k27 : Parts (Job S)
          k27 = record k26 { states = λ e. cond (e == 2) left2 (k17.states e) }

          abbrev v27 : Sight S
          v27 = record (v25 x) { words = record first_view { held = record { entry = 2; flag = 0 } ∷ [] } }

          leaves2 : Leaves k26.states k27.states k26.infos 2 (v25 x).words v27.words
          leaves2 = record { empty = refl; full = refl; keeps = refl; sets = refl; others = λ j ne. else_ (j == 2) left2 (k17.states j) (apart_from j 2 ne); sends = refl; whole = refl }

          g14 : FieldAt P main first IsJob 5 net4 (λ e. false) role3 k27 (v27 ∷ [])
          g14 =
              let f = g13.field in
              let hangs : f.net.place 2 ≢ apart = λ h. let z : top ≡ apart = ap (λ (n : Net). n.place 2) (sym g13.same_net) ∙ h in let bad : ⊥ = cc in bad in
              let g = leaves_keep S (Job S) IsJob P main first 5 k26 (v25 x ∷ []) f 0 (v25 x) v27 0 x x x.body 2 r2 k27.states 0 Add (record {
                entry = record {
                  with_job = record { sits = refl; job = record { has = refl; bears = refl; number = refl; path = refl; last = refl; start = refl; makes = refl; ready = refl; joined = refl }; alone = still_there };
                  loaded = stays;
                  body = refl;
                  is = ap (λ (z : ℕ → Option Role). z 2) g13.same_role;
                  path = sym y.path;
                  owes = refl;
                  none = refl;
                  seen = refl;
                };
                hangs = hangs;
                word = leaves2;
                site = refl;
                right = ap (λ (z : Body S). right_of z.start.context 0) body ∙ right0;
                ended = ap (λ (z : Body S). is_ended P z) body ∙ over;
                wait = λ w. let z : false ≡ true = sym nowait ∙ ap (λ (b : Body S). b.start.order.wait) (sym body) ∙ w in absurd (let bad : ⊥ = cc in bad);
                value = refl;
                still = λ a h. elim h [ ];
              }) in
              record { field = g.field; same_net = g.same_net ∙ g13.same_net; same_gave = g.same_gave ∙ g13.same_gave; same_role = g.same_role ∙ g13.same_role }

          -- it is joined while the fold of the second task is pending
          abbrev k28 : Parts (Job S)
          k28 = record k27 { cells = slice_set first 0 (combine Add (slice_index first 0) value) }

          abbrev v28 : Sight S
          v28 = record v27 { joined = 2 ∷ [] }

          g15 : FieldAt P main first IsJob 5 net4 (λ e. false) role3 k28 (v28 ∷ [])
          g15 =
              let g = joins_keep S (Job S) IsJob P main first 5 k27 (v27 ∷ []) g14.field 0 v27 v28 2 0 Add (record {
                sits = refl;
                held = head refl refl;
                others = λ z h. elim h [ ];
                number = refl;
                mode = refl;
                view = record { bears = refl; makes = refl; words = refl; owes = refl; ready = refl; loaded = refl; seen = refl; still = refl; joined = refl };
              }) in
              record { field = g.field; same_net = g.same_net ∙ g14.same_net; same_gave = g.same_gave ∙ g14.same_gave; same_role = g.same_role ∙ g14.same_role }

          abbrev done2 : EntryState
          done2 = record open_flags { left = true; given = true; done = true }

          abbrev k29 : Parts (Job S)
          k29 = record k28 { states = λ e. cond (e == 2) done2 (k27.states e) }

          abbrev gave2 : ℕ → Bool
          gave2 e = cond (e == 2) true false

          joins2 : JoinsGives net4 k28.states k29.states k28.infos 2 [] v28.words (v25 x).words
          joins2 = record { took = λ h. refl; first = λ b h. elim h [ ]; full = refl; childless = refl; sets = refl; others = λ j ne. else_ (j == 2) done2 (k27.states j) (apart_from j 2 ne); sends = refl; whole = refl }

          g16 : FieldAt P main first IsJob 5 net4 gave2 role3 k29 (v25 x ∷ [])
          g16 =
              let f = g15.field in
              let up : GivesUp f.gave gave2 2 = record { now = refl; same = λ j ne. else_ (j == 2) true false (apart_from j 2 ne) ∙ ap (λ (z : ℕ → Bool). z j) (sym g15.same_gave) } in
              let g = joined_gives_keep S (Job S) IsJob P main first 5 k28 (v28 ∷ []) f 0 v28 (v25 x) 2 k29.states gave2 (record {
                sits = refl;
                joined = refl;
                none = refl;
                gives = up;
                word = joins_at_once [] (subst (λ (n : Net). JoinsGives n k28.states k29.states k28.infos 2 [] v28.words (v25 x).words) (sym g15.same_net) joins2);
                owes = refl;
                same = record { bears = refl; makes = refl; ready = refl; loaded = refl; joined = refl; seen = refl; still = refl };
              }) in
              record { field = g.field; same_net = g.same_net ∙ g15.same_net; same_gave = g.same_gave; same_role = g.same_role ∙ g15.same_role }

          -- the second half of the fold
          abbrev q1 : Bearing S
          q1 = record { number = q.number; path = q.path; body = with_answer 0 q.body; last = q.last }

          abbrev k30 : Parts (Job S)
          k30 = record k29 { cells = slice_set k28.cells 1 (combine op (slice_index k28.cells 1) operand) }

          abbrev v30 : Sight S
          v30 = record (v25 x) { bears = x ∷ q1 ∷ c2 ∷ []; loaded = [] }

          g17 : FieldAt P main first IsJob 5 net4 gave2 role3 k30 (v30 ∷ [])
          g17 =
              let g = stores_keep S (Job S) IsJob P main first 5 k29 (v25 x ∷ []) g16.field 0 (v25 x) v30 1 q q1 q.body k30.cells (record {
                with_job = record { sits = refl; job = record { has = refl; bears = refl; number = refl; path = refl; last = refl; start = refl; makes = refl; ready = refl; joined = refl }; alone = still_there };
                same = record { words = refl; owes = refl; seen = refl; still = refl };
                loaded = λ a h. elim h [ ];
                writes = folds 1 op operand before_fold refl;
                body = refl;
              }) in
              record { field = g.field; same_net = g.same_net ∙ g16.same_net; same_gave = g.same_gave ∙ g16.same_gave; same_role = g.same_role ∙ g16.same_role }
