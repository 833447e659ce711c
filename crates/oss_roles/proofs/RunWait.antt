-- The run of `RunBelow` goes on: the task below the first one is taken and ends, and gives up its cell and itself. The first task has the clause wait;
-- its seat has read that its last child is done, and so it may give up its cell, and then itself: both in two steps, since both have a child.
use Rattle.std.proofs.Common.{◌≡◌, ◌≢◌, inl, inr, sym, subst, refl, ◌∙◌, ap, ℕ, ◌+◌, arith, Bool, true, false, List, [], ◌∷◌, Option, Some, None}
use Rattle.std.specs.Prelude.{◌==◌, ◌&&◌, cond}
use Rattle.std.proofs.lemmas.Bool.Decides.{eqb_tells}
use Rattle.oss_syntax.specs.declared.access.Mode.{Mode}
use Rattle.oss_syntax.specs.declared.access.Mode.TheVariants.{Write, Fold}
use Rattle.oss_model.specs.Agreement.{Setting}
use Rattle.oss_model.specs.Bodies.{Order, Program, Start, Body}
use Rattle.oss_model.specs.Bodies.Act.{Created}
use Rattle.oss_model.specs.Context.{right_of}
use Rattle.oss_model.specs.Moves.{act_now, created_now, is_ended, new_task}
use Rattle.oss_model.specs.Rights.{Holds}
use Rattle.oss_words.specs.declared.entry.EntryInfo.{EntryInfo}
use Rattle.oss_words.specs.declared.entry.EntryState.{EntryState}
use Rattle.oss_words.specs.Causes.{sets_done}
use Rattle.oss_words.specs.Net.{Net, apart, top, first as first_place}
use Rattle.oss_words.specs.Steps.{Begins, Delivers, Gives, GivesUp, Rises}
use Rattle.oss_words.specs.Sums.{num}
use Rattle.oss_words.specs.Views.{Seen, first_view, among_first}
use Rattle.oss_roles.specs.Alone.{with_answer}
use Rattle.oss_roles.specs.Field.{FieldAt, Parts, IsNumberOf, of_main, of_entry}
use Rattle.oss_roles.specs.JobSteps.{ended, at_once, begins}
use Rattle.oss_roles.specs.Passing.{still_there, last_done}
use Rattle.oss_roles.specs.Roles.{Role, itself, on, Filed}
use Rattle.oss_roles.specs.Sights.{Bearing, Sight}
use Rattle.oss_roles.specs.Steps.{JobGoes}
use Rattle.oss_roles.proofs.JobClaims.{gives_keep, own_gives_keep}
use Rattle.oss_roles.proofs.MakeClaims.{takes_keep}
use Rattle.oss_roles.proofs.WordClaims.{count_reads_keep, count_downs_keep, creators_are_open, deliveries_keep, last_children_are_last, last_links_keep, parents_are_open, word_reads_keep}
use Rattle.oss_roles.proofs.RunBelow as below
use Rattle.oss_roles.proofs.RunStore as store
use Rattle.oss_roles.proofs.RunWrite as run
use Rattle.oss_roles.proofs.RunWrite.{Job, IsJob, else_, apart_from, some_same}

module _ {S : Type 0} (P : Program S) (main : Start S) (first : List ℕ) (setting : Setting main first) (infos : ℕ → EntryInfo) (values cell_of : ℕ → ℕ) (o : Order S)
    (act0 : act_now P (record { start = main; found = [] }) ≡ Created o false)
    (right0 : right_of (new_task P (record { start = main; found = [] }) o).body.start.context 0 ≡ Holds Write true)
    (only0 : (c : ℕ) (m : Mode) (s : Bool) → right_of (new_task P (record { start = main; found = [] }) o).body.start.context c ≡ Holds m s → c ≡ 0) where
  abbrev b0 : Body S
  b0 = run.b0 P main first setting infos values cell_of o act0 right0 only0

  module _ (d : Bearing S) (t : run.Taken P main first setting infos values cell_of o act0 right0 only0 d) where
    abbrev r1 : Role
    r1 = run.r1 P main first setting infos values cell_of o act0 right0 only0 d t

    abbrev r2 : Role
    r2 = run.r2 P main first setting infos values cell_of o act0 right0 only0 d t

    abbrev c : Bearing S
    c = run.c P main first setting infos values cell_of o act0 right0 only0 d t

    abbrev k10 : Parts (Job S)
    k10 = store.k10 P main first setting infos values cell_of o act0 right0 only0 d t

    abbrev v10 : Bearing S → Sight S
    v10 = store.v10 P main first setting infos values cell_of o act0 right0 only0 d t

    module _ (x : Bearing S) (y : store.Fetched P main first setting infos values cell_of o act0 right0 only0 d t x) (o2 : Order S) (act1 : act_now P (new_task P (record { start = main; found = [] }) o).body ≡ Created o2 false)
        (right1 : right_of (new_task P (new_task P (record { start = main; found = [] }) o).body o2).body.start.context 0 ≡ Holds Write true)
        (only1 : (e : ℕ) (m : Mode) (s : Bool) → right_of (new_task P (new_task P (record { start = main; found = [] }) o).body o2).body.start.context e ≡ Holds m s → e ≡ 0) where
      same_body : x.body ≡ (new_task P b0 o).body
      same_body = y.body ∙ ap (λ (z : Body S). (new_task P z o).body) t.body

      abbrev r3 : Role
      r3 = below.r3 P main first setting infos values cell_of o act0 right0 only0 d t x y o2 act1 right1 only1

      abbrev r4 : Role
      r4 = below.r4 P main first setting infos values cell_of o act0 right0 only0 d t x y o2 act1 right1 only1

      abbrev role3 : ℕ → Option Role
      role3 = below.role3 P main first setting infos values cell_of o act0 right0 only0 d t x y o2 act1 right1 only1

      abbrev net4 : Net
      net4 = below.net4 P main first setting infos values cell_of o act0 right0 only0 d t x y o2 act1 right1 only1

      abbrev clear_flag : EntryState
      clear_flag = below.clear_flag P main first setting infos values cell_of o act0 right0 only0 d t x y o2 act1 right1 only1

      abbrev headed1 : EntryState
      headed1 = below.headed1 P main first setting infos values cell_of o act0 right0 only0 d t x y o2 act1 right1 only1

      abbrev headed2 : EntryState
      headed2 = below.headed2 P main first setting infos values cell_of o act0 right0 only0 d t x y o2 act1 right1 only1

      abbrev j2 : Job S
      j2 = below.j2 P main first setting infos values cell_of o act0 right0 only0 d t x y o2 act1 right1 only1

      abbrev x1 : Bearing S
      x1 = below.x1 P main first setting infos values cell_of o act0 right0 only0 d t x y o2 act1 right1 only1

      abbrev v22 : Sight S
      v22 = below.v22 P main first setting infos values cell_of o act0 right0 only0 d t x y o2 act1 right1 only1

      abbrev k22 : Parts (Job S)
      k22 = below.k22 P main first setting infos values cell_of o act0 right0 only0 d t x y o2 act1 right1 only1

      g12 : FieldAt P main first IsJob 7 net4 (λ e. false) role3 k22 (v22 ∷ [])
      g12 = below.g12 P main first setting infos values cell_of o act0 right0 only0 d t x y o2 act1 right1 only1

      -- before the creation the first task's entries were not given up, and after it the child is the last one
      act : act_now P x.body ≡ Created o2 false
      act = ap (λ (z : Body S). act_now P z) same_body ∙ act1

      cell_open : (k10.states 2).given ≡ false
      cell_open =
          let f = y.rule.field in
          let up : Filed f.net f.role x.path (on 0) = record { entry = 2; it = r2; is = ap (λ (z : ℕ → Option Role). z 2) y.rule.same_role; hangs = λ h. (let z : top ≡ apart = ap (λ (n : Net). n.place 2) (sym y.rule.same_net) ∙ h in let bad : ⊥ = cc in bad); path = sym y.path; site = refl } in
          let right : right_of (new_task P x.body o2).body.start.context 0 ≡ Holds Write true = ap (λ (z : Body S). right_of (new_task P z o2).body.start.context 0) same_body ∙ right1 in
          parents_are_open S (Job S) IsJob P main first 7 k10 (v10 x ∷ []) f 0 0 (v10 x) x o2 0 Write true refl refl act right up

      task_open : (k10.states 1).given ≡ false
      task_open =
          let f = y.rule.field in
          let up : Filed f.net f.role x.path itself = record { entry = 1; it = r1; is = ap (λ (z : ℕ → Option Role). z 1) y.rule.same_role; hangs = λ h. (let z : top ≡ apart = ap (λ (n : Net). n.place 1) (sym y.rule.same_net) ∙ h in let bad : ⊥ = cc in bad); path = sym y.path; site = refl } in
          creators_are_open S (Job S) IsJob P main first 7 k10 (v10 x ∷ []) f 0 0 (v10 x) x o2 refl refl act up

      last_child : g12.field.net.last 1 ≡ 3
      last_child =
          let f = g12.field in
          let up : Filed f.net f.role x1.path itself = record { entry = 1; it = r1; is = ap (λ (z : ℕ → Option Role). z 1) g12.same_role; hangs = λ h. (let z : top ≡ apart = ap (λ (n : Net). n.place 1) (sym g12.same_net) ∙ h in let bad : ⊥ = cc in bad); path = sym y.path; site = refl } in
          last_children_are_last S (Job S) IsJob P main first 7 k22 (v22 ∷ []) f 0 0 v22 x1 itself 3 refl refl (λ a h. elim h [ ]) refl up

      -- the count down of the new task that is owed is made, and its count is read
      abbrev k23 : Parts (Job S)
      k23 = record k22 { counts = λ e. cond (e == 3) 0 (k10.counts e) }

      abbrev v23 : Sight S
      v23 = record v22 { owes = [] }

      flip : (i : ℕ) → num (i == 3) ≡ num (3 == i) + 0
      flip i = elim (eqb_tells i 3) [
        | inl q ↦ (let a : num (i == 3) ≡ 1 = ap num q.0 in let b : num (3 == i) ≡ 1 = ap (λ (z : ℕ). num (3 == z)) q.1 in omega (arith, a, b))
        | inr q ↦ (let a : num (i == 3) ≡ 0 = ap num q.0 in let b : num (3 == i) ≡ 0 = ap num (apart_from 3 i (λ e. q.1 (sym e))) in omega (arith, a, b))
      ]

      h1 : FieldAt P main first IsJob 7 net4 (λ e. false) role3 k23 (v23 ∷ [])
      h1 =
          let g = count_downs_keep S (Job S) IsJob P main first 7 k22 (v22 ∷ []) g12.field 0 v22 v23 3 k23.counts (record {
            sits = refl;
            due = omega (arith);
            owes = λ j. let z = flip j in omega (arith, z);
            down = refl;
            others = λ j ne. else_ (j == 3) 0 (k10.counts j) (apart_from j 3 ne) ∙ sym (else_ (j == 3) 1 (k10.counts j) (apart_from j 3 ne));
            words = refl;
            same = record { bears = refl; makes = refl; ready = refl; loaded = refl; joined = refl; seen = refl; still = refl };
          }) in
          record { field = g.field; same_net = g.same_net ∙ g12.same_net; same_gave = g.same_gave ∙ g12.same_gave; same_role = g.same_role ∙ g12.same_role }

      abbrev v24 : Sight S
      v24 = record v23 { ready = 3 ∷ 1 ∷ 0 ∷ [] }

      h2 : FieldAt P main first IsJob 7 net4 (λ e. false) role3 k23 (v24 ∷ [])
      h2 =
          let g = count_reads_keep S (Job S) IsJob P main first 7 k23 (v23 ∷ []) h1.field 0 v23 v24 3 (record { sits = refl; inside = omega (arith); spent = refl; ready = refl; seen = refl; still = refl; same = record { words = refl; bears = refl; makes = refl; loaded = refl; joined = refl; owes = refl } }) in
          record { field = g.field; same_net = g.same_net ∙ h1.same_net; same_gave = g.same_gave ∙ h1.same_gave; same_role = g.same_role ∙ h1.same_role }

      -- its job is taken
      abbrev k25 : Parts (Job S)
      k25 = record k23 { bodies = λ e. cond (e == 3) 2 (k10.bodies e); jobs = λ e. None }

      abbrev v25 : Bearing S → Sight S
      v25 q = record v24 { bears = q ∷ x1 ∷ c ∷ [] }

      pub record Child (q : Bearing S) : Type 0 where
        pub number : q.number ≡ 3
        pub body : q.body ≡ (new_task P x.body o2).body
        pub path : q.path ≡ created_now P x.body ∷ x.path
        pub rule : FieldAt P main first IsJob 7 net4 (λ e. false) role3 k25 (v25 q ∷ [])

      h3 : (q : Bearing S) × Child q
      h3 =
          let a = takes_keep S (Job S) IsJob P main first 7 k23 (v24 ∷ []) h2.field 0 v24 3 k25.bodies k25.jobs (record {
            sits = refl;
            found = among_first refl;
            one = refl;
            out = refl;
            empty = refl;
            other_bodies = λ j ne. else_ (j == 3) 2 (k10.bodies j) (apart_from j 3 ne) ∙ sym (else_ (j == 3) 1 (k10.bodies j) (apart_from j 3 ne));
            other_jobs = λ j ne. sym (else_ (j == 3) (Some j2) None (apart_from j 3 ne));
          }) in
          let q = a.bearing in
          let g = a.keeps (v25 q) (record { words = refl; makes = refl; ready = refl; joined = refl; owes = refl; seen = refl }) refl refl refl in
          let same : j2 ≡ a.job = some_same j2 a.job a.stood in
          let role = g.same_role ∙ h2.same_role in
          let mine = g.field.borne 0 (v25 q) refl 0 q refl in (
            q,
            record {
              number = a.number;
              body = sym a.is.body ∙ ap (λ (j : Job S). j.body) (sym same);
              path = path_three g.field.role (ap (λ (z : ℕ → Option Role). z 3) role) q.number q.path a.number mine.number;
              rule = record { field = g.field; same_net = g.same_net ∙ h2.same_net; same_gave = g.same_gave ∙ h2.same_gave; same_role = role };
            },
          )
        where
          path_three : (role : ℕ → Option Role) → role 3 ≡ Some r3 → (i : ℕ) (p : List ℕ) → i ≡ 3 → IsNumberOf role i p → p ≡ created_now P x.body ∷ x.path
          path_three role at_ i p one of_main = let z : 0 ≡ 3 = one in absurd (omega (arith, z))
          path_three role at_ i p one (of_entry r is site path) = sym path ∙ ap (λ (z : Role). z.path) (some_same r r3 (sym is ∙ ap role one ∙ at_))

      -- it has ended; the first task has the clause wait, and has ended too
      module _ (q : Bearing S) (g : Child q) (over3 : is_ended P (new_task P (new_task P (record { start = main; found = [] }) o).body o2).body ≡ true) (nowait3 : (new_task P (new_task P (record { start = main; found = [] }) o).body o2).body.start.order.wait ≡ false)
          (over : is_ended P (with_answer 0 (new_task P (record { start = main; found = [] }) o).body) ≡ true) (waits : (new_task P (record { start = main; found = [] }) o).body.start.order.wait ≡ true) where
        its_body : q.body ≡ (new_task P (new_task P b0 o).body o2).body
        its_body = g.body ∙ ap (λ (z : Body S). (new_task P z o2).body) same_body

        its_right : right_of q.body.start.context 0 ≡ Holds Write true
        its_right = ap (λ (z : Body S). right_of z.start.context 0) its_body ∙ right1

        -- it gives up its cell
        abbrev given4 : EntryState
        given4 = record clear_flag { reads = true; writes = true; given = true; done = true }

        abbrev k26 : Parts (Job S)
        k26 = record k25 { states = λ e. cond (e == 4) given4 (k22.states e) }

        abbrev gave4 : ℕ → Bool
        gave4 e = cond (e == 4) true false

        same_job : JobGoes (v25 q) (v25 q) 0 q q
        same_job = record { has = refl; bears = refl; number = refl; path = refl; last = refl; start = refl; makes = refl; ready = refl; joined = refl }

        gives4 : Gives k25.states k26.states k25.infos 4 (v25 q).words (v25 q).words
        gives4 =
            record {
              empty = refl;
              full = refl;
              childless = refl;
              stays = refl;
              sets = refl;
              others = λ j ne. else_ (j == 4) given4 (k22.states j) (apart_from j 4 ne);
              sends = refl;
              whole = refl;
            }

        h4 : FieldAt P main first IsJob 7 net4 gave4 role3 k26 (v25 q ∷ [])
        h4 =
            let f = g.rule.field in
            let is : f.role 4 ≡ Some r4 = ap (λ (z : ℕ → Option Role). z 4) g.rule.same_role in
            let hangs : f.net.place 4 ≢ apart = λ h. let z : first_place 2 ≡ apart = ap (λ (n : Net). n.place 4) (sym g.rule.same_net) ∙ h in let bad : ⊥ = cc in bad in
            let up : GivesUp f.gave gave4 4 = record { now = refl; same = λ j ne. else_ (j == 4) true false (apart_from j 4 ne) ∙ ap (λ (z : ℕ → Bool). z j) (sym g.rule.same_gave) } in
            let a = gives_keep S (Job S) IsJob P main first 7 k25 (v25 q ∷ []) f 0 (v25 q) (v25 q) 0 q q q.body 4 r4 k26.states gave4 0 Write true (record {
              up = record {
                entry = record {
                  with_job = record { sits = refl; job = same_job; alone = still_there };
                  loaded = λ a h. elim h [ ];
                  body = refl;
                  is = is;
                  path = sym g.path;
                  owes = refl;
                  none = refl;
                  seen = refl;
                };
                hangs = hangs;
                ungiven = refl;
                gives = up;
                word = at_once gives4;
                still = λ a h. elim h [ ];
              };
              site = refl;
              right = its_right;
              no_fold = λ p h. let z : Holds Write true ≡ Holds (Fold p) true = sym its_right ∙ h in let bad : ⊥ = cc in bad;
              may = ended (ap (λ (z : Body S). is_ended P z) its_body ∙ over3) (λ w. let z : false ≡ true = sym nowait3 ∙ ap (λ (b : Body S). b.start.order.wait) (sym its_body) ∙ w in absurd (let bad : ⊥ = cc in bad));
            }) in
            record { field = a.field; same_net = a.same_net ∙ g.rule.same_net; same_gave = a.same_gave; same_role = a.same_role ∙ g.rule.same_role }

        -- the word is read again, and the task gives up itself
        abbrev read4 : Seen
        read4 = record { entry = 4; state = given4 }

        abbrev v27 : Sight S
        v27 = record (v25 q) { seen = read4 ∷ [] }

        h5 : FieldAt P main first IsJob 7 net4 gave4 role3 k26 (v27 ∷ [])
        h5 =
            let a = word_reads_keep S (Job S) IsJob P main first 7 k26 (v25 q ∷ []) h4.field 0 (v25 q) v27 4 (record { sits = refl; ready = refl; seen = refl; still = inl refl; same = record { words = refl; bears = refl; makes = refl; loaded = refl; joined = refl; owes = refl } }) in
            record { field = a.field; same_net = a.same_net ∙ h4.same_net; same_gave = a.same_gave ∙ h4.same_gave; same_role = a.same_role ∙ h4.same_role }

        abbrev k28 : Parts (Job S)
        k28 = record k26 { states = λ e. cond (e == 3) given4 (k26.states e) }

        abbrev gave3 : ℕ → Bool
        gave3 e = cond (e == 3) true (gave4 e)

        gives3 : Gives k26.states k28.states k26.infos 3 v27.words v27.words
        gives3 =
            record {
              empty = refl;
              full = refl;
              childless = refl;
              stays = refl;
              sets = refl;
              others = λ j ne. else_ (j == 3) given4 (k26.states j) (apart_from j 3 ne);
              sends = refl;
              whole = refl;
            }

        h6 : FieldAt P main first IsJob 7 net4 gave3 role3 k28 (v27 ∷ [])
        h6 =
            let f = h5.field in
            let is : f.role 3 ≡ Some r3 = ap (λ (z : ℕ → Option Role). z 3) h5.same_role in
            let is4 : f.role 4 ≡ Some r4 = ap (λ (z : ℕ → Option Role). z 4) h5.same_role in
            let hangs : f.net.place 3 ≢ apart = λ h. let z : first_place 1 ≡ apart = ap (λ (n : Net). n.place 3) (sym h5.same_net) ∙ h in let bad : ⊥ = cc in bad in
            let hangs4 : f.net.place 4 ≢ apart = λ h. let z : first_place 2 ≡ apart = ap (λ (n : Net). n.place 4) (sym h5.same_net) ∙ h in let bad : ⊥ = cc in bad in
            let up : GivesUp f.gave gave3 3 = record { now = refl; same = λ j ne. else_ (j == 3) true (gave4 j) (apart_from j 3 ne) ∙ ap (λ (z : ℕ → Bool). z j) (sym h5.same_gave) } in
            let step : JobGoes v27 v27 0 q q = record { has = refl; bears = refl; number = refl; path = refl; last = refl; start = refl; makes = refl; ready = refl; joined = refl } in
            let a = own_gives_keep S (Job S) IsJob P main first 7 k26 (v27 ∷ []) f 0 v27 v27 0 q q q.body 3 r3 k28.states gave3 (record {
              up = record {
                entry = record {
                  with_job = record { sits = refl; job = step; alone = still_there };
                  loaded = λ a h. elim h [ ];
                  body = refl;
                  is = is;
                  path = sym g.path;
                  owes = refl;
                  none = refl;
                  seen = refl;
                };
                hangs = hangs;
                ungiven = refl;
                gives = up;
                word = at_once gives3;
                still = λ a h. elim h [ ];
              };
              site = refl;
              ended = ap (λ (z : Body S). is_ended P z) its_body ∙ over3;
              cells = λ e m s right. record {
                it = read4;
                among = among_first refl;
                given = refl;
                role = r4;
                is = is4;
                hangs = hangs4;
                path = sym g.path;
                site = ap (λ (z : ℕ). on z) (sym (only1 e m s (subst (λ (z : Body S). right_of z.start.context e ≡ Holds m s) its_body right)));
              };
            }) in
            record { field = a.field; same_net = a.same_net ∙ h5.same_net; same_gave = a.same_gave; same_role = a.same_role ∙ h5.same_role }

        -- its word is read: the last child of the first task is done
        abbrev read3 : Seen
        read3 = record { entry = 3; state = given4 }

        abbrev v29 : Sight S
        v29 = record v27 { seen = read3 ∷ read4 ∷ [] }

        h7 : FieldAt P main first IsJob 7 net4 gave3 role3 k28 (v29 ∷ [])
        h7 =
            let a = word_reads_keep S (Job S) IsJob P main first 7 k28 (v27 ∷ []) h6.field 0 v27 v29 3 (record { sits = refl; ready = refl; seen = refl; still = inl refl; same = record { words = refl; bears = refl; makes = refl; loaded = refl; joined = refl; owes = refl } }) in
            record { field = a.field; same_net = a.same_net ∙ h6.same_net; same_gave = a.same_gave ∙ h6.same_gave; same_role = a.same_role ∙ h6.same_role }

        pub first_waits : x1.body.start.order.wait ≡ true
        first_waits = ap (λ (b : Body S). b.start.order.wait) same_body ∙ waits

        -- so the first task may give up its cell, in two steps
        abbrev k30 : Parts (Job S)
        k30 = record k28 { states = λ e. cond (e == 2) (record headed2 { given = true }) (k28.states e) }

        abbrev gave2 : ℕ → Bool
        gave2 e = cond (e == 2) true (gave3 e)

        abbrev v30 : Sight S
        v30 = record v29 { words = record first_view { half = 2 ∷ [] } }

        begun : Begins k28.states k30.states 2 v29.words v30.words
        begun =
            record {
              empty = refl;
              full = refl;
              stays = refl;
              sets = refl;
              others = λ j ne. else_ (j == 2) (record headed2 { given = true }) (k28.states j) (apart_from j 2 ne);
              sends = refl;
              whole = refl;
            }

        h8 : FieldAt P main first IsJob 7 net4 gave2 role3 k30 (v30 ∷ [])
        h8 =
            let f = h7.field in
            let is : f.role 2 ≡ Some r2 = ap (λ (z : ℕ → Option Role). z 2) h7.same_role in
            let hangs : f.net.place 2 ≢ apart = λ h. let z : top ≡ apart = ap (λ (n : Net). n.place 2) (sym h7.same_net) ∙ h in let bad : ⊥ = cc in bad in
            let up : GivesUp f.gave gave2 2 = record { now = refl; same = λ j ne. else_ (j == 2) true (gave3 j) (apart_from j 2 ne) ∙ ap (λ (z : ℕ → Bool). z j) (sym h7.same_gave) } in
            let step : JobGoes v29 v30 1 x1 x1 = record { has = refl; bears = refl; number = refl; path = refl; last = refl; start = refl; makes = refl; ready = refl; joined = refl } in
            let right : right_of x.body.start.context 0 ≡ Holds Write true = ap (λ (b : Body S). right_of b.start.context 0) same_body ∙ right0 in
            let a = gives_keep S (Job S) IsJob P main first 7 k28 (v29 ∷ []) f 0 v29 v30 1 x1 x1 x1.body 2 r2 k30.states gave2 0 Write true (record {
              up = record {
                entry = record {
                  with_job = record { sits = refl; job = step; alone = still_there };
                  loaded = λ a h. elim h [ ];
                  body = refl;
                  is = is;
                  path = sym y.path;
                  owes = refl;
                  none = refl;
                  seen = refl;
                };
                hangs = hangs;
                ungiven = refl;
                gives = up;
                word = begins refl begun;
                still = λ a h. elim h [ ];
              };
              site = refl;
              right = right;
              no_fold = λ p h. let z : Holds Write true ≡ Holds (Fold p) true = sym right ∙ h in let bad : ⊥ = cc in bad;
              may = ended (ap (λ (b : Body S). is_ended P (with_answer 0 b)) same_body ∙ over) (λ w. last_done read3 refl (among_first refl) refl refl);
            }) in
            record { field = a.field; same_net = a.same_net ∙ h7.same_net; same_gave = a.same_gave; same_role = a.same_role ∙ h7.same_role }

        -- the child's entry is linked upwards; since it is done, done is sent on and delivered
        abbrev risen4 : EntryState
        risen4 = record given4 { linked = true; next = 2 }

        abbrev k31 : Parts (Job S)
        k31 = record k30 { states = λ e. cond (e == 4) risen4 (k30.states e) }

        abbrev v31 : Sight S
        v31 = record v29 { words = record first_view { held = record { entry = 2; flag = 1 } ∷ [] } }

        risen : Rises net4 k30.states k31.states k30.infos 2 v30.words v31.words
        risen =
            record {
              full = refl;
              sets = refl;
              others = λ j ne. else_ (j == 4) risen4 (k30.states j) (apart_from j 4 ne);
              sends = refl;
              whole = refl;
            }

        h9 : FieldAt P main first IsJob 7 net4 gave2 role3 k31 (v31 ∷ [])
        h9 =
            let a = last_links_keep S (Job S) IsJob P main first 7 k30 (v30 ∷ []) h8.field 0 v30 v31 2 k31.states (record {
              sits = refl;
              word = subst (λ (n : Net). Rises n k30.states k31.states k30.infos 2 v30.words v31.words) (sym h8.same_net) risen;
              unlinked = ap (λ (n : Net). (k30.states (n.last 2)).linked) h8.same_net;
              none = refl;
              owes = refl;
              same = record { bears = refl; makes = refl; ready = refl; loaded = refl; joined = refl; seen = refl; still = refl };
            }) in
            record { field = a.field; same_net = a.same_net ∙ h8.same_net; same_gave = a.same_gave ∙ h8.same_gave; same_role = a.same_role ∙ h8.same_role }

        abbrev k32 : Parts (Job S)
        k32 = record k31 { states = λ e. cond (e == 2) (record headed2 { given = true; done = true }) (k31.states e) }

        and_false : (b : Bool) → num (b && false) ≡ 0
        and_false true = refl
        and_false false = refl

        h10 : FieldAt P main first IsJob 7 net4 gave2 role3 k32 (v29 ∷ [])
        h10 =
            let word : Delivers net4 k31.states k32.states k31.infos (record { entry = 2; flag = 1 }) [] v31.words v29.words = record {
              took = λ h. refl;
              first = λ b h. elim h [ ];
              full = refl;
              sets = sets_done refl refl;
              others = λ j ne. else_ (j == 2) (record headed2 { given = true; done = true }) (k31.states j) (apart_from j 2 ne);
              sends = refl;
              whole = refl;
            } in
            let a = deliveries_keep S (Job S) IsJob P main first 7 k31 (v31 ∷ []) h9.field 0 v31 v29 (record { entry = 2; flag = 1 }) [] k32.states (record {
              sits = refl;
              word = subst (λ (n : Net). Delivers n k31.states k32.states k31.infos (record { entry = 2; flag = 1 }) [] v31.words v29.words) (sym h9.same_net) word;
              none = refl;
              owes = λ i. let z = and_false (1 == i) in omega (arith, z);
              same = record { bears = refl; makes = refl; ready = refl; loaded = refl; joined = refl; seen = refl; still = refl };
            }) in
            record { field = a.field; same_net = a.same_net ∙ h9.same_net; same_gave = a.same_gave ∙ h9.same_gave; same_role = a.same_role ∙ h9.same_role }

        -- the word of its cell is read, and the first task gives up itself, in two steps too
        abbrev done2 : EntryState
        done2 = record headed2 { given = true; done = true }

        abbrev v33 : Sight S
        v33 = record v29 { seen = record { entry = 2; state = done2 } ∷ read3 ∷ read4 ∷ [] }

        h11 : FieldAt P main first IsJob 7 net4 gave2 role3 k32 (v33 ∷ [])
        h11 =
            let a = word_reads_keep S (Job S) IsJob P main first 7 k32 (v29 ∷ []) h10.field 0 v29 v33 2 (record { sits = refl; ready = refl; seen = refl; still = inl refl; same = record { words = refl; bears = refl; makes = refl; loaded = refl; joined = refl; owes = refl } }) in
            record { field = a.field; same_net = a.same_net ∙ h10.same_net; same_gave = a.same_gave ∙ h10.same_gave; same_role = a.same_role ∙ h10.same_role }

        abbrev given1 : EntryState
        given1 = record headed1 { given = true }

        abbrev k34 : Parts (Job S)
        k34 = record k32 { states = λ e. cond (e == 1) given1 (k32.states e) }

        abbrev gave1 : ℕ → Bool
        gave1 e = cond (e == 1) true (gave2 e)

        abbrev v34 : Sight S
        v34 = record v33 { words = record first_view { half = 1 ∷ [] } }

        begun1 : Begins k32.states k34.states 1 v33.words v34.words
        begun1 = record { empty = refl; full = refl; stays = refl; sets = refl; others = λ j ne. else_ (j == 1) given1 (k32.states j) (apart_from j 1 ne); sends = refl; whole = refl }

        h12 : FieldAt P main first IsJob 7 net4 gave1 role3 k34 (v34 ∷ [])
        h12 =
            let f = h11.field in
            let is : f.role 1 ≡ Some r1 = ap (λ (z : ℕ → Option Role). z 1) h11.same_role in
            let is2 : f.role 2 ≡ Some r2 = ap (λ (z : ℕ → Option Role). z 2) h11.same_role in
            let hangs : f.net.place 1 ≢ apart = λ h. let z : top ≡ apart = ap (λ (n : Net). n.place 1) (sym h11.same_net) ∙ h in let bad : ⊥ = cc in bad in
            let hangs2 : f.net.place 2 ≢ apart = λ h. let z : top ≡ apart = ap (λ (n : Net). n.place 2) (sym h11.same_net) ∙ h in let bad : ⊥ = cc in bad in
            let up : GivesUp f.gave gave1 1 = record { now = refl; same = λ j ne. else_ (j == 1) true (gave2 j) (apart_from j 1 ne) ∙ ap (λ (z : ℕ → Bool). z j) (sym h11.same_gave) } in
            let step : JobGoes v33 v34 1 x1 x1 = record { has = refl; bears = refl; number = refl; path = refl; last = refl; start = refl; makes = refl; ready = refl; joined = refl } in
            let a = own_gives_keep S (Job S) IsJob P main first 7 k32 (v33 ∷ []) f 0 v33 v34 1 x1 x1 x1.body 1 r1 k34.states gave1 (record {
              up = record {
                entry = record {
                  with_job = record { sits = refl; job = step; alone = still_there };
                  loaded = λ a h. elim h [ ];
                  body = refl;
                  is = is;
                  path = sym y.path;
                  owes = refl;
                  none = refl;
                  seen = refl;
                };
                hangs = hangs;
                ungiven = refl;
                gives = up;
                word = begins refl begun1;
                still = λ a h. elim h [ ];
              };
              site = refl;
              ended = ap (λ (b : Body S). is_ended P (with_answer 0 b)) same_body ∙ over;
              cells = λ e m s right. record {
                it = record { entry = 2; state = done2 };
                among = among_first refl;
                given = refl;
                role = r2;
                is = is2;
                hangs = hangs2;
                path = sym y.path;
                site = ap (λ (z : ℕ). on z) (sym (only0 e m s (subst (λ (z : Body S). right_of z.start.context e ≡ Holds m s) same_body right)));
              };
            }) in
            record { field = a.field; same_net = a.same_net ∙ h11.same_net; same_gave = a.same_gave; same_role = a.same_role ∙ h11.same_role }

        abbrev risen3 : EntryState
        risen3 = record given4 { linked = true; next = 1 }

        abbrev k35 : Parts (Job S)
        k35 = record k34 { states = λ e. cond (e == 3) risen3 (k34.states e) }

        abbrev v35 : Sight S
        v35 = record v33 { words = record first_view { held = record { entry = 1; flag = 1 } ∷ [] } }

        risen1 : Rises net4 k34.states k35.states k34.infos 1 v34.words v35.words
        risen1 = record { full = refl; sets = refl; others = λ j ne. else_ (j == 3) risen3 (k34.states j) (apart_from j 3 ne); sends = refl; whole = refl }

        h13 : FieldAt P main first IsJob 7 net4 gave1 role3 k35 (v35 ∷ [])
        h13 =
            let a = last_links_keep S (Job S) IsJob P main first 7 k34 (v34 ∷ []) h12.field 0 v34 v35 1 k35.states (record {
              sits = refl;
              word = subst (λ (n : Net). Rises n k34.states k35.states k34.infos 1 v34.words v35.words) (sym h12.same_net) risen1;
              unlinked = ap (λ (n : Net). (k34.states (n.last 1)).linked) h12.same_net;
              none = refl;
              owes = refl;
              same = record { bears = refl; makes = refl; ready = refl; loaded = refl; joined = refl; seen = refl; still = refl };
            }) in
            record { field = a.field; same_net = a.same_net ∙ h12.same_net; same_gave = a.same_gave ∙ h12.same_gave; same_role = a.same_role ∙ h12.same_role }
