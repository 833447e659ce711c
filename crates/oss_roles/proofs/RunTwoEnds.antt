-- The run of `RunTwo` goes on: the new task is taken, stores a value in its first cell, loads its second one, and ends. It gives up both cells, and
-- when its seat has seen that, it gives itself up.
use Rattle.std.proofs.Common.{◌≡◌, ◌≢◌, ◌⊎◌, ◌+◌, inl, inr, sym, refl, ◌∙◌, ap, ℕ, arith, Bool, true, false, List, [], ◌∷◌, Option, Some, None}
use Rattle.std.specs.Prelude.{◌==◌, cond, slice_index, slice_set}
use Rattle.oss_syntax.specs.declared.access.Mode.{Mode}
use Rattle.oss_syntax.specs.declared.access.Mode.TheVariants.{Read, Write, Fold}
use Rattle.oss_model.specs.Agreement.{Setting}
use Rattle.oss_model.specs.Bodies.{Order, Program, Start, Body}
use Rattle.oss_model.specs.Bodies.Act.{Created, Load, Store}
use Rattle.oss_model.specs.Context.{right_of}
use Rattle.oss_model.specs.Moves.{act_now, created_now, is_ended, new_task}
use Rattle.oss_model.specs.Rights.{Right, Holds}
use Rattle.oss_words.specs.declared.entry.EntryInfo.{EntryInfo}
use Rattle.oss_words.specs.declared.entry.EntryState.{EntryState}
use Rattle.oss_words.specs.Net.{Net, apart, top}
use Rattle.oss_words.specs.Steps.{Gives}
use Rattle.oss_words.specs.Sums.{num}
use Rattle.oss_words.specs.Views.{Seen, among_first, among_later}
use Rattle.oss_roles.specs.Alone.{with_answer}
use Rattle.oss_roles.specs.Field.{FieldAt, Parts, IsNumberOf, of_main, of_entry}
use Rattle.oss_roles.specs.Numbers.{entry_number, has_cell}
use Rattle.oss_roles.specs.Roles.{Role, Site, Filed, on}
use Rattle.oss_roles.specs.Sights.{Bearing, Sight}
use Rattle.oss_roles.specs.Steps.{JobGoes}
use Rattle.oss_roles.specs.JobSteps.{stores, ended, at_once}
use Rattle.oss_roles.specs.Passing.{still_there}
use Rattle.oss_roles.proofs.JobClaims.{loads_keep, stores_keep, gives_keep, own_gives_keep}
use Rattle.oss_roles.proofs.MakeClaims.{takes_keep}
use Rattle.oss_roles.proofs.NumberLaw.{entries_follow}
use Rattle.oss_roles.proofs.WordClaims.{count_reads_keep, word_reads_keep}
use Rattle.oss_roles.proofs.RunTwo as run
use Rattle.oss_roles.proofs.RunWrite.{Job, IsJob, else_, apart_from, some_same}

module _ {S : Type 0} (P : Program S) (main : Start S) (first : List ℕ) (setting : Setting main first) (infos : ℕ → EntryInfo) (values cell_of : ℕ → ℕ) (o : Order S)
    (act0 : act_now P (record { start = main; found = [] }) ≡ Created o false)
    (right0 : right_of (new_task P (record { start = main; found = [] }) o).body.start.context 0 ≡ Holds Write true)
    (right1 : right_of (new_task P (record { start = main; found = [] }) o).body.start.context 1 ≡ Holds Read true)
    (both : (c : ℕ) (m : Mode) (s : Bool) → right_of (new_task P (record { start = main; found = [] }) o).body.start.context c ≡ Holds m s → (c ≡ 0) ⊎ (c ≡ 1)) where
  abbrev b0 : Body S
  b0 = run.b0 P main first setting infos values cell_of o act0 right0 right1 both

  abbrev k2 : Parts (Job S)
  k2 = run.k2 P main first setting infos values cell_of o act0 right0 right1 both

  module _ (d : Bearing S) (t : run.Taken P main first setting infos values cell_of o act0 right0 right1 both d) where
    abbrev r1 : Role
    r1 = run.r1 P main first setting infos values cell_of o act0 right0 right1 both d t

    abbrev r2 : Role
    r2 = run.r2 P main first setting infos values cell_of o act0 right0 right1 both d t

    abbrev role1 : ℕ → Option Role
    role1 = run.role1 P main first setting infos values cell_of o act0 right0 right1 both d t

    abbrev r3 : Role
    r3 = run.r3 P main first setting infos values cell_of o act0 right0 right1 both d t

    abbrev Ones : ℕ → Role → Type 0
    Ones = run.Ones P main first setting infos values cell_of o act0 right0 right1 both d t

    role_is : (e : ℕ) (r : Role) → role1 e ≡ Some r → Ones e r
    role_is e r h = run.role_is P main first setting infos values cell_of o act0 right0 right1 both d t e r h

    abbrev open_flags : EntryState
    open_flags = run.open_flags P main first setting infos values cell_of o act0 right0 right1 both d t

    abbrev k4c : Parts (Job S)
    k4c = run.k4c P main first setting infos values cell_of o act0 right0 right1 both d t

    abbrev net3 : Net
    net3 = run.net3 P main first setting infos values cell_of o act0 right0 right1 both d t

    abbrev j1 : Job S
    j1 = run.j1 P main first setting infos values cell_of o act0 right0 right1 both d t

    abbrev c : Bearing S
    c = run.c P main first setting infos values cell_of o act0 right0 right1 both d t

    abbrev v8 : Sight S
    v8 = run.v8 P main first setting infos values cell_of o act0 right0 right1 both d t

    abbrev k8 : Parts (Job S)
    k8 = run.k8 P main first setting infos values cell_of o act0 right0 right1 both d t

    f8 : FieldAt P main first IsJob 7 net3 (λ e. false) role1 k8 (v8 ∷ [])
    f8 = run.f8 P main first setting infos values cell_of o act0 right0 right1 both d t

    -- its count is read, and its job taken
    abbrev pub v9 : Sight S
    v9 = record v8 { ready = 1 ∷ 0 ∷ [] }

    f9 : FieldAt P main first IsJob 7 net3 (λ e. false) role1 k8 (v9 ∷ [])
    f9 =
        let g = count_reads_keep S (Job S) IsJob P main first 7 k8 (v8 ∷ []) f8.field 0 v8 v9 1 (record { sits = refl; inside = omega (arith); spent = refl; ready = refl; seen = refl; still = refl; same = record { words = refl; bears = refl; makes = refl; loaded = refl; joined = refl; owes = refl } }) in
        record { field = g.field; same_net = g.same_net ∙ f8.same_net; same_gave = g.same_gave ∙ f8.same_gave; same_role = g.same_role ∙ f8.same_role }

    abbrev pub k10 : Parts (Job S)
    k10 = record k8 { bodies = λ e. cond (e == 1) 2 (cond (e == 0) 2 0); jobs = λ e. None }

    abbrev pub v10 : Bearing S → Sight S
    v10 x = record v9 { bears = x ∷ c ∷ [] }

    pub record Fetched (x : Bearing S) : Type 0 where
      pub number : x.number ≡ 1
      pub body : x.body ≡ (new_task P d.body o).body
      pub path : x.path ≡ created_now P d.body ∷ d.path
      pub last : (z : Site) → x.last z ≡ None
      pub rule : FieldAt P main first IsJob 7 net3 (λ e. false) role1 k10 (v10 x ∷ [])

    f10 : (x : Bearing S) × Fetched x
    f10 =
        let y = takes_keep S (Job S) IsJob P main first 7 k8 (v9 ∷ []) f9.field 0 v9 1 k10.bodies k10.jobs (record {
          sits = refl;
          found = among_first refl;
          one = refl;
          out = refl;
          empty = refl;
          other_bodies = λ j ne. else_ (j == 1) 2 (k2.bodies j) (apart_from j 1 ne) ∙ sym (else_ (j == 1) 1 (k2.bodies j) (apart_from j 1 ne));
          other_jobs = λ j ne. sym (else_ (j == 1) (Some j1) None (apart_from j 1 ne));
        }) in
        let x = y.bearing in
        let g = y.keeps (v10 x) (record { words = refl; makes = refl; ready = refl; joined = refl; owes = refl; seen = refl }) refl refl refl in
        let same : j1 ≡ y.job = some_same j1 y.job y.stood in
        let role = g.same_role ∙ f9.same_role in
        let mine = g.field.borne 0 (v10 x) refl 0 x refl in (
          x,
          record {
            number = y.number;
            body = sym y.is.body ∙ ap (λ (j : Job S). j.body) (sym same);
            path = path_one g.field.role (λ e r h. role_is e r (sym (ap (λ (z : ℕ → Option Role). z e) role) ∙ h)) x.number x.path y.number mine.number;
            last = λ z. sym (y.is.last z) ∙ ap (λ (j : Job S). j.last z) (sym same);
            rule = record { field = g.field; same_net = g.same_net ∙ f9.same_net; same_gave = g.same_gave ∙ f9.same_gave; same_role = role };
          },
        )
      where
        path_one : (role : ℕ → Option Role) → ((e : ℕ) (r : Role) → role e ≡ Some r → Ones e r) → (i : ℕ) (p : List ℕ) → i ≡ 1 → IsNumberOf role i p → p ≡ created_now P d.body ∷ d.path
        path_one role at_ i p one of_main = let z : 0 ≡ 1 = one in absurd (omega (arith, z))
        path_one role at_ i p one (of_entry r is site path) = elim (at_ i r is) [
          | inl q ↦ sym path ∙ ap (λ (z : Role). z.path) (sym q.1)
          | inr k ↦ elim k [ inl q ↦ sym path ∙ ap (λ (z : Role). z.path) (sym q.1) | inr q ↦ sym path ∙ ap (λ (z : Role). z.path) (sym q.1) ]
        ]

    -- it stores into its first cell
    module _ (x : Bearing S) (y : Fetched x) (stored : ℕ) (act1 : act_now P (new_task P (record { start = main; found = [] }) o).body ≡ Store 0 stored)
        (act2 : act_now P (with_answer 0 (new_task P (record { start = main; found = [] }) o).body) ≡ Load 1)
        (over : is_ended P (with_answer (slice_index (slice_set first 0 stored) 1) (with_answer 0 (new_task P (record { start = main; found = [] }) o).body)) ≡ true)
        (nowait : (new_task P (record { start = main; found = [] }) o).body.start.order.wait ≡ false) where
      body : x.body ≡ (new_task P b0 o).body
      body = y.body ∙ ap (λ (z : Body S). (new_task P z o).body) t.body

      right0_now : right_of x.body.start.context 0 ≡ Holds Write true
      right0_now = ap (λ (z : Body S). right_of z.start.context 0) body ∙ right0

      right1_now : right_of x.body.start.context 1 ≡ Holds Read true
      right1_now = ap (λ (z : Body S). right_of z.start.context 1) body ∙ right1

      -- its entries on the cells 0 and 1 follow its own
      first_entry : (e : Filed y.rule.field.net y.rule.field.role x.path (on 0)) × (e.entry ≡ 2)
      first_entry =
          let z = entries_follow S (Job S) IsJob P main first 7 k10 (v10 x ∷ []) y.rule.field 0 0 (v10 x) x (created_now P d.body) 0 d.path Write true refl refl y.path right0_now in
          (z.0, z.3 ∙ ap (λ (n : ℕ). entry_number n (right_of x.body.start.context) 0) y.number)

      second_entry : (e : Filed y.rule.field.net y.rule.field.role x.path (on 1)) × (e.entry ≡ 3)
      second_entry =
          let z = entries_follow S (Job S) IsJob P main first 7 k10 (v10 x ∷ []) y.rule.field 0 0 (v10 x) x (created_now P d.body) 1 d.path Read true refl refl y.path right1_now in (
            z.0,
            z.3
                ∙ (ap (λ (n : ℕ). entry_number n (right_of x.body.start.context) 1) y.number
                ∙ ap (λ (r : Right). 1 + 1 + (num (has_cell r) + 0)) right0_now),
          )

      abbrev x1 : Bearing S
      x1 = record { number = x.number; path = x.path; body = with_answer 0 x.body; last = x.last }

      abbrev pub k11 : Parts (Job S)
      k11 = record k10 { cells = slice_set first 0 stored }

      f11 : FieldAt P main first IsJob 7 net3 (λ e. false) role1 k11 (v10 x1 ∷ [])
      f11 =
          let f = y.rule.field in
          let step : JobGoes (v10 x) (v10 x1) 0 x x1 = record { has = refl; bears = refl; number = refl; path = refl; last = refl; start = refl; makes = refl; ready = refl; joined = refl } in
          let act' : act_now P x.body ≡ Store 0 stored = ap (λ (z : Body S). act_now P z) body ∙ act1 in
          let g = stores_keep S (Job S) IsJob P main first 7 k10 (v10 x ∷ []) f 0 (v10 x) (v10 x1) 0 x x1 x.body k11.cells (record {
            with_job = record { sits = refl; job = step; alone = still_there };
            same = record { words = refl; owes = refl; seen = refl; still = refl };
            loaded = λ a h. elim h [ ];
            writes = stores 0 stored act' refl;
            body = refl;
          }) in
          record { field = g.field; same_net = g.same_net ∙ y.rule.same_net; same_gave = g.same_gave ∙ y.rule.same_gave; same_role = g.same_role ∙ y.rule.same_role }

      -- and loads its second one
      abbrev x2 : Bearing S
      x2 = record { number = x.number; path = x.path; body = with_answer (slice_index (slice_set first 0 stored) 1) (with_answer 0 x.body); last = x.last }

      f12 : FieldAt P main first IsJob 7 net3 (λ e. false) role1 k11 (v10 x2 ∷ [])
      f12 =
          let g = loads_keep S (Job S) IsJob P main first 7 k11 (v10 x1 ∷ []) f11.field 0 (v10 x1) (v10 x2) 0 x1 x2 x1.body 1 (record {
            with_job = record { sits = refl; job = record { has = refl; bears = refl; number = refl; path = refl; last = refl; start = refl; makes = refl; ready = refl; joined = refl }; alone = still_there };
            same = record { words = refl; owes = refl; seen = refl; still = refl };
            loaded = λ a h. elim h [ ];
            act = ap (λ (z : Body S). act_now P (with_answer 0 z)) body ∙ act2;
            body = refl;
          }) in
          record { field = g.field; same_net = g.same_net ∙ f11.same_net; same_gave = g.same_gave ∙ f11.same_gave; same_role = g.same_role ∙ f11.same_role }

      -- it has ended then, and gives up the first cell
      over_now : is_ended P x2.body ≡ true
      over_now = ap (λ (z : Body S). is_ended P (with_answer (slice_index (slice_set first 0 stored) 1) (with_answer 0 z))) body ∙ over

      may_end : x2.body.start.order.wait ≡ true → {A : Type 0} → A
      may_end w = let z : false ≡ true = sym nowait ∙ ap (λ (u : Body S). u.start.order.wait) (sym body) ∙ w in absurd (let bad : ⊥ = cc in bad)

      abbrev given : EntryState
      given = record open_flags { given = true; done = true }

      abbrev pub k13 : Parts (Job S)
      k13 = record k11 { states = λ e. cond (e == 2) given (k4c.states e) }

      abbrev pub gave2 : ℕ → Bool
      gave2 e = cond (e == 2) true false

      gives2 : Gives k11.states k13.states k11.infos 2 (v10 x2).words (v10 x2).words
      gives2 = record { empty = refl; full = refl; childless = refl; stays = refl; sets = refl; others = λ j ne. else_ (j == 2) given (k4c.states j) (apart_from j 2 ne); sends = refl; whole = refl }

      hung : (e : ℕ) (net : Net) → net3.place e ≡ top → net ≡ net3 → net.place e ≢ apart
      hung e net is same h = let z : top ≡ apart = sym is ∙ (ap (λ (n : Net). n.place e) (sym same) ∙ h) in let bad : ⊥ = cc in bad

      f13 : FieldAt P main first IsJob 7 net3 gave2 role1 k13 (v10 x2 ∷ [])
      f13 =
          let f = f12.field in
          let g = gives_keep S (Job S) IsJob P main first 7 k11 (v10 x2 ∷ []) f 0 (v10 x2) (v10 x2) 0 x2 x2 x2.body 2 r2 k13.states gave2 0 Write true (record {
            up = record {
              entry = record {
                with_job = record { sits = refl; job = record { has = refl; bears = refl; number = refl; path = refl; last = refl; start = refl; makes = refl; ready = refl; joined = refl }; alone = still_there };
                loaded = λ a h. elim h [ ];
                body = refl;
                is = ap (λ (z : ℕ → Option Role). z 2) f12.same_role;
                path = sym y.path;
                owes = refl;
                none = refl;
                seen = refl;
              };
              hangs = hung 2 f.net refl f12.same_net;
              ungiven = refl;
              gives = record { now = refl; same = λ j ne. else_ (j == 2) true false (apart_from j 2 ne) ∙ ap (λ (z : ℕ → Bool). z j) (sym f12.same_gave) };
              word = at_once gives2;
              still = λ a h. elim h [ ];
            };
            site = refl;
            right = right0_now;
            no_fold = λ p h. let z : Holds Write true ≡ Holds (Fold p) true = sym right0_now ∙ h in let bad : ⊥ = cc in bad;
            may = ended over_now (λ w. may_end w);
          }) in
          record { field = g.field; same_net = g.same_net ∙ f12.same_net; same_gave = g.same_gave; same_role = g.same_role ∙ f12.same_role }

      -- and the second one
      abbrev pub k14 : Parts (Job S)
      k14 = record k13 { states = λ e. cond (e == 3) given (k13.states e) }

      abbrev pub gave3 : ℕ → Bool
      gave3 e = cond (e == 3) true (gave2 e)

      gives3 : Gives k13.states k14.states k13.infos 3 (v10 x2).words (v10 x2).words
      gives3 = record { empty = refl; full = refl; childless = refl; stays = refl; sets = refl; others = λ j ne. else_ (j == 3) given (k13.states j) (apart_from j 3 ne); sends = refl; whole = refl }

      f14 : FieldAt P main first IsJob 7 net3 gave3 role1 k14 (v10 x2 ∷ [])
      f14 =
          let f = f13.field in
          let g = gives_keep S (Job S) IsJob P main first 7 k13 (v10 x2 ∷ []) f 0 (v10 x2) (v10 x2) 0 x2 x2 x2.body 3 r3 k14.states gave3 1 Read true (record {
            up = record {
              entry = record {
                with_job = record { sits = refl; job = record { has = refl; bears = refl; number = refl; path = refl; last = refl; start = refl; makes = refl; ready = refl; joined = refl }; alone = still_there };
                loaded = λ a h. elim h [ ];
                body = refl;
                is = ap (λ (z : ℕ → Option Role). z 3) f13.same_role;
                path = sym y.path;
                owes = refl;
                none = refl;
                seen = refl;
              };
              hangs = hung 3 f.net refl f13.same_net;
              ungiven = refl;
              gives = record { now = refl; same = λ j ne. else_ (j == 3) true (gave2 j) (apart_from j 3 ne) ∙ ap (λ (z : ℕ → Bool). z j) (sym f13.same_gave) };
              word = at_once gives3;
              still = λ a h. elim h [ ];
            };
            site = refl;
            right = right1_now;
            no_fold = λ p h. let z : Holds Read true ≡ Holds (Fold p) true = sym right1_now ∙ h in let bad : ⊥ = cc in bad;
            may = ended over_now (λ w. may_end w);
          }) in
          record { field = g.field; same_net = g.same_net ∙ f13.same_net; same_gave = g.same_gave; same_role = g.same_role ∙ f13.same_role }

      -- both words are read
      abbrev read2 : Seen
      read2 = record { entry = 2; state = given }

      abbrev read3 : Seen
      read3 = record { entry = 3; state = given }

      abbrev v15 : Sight S
      v15 = record (v10 x2) { seen = read2 ∷ [] }

      abbrev v16 : Sight S
      v16 = record (v10 x2) { seen = read3 ∷ read2 ∷ [] }

      f15 : FieldAt P main first IsJob 7 net3 gave3 role1 k14 (v15 ∷ [])
      f15 =
          let g = word_reads_keep S (Job S) IsJob P main first 7 k14 (v10 x2 ∷ []) f14.field 0 (v10 x2) v15 2 (record { sits = refl; ready = refl; seen = refl; still = inl refl; same = record { words = refl; bears = refl; makes = refl; loaded = refl; joined = refl; owes = refl } }) in
          record { field = g.field; same_net = g.same_net ∙ f14.same_net; same_gave = g.same_gave ∙ f14.same_gave; same_role = g.same_role ∙ f14.same_role }

      f16 : FieldAt P main first IsJob 7 net3 gave3 role1 k14 (v16 ∷ [])
      f16 =
          let g = word_reads_keep S (Job S) IsJob P main first 7 k14 (v15 ∷ []) f15.field 0 v15 v16 3 (record { sits = refl; ready = refl; seen = refl; still = inl refl; same = record { words = refl; bears = refl; makes = refl; loaded = refl; joined = refl; owes = refl } }) in
          record { field = g.field; same_net = g.same_net ∙ f15.same_net; same_gave = g.same_gave ∙ f15.same_gave; same_role = g.same_role ∙ f15.same_role }

      -- the task has no third cell, so it gives itself up
      abbrev pub k17 : Parts (Job S)
      k17 = record k14 { states = λ e. cond (e == 1) given (k14.states e) }

      abbrev pub gave1 : ℕ → Bool
      gave1 e = cond (e == 1) true (gave3 e)

      gives1 : Gives k14.states k17.states k14.infos 1 v16.words v16.words
      gives1 = record { empty = refl; full = refl; childless = refl; stays = refl; sets = refl; others = λ j ne. else_ (j == 1) given (k14.states j) (apart_from j 1 ne); sends = refl; whole = refl }

      pub f17 : FieldAt P main first IsJob 7 net3 gave1 role1 k17 (v16 ∷ [])
      f17 =
          let f = f16.field in
          let is2 : f.role 2 ≡ Some r2 = ap (λ (z : ℕ → Option Role). z 2) f16.same_role in
          let is3 : f.role 3 ≡ Some r3 = ap (λ (z : ℕ → Option Role). z 3) f16.same_role in
          let hangs2 : f.net.place 2 ≢ apart = hung 2 f.net refl f16.same_net in
          let hangs3 : f.net.place 3 ≢ apart = hung 3 f.net refl f16.same_net in
          let g = own_gives_keep S (Job S) IsJob P main first 7 k14 (v16 ∷ []) f 0 v16 v16 0 x2 x2 x2.body 1 r1 k17.states gave1 (record {
            up = record {
              entry = record {
                with_job = record { sits = refl; job = record { has = refl; bears = refl; number = refl; path = refl; last = refl; start = refl; makes = refl; ready = refl; joined = refl }; alone = still_there };
                loaded = λ a h. elim h [ ];
                body = refl;
                is = ap (λ (z : ℕ → Option Role). z 1) f16.same_role;
                path = sym y.path;
                owes = refl;
                none = refl;
                seen = refl;
              };
              hangs = hung 1 f.net refl f16.same_net;
              ungiven = refl;
              gives = record { now = refl; same = λ j ne. else_ (j == 1) true (gave3 j) (apart_from j 1 ne) ∙ ap (λ (z : ℕ → Bool). z j) (sym f16.same_gave) };
              word = at_once gives1;
              still = λ a h. elim h [ ];
            };
            site = refl;
            ended = over_now;
            cells = λ e m s right. elim (both e m s (ap (λ (z : Body S). right_of z.start.context e) (sym body) ∙ right)) [
              | inl q ↦ record { it = read2; among = among_later (among_first refl); given = refl; role = r2; is = is2; hangs = hangs2; path = sym y.path; site = ap (λ (z : ℕ). on z) (sym q) }
              | inr q ↦ record { it = read3; among = among_first refl; given = refl; role = r3; is = is3; hangs = hangs3; path = sym y.path; site = ap (λ (z : ℕ). on z) (sym q) }
            ];
          }) in
          record { field = g.field; same_net = g.same_net ∙ f16.same_net; same_gave = g.same_gave; same_role = g.same_role ∙ f16.same_role }
