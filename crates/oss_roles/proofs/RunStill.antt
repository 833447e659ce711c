-- The run of `RunFold` goes on from where the new task's job is taken: its seat reads the word of the task's entry on the cell, and keeps what it
-- has read; it writes the value beside it, which it keeps too, and leaves it, by which it keeps nothing of this entry.
use Rattle.std.proofs.Common.{◌≡◌, ◌≢◌, inr, sym, refl, ◌∙◌, ap, ℕ, Bool, true, false, List, [], ◌∷◌, Option, Some, None}
use Rattle.std.specs.Prelude.{◌==◌, cond}
use Rattle.oss_syntax.specs.declared.access.Mode.{Mode}
use Rattle.oss_syntax.specs.declared.access.Mode.TheVariants.{Fold}
use Rattle.oss_syntax.specs.declared.access.Op.TheVariants.{Add}
use Rattle.oss_model.specs.Agreement.{Setting}
use Rattle.oss_model.specs.Bodies.{Order, Program, Start, Body}
use Rattle.oss_model.specs.Bodies.Act.{Created}
use Rattle.oss_model.specs.Context.{right_of}
use Rattle.oss_model.specs.Moves.{act_now, is_ended, new_task, slot_of}
use Rattle.oss_model.specs.Rights.{Holds}
use Rattle.oss_words.specs.declared.entry.EntryInfo.{EntryInfo}
use Rattle.oss_words.specs.declared.entry.EntryState.{EntryState}
use Rattle.oss_words.specs.Net.{Net, apart, top}
use Rattle.oss_words.specs.Steps.{Leaves}
use Rattle.oss_words.specs.Views.{first_view, among_first}
use Rattle.oss_roles.specs.Field.{FieldAt, Parts}
use Rattle.oss_roles.specs.Passing.{still_there}
use Rattle.oss_roles.specs.Roles.{Role}
use Rattle.oss_roles.specs.Sights.{Bearing, Fixed, Sight}
use Rattle.oss_roles.specs.Steps.{JobGoes}
use Rattle.oss_roles.proofs.JobClaims.{values_keep, leaves_keep}
use Rattle.oss_roles.proofs.WordClaims.{word_reads_keep}
use Rattle.oss_roles.proofs.RunFold as run
use Rattle.oss_roles.proofs.RunFold.{Job, IsJob}
use Rattle.oss_roles.proofs.RunWrite.{else_, apart_from, among_one}

module _ {S : Type 0} (P : Program S) (main : Start S) (first : List ℕ) (setting : Setting main first) (infos : ℕ → EntryInfo) (values cell_of : ℕ → ℕ) (o : Order S)
    (act0 : act_now P (record { start = main; found = [] }) ≡ Created o false)
    (right0 : right_of (new_task P (record { start = main; found = [] }) o).body.start.context 0 ≡ Holds (Fold Add) true)
    (only0 : (c : ℕ) (m : Mode) (s : Bool) → right_of (new_task P (record { start = main; found = [] }) o).body.start.context c ≡ Holds m s → c ≡ 0) where
  module _ (d : Bearing S) (t : run.Taken P main first setting infos values cell_of o act0 right0 only0 d) where
    abbrev r2 : Role
    r2 = run.r2 P main first setting infos values cell_of o act0 right0 only0 d t

    abbrev role1 : ℕ → Option Role
    role1 = run.role1 P main first setting infos values cell_of o act0 right0 only0 d t

    abbrev open_flags : EntryState
    open_flags = run.open_flags P main first setting infos values cell_of o act0 right0 only0 d t

    abbrev net2 : Net
    net2 = run.net2 P main first setting infos values cell_of o act0 right0 only0 d t

    abbrev k8 : Parts (Job S)
    k8 = run.k8 P main first setting infos values cell_of o act0 right0 only0 d t

    abbrev k10 : Parts (Job S)
    k10 = run.k10 P main first setting infos values cell_of o act0 right0 only0 d t

    abbrev v10 : Bearing S → Sight S
    v10 = run.v10 P main first setting infos values cell_of o act0 right0 only0 d t

    module _ (x : Bearing S) (y : run.Fetched P main first setting infos values cell_of o act0 right0 only0 d t x) (over : is_ended P (new_task P (record { start = main; found = [] }) o).body ≡ true) (nowait : (new_task P (record { start = main; found = [] }) o).body.start.order.wait ≡ false) where
      body : x.body ≡ (new_task P (record { start = main; found = [] }) o).body
      body = y.body ∙ ap (λ (z : Body S). (new_task P z o).body) t.body

      -- the word is read, and what was read is kept
      abbrev read2 : Fixed
      read2 = record { entry = 2; state = open_flags; value = None }

      abbrev v11 : Sight S
      v11 = record (v10 x) { seen = record { entry = 2; state = open_flags } ∷ []; still = read2 ∷ [] }

      f11 : FieldAt P main first IsJob 5 net2 (λ e. false) role1 k10 (v11 ∷ [])
      f11 =
          let g = word_reads_keep S (Job S) IsJob P main first 5 k10 (v10 x ∷ []) y.rule.field 0 (v10 x) v11 2 (record {
            sits = refl;
            ready = refl;
            seen = refl;
            still = inr (0, x, refl, r2, ap (λ (z : ℕ → Option Role). z 2) y.rule.same_role, sym y.path, refl);
            same = record { words = refl; bears = refl; makes = refl; loaded = refl; joined = refl; owes = refl };
          }) in
          record { field = g.field; same_net = g.same_net ∙ y.rule.same_net; same_gave = g.same_gave ∙ y.rule.same_gave; same_role = g.same_role ∙ y.rule.same_role }

      -- the value is written, and kept too
      abbrev value : ℕ
      value = slot_of P x.body.start 0 Add x.body.found

      abbrev k12 : Parts (Job S)
      k12 = record k10 { values = λ e. cond (e == 2) value (values e) }

      abbrev wrote2 : Fixed
      wrote2 = record { entry = 2; state = open_flags; value = Some value }

      abbrev v12 : Sight S
      v12 = record v11 { still = wrote2 ∷ [] }

      f12 : FieldAt P main first IsJob 5 net2 (λ e. false) role1 k12 (v12 ∷ [])
      f12 =
          let step : JobGoes v11 v12 0 x x = record { has = refl; bears = refl; number = refl; path = refl; last = refl; start = refl; makes = refl; ready = refl; joined = refl } in
          let g = values_keep S (Job S) IsJob P main first 5 k10 (v11 ∷ []) f11.field 0 v11 v12 0 x x x.body 2 r2 value k12.values (record {
            entry = record {
              with_job = record { sits = refl; job = step; alone = still_there };
              loaded = λ a h. elim h [ ];
              body = refl;
              is = ap (λ (z : ℕ → Option Role). z 2) f11.same_role;
              path = sym y.path;
              owes = refl;
              none = refl;
              seen = refl;
            };
            words = refl;
            unleft = refl;
            value_is = refl;
            others = λ j ne. else_ (j == 2) value (values j) (apart_from j 2 ne);
            still = λ a h. inr (read2, among_first refl, refl, sym (among_one wrote2 a h));
          }) in
          record { field = g.field; same_net = g.same_net ∙ f11.same_net; same_gave = g.same_gave ∙ f11.same_gave; same_role = g.same_role ∙ f11.same_role }

      -- it is left: nothing of this entry is kept any more
      abbrev left2 : EntryState
      left2 = record open_flags { left = true }

      abbrev k13 : Parts (Job S)
      k13 = record k12 { states = λ e. cond (e == 2) left2 (k8.states e) }

      abbrev v13 : Sight S
      v13 = record v12 { words = record first_view { held = record { entry = 2; flag = 0 } ∷ [] }; still = [] }

      leaves : Leaves k12.states k13.states k12.infos 2 v12.words v13.words
      leaves = record { empty = refl; full = refl; keeps = refl; sets = refl; others = λ j ne. else_ (j == 2) left2 (k8.states j) (apart_from j 2 ne); sends = refl; whole = refl }

      f13 : FieldAt P main first IsJob 5 net2 (λ e. false) role1 k13 (v13 ∷ [])
      f13 =
          let f = f12.field in
          let hangs : f.net.place 2 ≢ apart = λ h. let z : top ≡ apart = ap (λ (n : Net). n.place 2) (sym f12.same_net) ∙ h in let bad : ⊥ = cc in bad in
          let step : JobGoes v12 v13 0 x x = record { has = refl; bears = refl; number = refl; path = refl; last = refl; start = refl; makes = refl; ready = refl; joined = refl } in
          let g = leaves_keep S (Job S) IsJob P main first 5 k12 (v12 ∷ []) f 0 v12 v13 0 x x x.body 2 r2 k13.states 0 Add (record {
            entry = record {
              with_job = record { sits = refl; job = step; alone = still_there };
              loaded = λ a h. elim h [ ];
              body = refl;
              is = ap (λ (z : ℕ → Option Role). z 2) f12.same_role;
              path = sym y.path;
              owes = refl;
              none = refl;
              seen = refl;
            };
            hangs = hangs;
            word = leaves;
            site = refl;
            right = ap (λ (z : Body S). right_of z.start.context 0) body ∙ right0;
            ended = ap (λ (z : Body S). is_ended P z) body ∙ over;
            wait = λ w. let z : false ≡ true = sym nowait ∙ ap (λ (b : Body S). b.start.order.wait) (sym body) ∙ w in absurd (let bad : ⊥ = cc in bad);
            value = refl;
            still = λ a h. elim h [ ];
          }) in
          record { field = g.field; same_net = g.same_net ∙ f12.same_net; same_gave = g.same_gave ∙ f12.same_gave; same_role = g.same_role ∙ f12.same_role }
