-- The run of `RunStore` goes on: main's job is put back, and the seat forgets what it has read. The field is at rest then, in the middle of a run: it
-- may be opened again there, and the jobs of both tasks stand at home.
use Rattle.std.proofs.Common.{◌≡◌, ◌≢◌, sym, refl, ◌∙◌, ap, ℕ, arith, Bool, true, false, List, [], ◌∷◌, Option, Some}
use Rattle.std.specs.Prelude.{◌==◌, cond}
use Rattle.oss_syntax.specs.declared.access.Mode.{Mode}
use Rattle.oss_syntax.specs.declared.access.Mode.TheVariants.{Write}
use Rattle.oss_model.specs.Agreement.{Setting}
use Rattle.oss_model.specs.Bodies.{Order, Program, Start}
use Rattle.oss_model.specs.Bodies.Act.{Created, Store}
use Rattle.oss_model.specs.Context.{right_of}
use Rattle.oss_model.specs.Machine.{Task}
use Rattle.oss_model.specs.Moves.{act_now, is_ended, new_task}
use Rattle.oss_model.specs.Rights.{Holds}
use Rattle.oss_words.specs.declared.entry.EntryInfo.{EntryInfo}
use Rattle.oss_words.specs.declared.entry.EntryState.{EntryState}
use Rattle.oss_words.specs.Net.{Net}
use Rattle.oss_words.specs.Views.{first_view}
use Rattle.oss_roles.specs.Alone.{with_answer}
use Rattle.oss_roles.specs.Field.{FieldAt, Parts}
use Rattle.oss_roles.specs.Rest.{idle, AtRest, StandsAtHome}
use Rattle.oss_roles.specs.Roles.{Role}
use Rattle.oss_roles.specs.Sights.{Bearing, Sight}
use Rattle.oss_roles.proofs.MakeClaims.{puts_keep}
use Rattle.oss_roles.proofs.WordClaims.{all_stand_at_home, idle_fields_rest, no_count_is_ready, quiet_steps_keep, rests_keep}
use Rattle.oss_roles.proofs.RunStore as store
use Rattle.oss_roles.proofs.RunWrite as run
use Rattle.oss_roles.proofs.RunWrite.{Job, IsJob, else_, apart_from}

unleft : (b : Bool) (x y : EntryState) → x.left ≡ false → y.left ≡ false → (cond b x y).left ≡ false
unleft true x y p q = p
unleft false x y p q = q

module _ {S : Type 0} (P : Program S) (main : Start S) (first : List ℕ) (setting : Setting main first) (infos : ℕ → EntryInfo) (values cell_of : ℕ → ℕ) (o : Order S)
    (act0 : act_now P (record { start = main; found = [] }) ≡ Created o false)
    (right0 : right_of (new_task P (record { start = main; found = [] }) o).body.start.context 0 ≡ Holds Write true)
    (only0 : (c : ℕ) (m : Mode) (s : Bool) → right_of (new_task P (record { start = main; found = [] }) o).body.start.context c ≡ Holds m s → c ≡ 0) where
  module _ (d : Bearing S) (t : run.Taken P main first setting infos values cell_of o act0 right0 only0 d) where
    abbrev role1 : ℕ → Option Role
    role1 = run.role1 P main first setting infos values cell_of o act0 right0 only0 d t

    abbrev net2 : Net
    net2 = run.net2 P main first setting infos values cell_of o act0 right0 only0 d t

    abbrev c : Bearing S
    c = run.c P main first setting infos values cell_of o act0 right0 only0 d t

    module _ (x : Bearing S) (y : store.Fetched P main first setting infos values cell_of o act0 right0 only0 d t x) (stored : ℕ) (act1 : act_now P (new_task P (record { start = main; found = [] }) o).body ≡ Store 0 stored)
        (over : is_ended P (with_answer 0 (new_task P (record { start = main; found = [] }) o).body) ≡ true) (nowait : (new_task P (record { start = main; found = [] }) o).body.start.order.wait ≡ false) where
      abbrev gave2 : ℕ → Bool
      gave2 = store.gave2 P main first setting infos values cell_of o act0 right0 only0 d t x y stored act1 over nowait

      abbrev k13 : Parts (Job S)
      k13 = store.k13 P main first setting infos values cell_of o act0 right0 only0 d t x y stored act1 over nowait

      abbrev v13 : Sight S
      v13 = store.v13 P main first setting infos values cell_of o act0 right0 only0 d t x y stored act1 over nowait

      f13 : FieldAt P main first IsJob 7 net2 gave2 role1 k13 (v13 ∷ [])
      f13 = store.f13 P main first setting infos values cell_of o act0 right0 only0 d t x y stored act1 over nowait

      -- main's job is put back
      abbrev mains : Job S
      mains = record { task = 0; body = c.body; last = c.last }

      abbrev k14 : Parts (Job S)
      k14 = record k13 { bodies = λ e. cond (e == 0) 1 (k13.bodies e); jobs = λ e. cond (e == 0) (Some mains) (k13.jobs e) }

      abbrev v14 : Sight S
      v14 = record v13 { bears = [] }

      f14 : FieldAt P main first IsJob 7 net2 gave2 role1 k14 (v14 ∷ [])
      f14 =
          let at_zero : (j : ℕ) → j ≢ d.number → j ≢ 0 = λ j ne q. ne (q ∙ sym t.number) in
          let g = puts_keep S (Job S) IsJob P main first 7 k13 (v13 ∷ []) f13.field 0 v13 v14 c mains k14.bodies k14.jobs (record {
            sits = refl;
            same = record { words = refl; makes = refl; ready = refl; joined = refl; owes = refl; seen = refl };
            bears = refl;
            is = record { task = sym t.number; body = refl; last = λ z. refl };
            home = ap (λ (z : ℕ). k14.bodies z) t.number;
            full = ap (λ (z : ℕ). k14.jobs z) t.number;
            other_bodies = λ j ne. else_ (j == 0) 1 (k13.bodies j) (apart_from j 0 (at_zero j ne));
            other_jobs = λ j ne. else_ (j == 0) (Some mains) (k13.jobs j) (apart_from j 0 (at_zero j ne));
            makes = λ a h. elim h [ ];
            loaded = λ a h. elim h [ ];
            still = λ a h. elim h [ ];
          }) in
          record { field = g.field; same_net = g.same_net ∙ f13.same_net; same_gave = g.same_gave ∙ f13.same_gave; same_role = g.same_role ∙ f13.same_role }

      -- the seat forgets what it has read of counts
      f15 : FieldAt P main first IsJob 7 net2 gave2 role1 k14 (idle first_view ∷ [])
      f15 =
          let g = quiet_steps_keep S (Job S) IsJob P main first 7 k14 (v14 ∷ []) f14.field 0 v14 (idle first_view) refl (record {
            held = refl;
            half = refl;
            bears = refl;
            makes = refl;
            joined = refl;
            owes = refl;
            ready = λ a h. elim h [ ];
            loaded = λ a h. h;
            seen = λ a h. h;
            still = λ a h. h;
          }) in
          record { field = g.field; same_net = g.same_net ∙ f14.same_net; same_gave = g.same_gave ∙ f14.same_gave; same_role = g.same_role ∙ f14.same_role }

      -- it is at rest, and so the rule holds of what stands there
      rest : AtRest P IsJob 7 f15.field.net f15.field.gave f15.field.role k14 first_view f15.field.state
      rest = idle_fields_rest S (Job S) IsJob P main first 7 k14 first_view f15.field no_value
        where
          no_value : (e : ℕ) → (k14.states e).left ≡ false
          no_value e = unleft (e == 2) (k14.states 2) (cond (e == 1) (k14.states 1) (k14.states 0)) refl (unleft (e == 1) (k14.states 1) (k14.states 0) refl refl)

      again : FieldAt P main first IsJob 7 f15.field.net f15.field.gave f15.field.role k14 (idle first_view ∷ [])
      again = rests_keep S (Job S) IsJob P main first 7 f15.field.net f15.field.gave f15.field.role k14 first_view f15.field.state setting f15.field.reached rest

      -- the first task is there, and its job stands in its slot
      at_home : (p : List ℕ) × (u : Task S) × StandsAtHome IsJob k14 f15.field.role p u
      at_home = (let one = no_count_is_ready S (Job S) IsJob P main first 7 k14 (idle first_view ∷ []) f15.field 1 (omega (arith)) refl in (one.0, one.1, all_stand_at_home S (Job S) IsJob P main first 7 k14 (idle first_view ∷ []) f15.field one.0 one.1 (λ z. refl) one.3))
