-- The run of `RunStore` goes on from where the new task's job is taken: the task ticks and releases its cell, and then the cell is given up before
-- the task has ended. The table's step is the give alone: the machine makes both own acts and the give in that one step.
use Rattle.std.proofs.Common.{◌≡◌, ◌≢◌, sym, subst, refl, ◌∙◌, ap, ℕ, Bool, true, false, List, [], ◌∷◌, Option, Some}
use Rattle.std.specs.Prelude.{◌==◌, cond}
use Rattle.oss_syntax.specs.declared.access.Access.{Access}
use Rattle.oss_syntax.specs.declared.access.Mode.{Mode}
use Rattle.oss_syntax.specs.declared.access.Mode.TheVariants.{Write, Fold}
use Rattle.oss_model.specs.Agreement.{Setting}
use Rattle.oss_model.specs.Bodies.{Order, Program, Start, Act, Body, stack_from}
use Rattle.oss_model.specs.Bodies.Act.{Created, Ticked, Releases}
use Rattle.oss_model.specs.Context.{right_of}
use Rattle.oss_model.specs.Moves.{act_now, is_ended, new_task}
use Rattle.oss_model.specs.Rights.{Holds, Released}
use Rattle.oss_words.specs.declared.entry.EntryInfo.{EntryInfo}
use Rattle.oss_words.specs.declared.entry.EntryState.{EntryState}
use Rattle.oss_words.specs.Net.{Net, apart, top}
use Rattle.oss_words.specs.Steps.{no_flags, Gives, GivesUp}
use Rattle.oss_roles.specs.Alone.{GoesAlone, IsOwnAct, with_answer}
use Rattle.oss_roles.specs.Field.{FieldAt, Parts}
use Rattle.oss_roles.specs.JobSteps.{released, at_once}
use Rattle.oss_roles.specs.Passing.{MayGo, MayPass, still_there, went_on}
use Rattle.oss_roles.specs.Roles.{Role}
use Rattle.oss_roles.specs.Sights.{Bearing, Sight}
use Rattle.oss_roles.specs.Steps.{JobGoes}
use Rattle.oss_roles.proofs.JobClaims.{gives_keep}
use Rattle.oss_roles.proofs.WordClaims.{what_may_go_goes}
use Rattle.oss_roles.proofs.RunStore as store
use Rattle.oss_roles.proofs.RunWrite as run
use Rattle.oss_roles.proofs.RunWrite.{Job, IsJob, else_, apart_from}

module _ {S : Type 0} (P : Program S) (main : Start S) (first : List ℕ) (setting : Setting main first) (infos : ℕ → EntryInfo) (values cell_of : ℕ → ℕ) (o : Order S)
    (act0 : act_now P (record { start = main; found = [] }) ≡ Created o false)
    (right0 : right_of (new_task P (record { start = main; found = [] }) o).body.start.context 0 ≡ Holds Write true)
    (only0 : (c : ℕ) (m : Mode) (s : Bool) → right_of (new_task P (record { start = main; found = [] }) o).body.start.context c ≡ Holds m s → c ≡ 0) where
  abbrev b0 : Body S
  b0 = run.b0 P main first setting infos values cell_of o act0 right0 only0

  module _ (d : Bearing S) (t : run.Taken P main first setting infos values cell_of o act0 right0 only0 d) where
    abbrev r2 : Role
    r2 = run.r2 P main first setting infos values cell_of o act0 right0 only0 d t

    abbrev role1 : ℕ → Option Role
    role1 = run.role1 P main first setting infos values cell_of o act0 right0 only0 d t

    abbrev open_flags : EntryState
    open_flags = run.open_flags P main first setting infos values cell_of o act0 right0 only0 d t

    abbrev k4 : Parts (Job S)
    k4 = run.k4 P main first setting infos values cell_of o act0 right0 only0 d t

    abbrev net2 : Net
    net2 = run.net2 P main first setting infos values cell_of o act0 right0 only0 d t

    abbrev k10 : Parts (Job S)
    k10 = store.k10 P main first setting infos values cell_of o act0 right0 only0 d t

    abbrev v10 : Bearing S → Sight S
    v10 = store.v10 P main first setting infos values cell_of o act0 right0 only0 d t

    -- the new task ticks, releases its cell, and goes on
    module _ (x : Bearing S) (y : store.Fetched P main first setting infos values cell_of o act0 right0 only0 d t x) (clauses : List Access)
        (act1 : act_now P (new_task P (record { start = main; found = [] }) o).body ≡ Ticked)
        (act2 : act_now P (with_answer 0 (new_task P (record { start = main; found = [] }) o).body) ≡ Releases clauses false)
        (gone : right_of (stack_from P (new_task P (record { start = main; found = [] }) o).body.start (0 ∷ 0 ∷ [])).base.context 0 ≡ Released)
        (runs : is_ended P (with_answer 0 (with_answer 0 (new_task P (record { start = main; found = [] }) o).body)) ≡ false) where
      same_body : x.body ≡ (new_task P b0 o).body
      same_body = y.body ∙ ap (λ (z : Body S). (new_task P z o).body) t.body

      abbrev x2 : Bearing S
      x2 = record { number = x.number; path = x.path; body = with_answer 0 (with_answer 0 x.body); last = x.last }

      ticks : act_now P x.body ≡ Ticked
      ticks = ap (λ (z : Body S). act_now P z) same_body ∙ act1

      releases : act_now P (with_answer 0 x.body) ≡ Releases clauses false
      releases = ap (λ (z : Body S). act_now P (with_answer 0 z)) same_body ∙ act2

      -- both acts are its own
      goes : MayGo P (v10 x) x x2.body
      goes =
          let once : MayGo P (v10 x) x (with_answer 0 x.body) = went_on still_there (subst IsOwnAct (sym ticks) tt) (subst (λ (a : Act S). MayPass (v10 x) x a) (sym ticks) tt) in
          went_on once (subst IsOwnAct (sym releases) tt) (subst (λ (a : Act S). MayPass (v10 x) x a) (sym releases) tt)

      -- so they are a run of the machine
      alone : GoesAlone P y.rule.field.state x.path x.body x2.body
      alone = what_may_go_goes S (Job S) IsJob P main first 7 k10 (v10 x ∷ []) y.rule.field 0 0 (v10 x) x x2.body refl refl goes

      -- the cell is given up
      abbrev k11 : Parts (Job S)
      k11 = record k10 { states = λ e. cond (e == 2) (record open_flags { given = true; done = true }) (cond (e == 1) open_flags no_flags) }

      abbrev gave2 : ℕ → Bool
      gave2 e = cond (e == 2) true false

      gives : Gives k10.states k11.states k10.infos 2 (v10 x).words (v10 x2).words
      gives =
          record {
            empty = refl;
            full = refl;
            childless = refl;
            stays = refl;
            sets = refl;
            others = λ j ne. else_ (j == 2) (record open_flags { given = true; done = true }) (k4.states j) (apart_from j 2 ne) ∙ sym (else_ (j == 2) open_flags (k4.states j) (apart_from j 2 ne));
            sends = refl;
            whole = refl;
          }

      f11 : FieldAt P main first IsJob 7 net2 gave2 role1 k11 (v10 x2 ∷ [])
      f11 =
          let f = y.rule.field in
          let is : f.role 2 ≡ Some r2 = ap (λ (z : ℕ → Option Role). z 2) y.rule.same_role in
          let hangs : f.net.place 2 ≢ apart = λ h. let z : top ≡ apart = ap (λ (n : Net). n.place 2) (sym y.rule.same_net) ∙ h in let bad : ⊥ = cc in bad in
          let up : GivesUp f.gave gave2 2 = record { now = refl; same = λ j ne. else_ (j == 2) true false (apart_from j 2 ne) ∙ ap (λ (z : ℕ → Bool). z j) (sym y.rule.same_gave) } in
          let step : JobGoes (v10 x) (v10 x2) 0 x x2 = record { has = refl; bears = refl; number = refl; path = refl; last = refl; start = refl; makes = refl; ready = refl; joined = refl } in
          let right : right_of x.body.start.context 0 ≡ Holds Write true = ap (λ (z : Body S). right_of z.start.context 0) same_body ∙ right0 in
          let g = gives_keep S (Job S) IsJob P main first 7 k10 (v10 x ∷ []) f 0 (v10 x) (v10 x2) 0 x x2 x2.body 2 r2 k11.states gave2 0 Write true (record {
            up = record {
              entry = record {
                with_job = record { sits = refl; job = step; alone = goes };
                loaded = λ a h. elim h [ ];
                body = refl;
                is = is;
                path = sym y.path;
                owes = refl;
                none = refl;
                seen = refl;
              };
              hangs = hangs;
              ungiven = refl;
              gives = up;
              word = at_once gives;
              still = λ a h. elim h [ ];
            };
            site = refl;
            right = right;
            no_fold = λ p h. let z : Holds Write true ≡ Holds (Fold p) true = sym right ∙ h in let bad : ⊥ = cc in bad;
            may = released (ap (λ (z : Body S). right_of (stack_from P z.start (0 ∷ 0 ∷ z.found)).base.context 0) same_body ∙ gone);
          }) in
          record { field = g.field; same_net = g.same_net ∙ y.rule.same_net; same_gave = g.same_gave; same_role = g.same_role ∙ y.rule.same_role }

      -- and the task has not ended
      pub early : is_ended P x2.body ≡ false
      early = ap (λ (z : Body S). is_ended P (with_answer 0 (with_answer 0 z))) same_body ∙ runs
