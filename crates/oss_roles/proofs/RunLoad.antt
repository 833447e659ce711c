-- A run of two seats: the second one takes main's job, which loads a cell and folds into it, and is put back. The fold is a load and a store.
use Rattle.std.proofs.Common.{◌≡◌, ◌≢◌, sym, subst, refl, ◌∙◌, ap, ℕ, arith, false, List, [], ◌∷◌, Some, None}
use Rattle.std.specs.Prelude.{◌==◌, cond, slice_index, slice_set}
use Rattle.oss_syntax.specs.declared.access.Op.{Op}
use Rattle.oss_model.specs.Agreement.{Setting}
use Rattle.oss_model.specs.Bodies.{Program, Start, Body}
use Rattle.oss_model.specs.Bodies.Act.{Load, Folded}
use Rattle.oss_model.specs.Moves.{act_now, combine}
use Rattle.oss_words.specs.declared.entry.EntryInfo.{EntryInfo}
use Rattle.oss_words.specs.Net.{bare}
use Rattle.oss_words.specs.Views.{Among, among_first, among_later}
use Rattle.oss_roles.specs.Alone.{with_answer}
use Rattle.oss_roles.specs.Field.{FieldAt, Parts}
use Rattle.oss_roles.specs.JobSteps.{folds, StaysLoaded, of_this}
use Rattle.oss_roles.specs.Passing.{still_there}
use Rattle.oss_roles.specs.Sights.{Bearing, Noted, Sight}
use Rattle.oss_roles.specs.Starts.{first_sight}
use Rattle.oss_roles.proofs.JobClaims.{loads_keep, stores_keep, own_acts_keep}
use Rattle.oss_roles.proofs.MakeClaims.{takes_keep, puts_keep}
use Rattle.oss_roles.proofs.RunWrite.{Job, IsJob, else_, apart_from, some_same}
use Rattle.oss_roles.proofs.StartLaw.{start_field, first_parts}
use Rattle.oss_roles.proofs.WordClaims.{new_seats_keep, quiet_steps_keep, count_reads_keep}

module _ {S : Type 0} (P : Program S) (main : Start S) (first : List ℕ) (setting : Setting main first) (infos : ℕ → EntryInfo) (values cell_of : ℕ → ℕ) (cell : ℕ) (op : Op) (operand : ℕ)
    (act0 : act_now P (record { start = main; found = [] }) ≡ Load cell)
    (act1 : act_now P (with_answer (slice_index first cell) (record { start = main; found = [] })) ≡ Folded cell op operand false) where
  abbrev b0 : Body S
  b0 = record { start = main; found = [] }

  abbrev j0 : Job S
  j0 = record { task = 0; body = b0; last = λ y. None }

  abbrev k0 : Parts (Job S)
  k0 = first_parts j0 infos values cell_of first

  abbrev v0 : Sight S
  v0 = first_sight

  f0 : FieldAt P main first IsJob 2 bare (λ e. false) (λ e. None) k0 (v0 ∷ [])
  f0 = start_field P main first IsJob setting 2 (omega (arith)) (omega (arith)) j0 infos values cell_of (record { task = refl; body = refl; last = λ y. refl })

  -- a second seat comes
  f1 : FieldAt P main first IsJob 2 bare (λ e. false) (λ e. None) k0 (v0 ∷ v0 ∷ [])
  f1 =
      let g = new_seats_keep S (Job S) IsJob P main first 2 k0 (v0 ∷ []) f0.field v0 (record { held = refl; half = refl; bears = refl; makes = refl; joined = refl; owes = refl; ready = refl; loaded = refl; seen = refl; still = refl }) in
      record { field = g.field; same_net = g.same_net ∙ f0.same_net; same_gave = g.same_gave ∙ f0.same_gave; same_role = g.same_role ∙ f0.same_role }

  -- it reads main's count, and takes its job
  abbrev v2 : Sight S
  v2 = record v0 { ready = 0 ∷ [] }

  f2 : FieldAt P main first IsJob 2 bare (λ e. false) (λ e. None) k0 (v0 ∷ v2 ∷ [])
  f2 =
      let g = count_reads_keep S (Job S) IsJob P main first 2 k0 (v0 ∷ v0 ∷ []) f1.field 1 v0 v2 0 (record { sits = refl; inside = omega (arith); spent = refl; ready = refl; seen = refl; still = refl; same = record { words = refl; bears = refl; makes = refl; loaded = refl; joined = refl; owes = refl } }) in
      record { field = g.field; same_net = g.same_net ∙ f1.same_net; same_gave = g.same_gave ∙ f1.same_gave; same_role = g.same_role ∙ f1.same_role }

  abbrev k3 : Parts (Job S)
  k3 = record k0 { bodies = λ t. cond (t == 0) 2 0; jobs = λ t. None }

  abbrev v3 : Bearing S → Sight S
  v3 d = record v2 { bears = d ∷ [] }

  record Fetched (d : Bearing S) : Type 0 where
    number : d.number ≡ 0
    body : d.body ≡ b0
    rule : FieldAt P main first IsJob 2 bare (λ e. false) (λ e. None) k3 (v0 ∷ v3 d ∷ [])

  f3 : (d : Bearing S) × Fetched d
  f3 =
      let t = takes_keep S (Job S) IsJob P main first 2 k0 (v0 ∷ v2 ∷ []) f2.field 1 v2 0 k3.bodies k3.jobs (record {
        sits = refl;
        found = among_first refl;
        one = refl;
        out = refl;
        empty = refl;
        other_bodies = λ j ne. else_ (j == 0) 2 0 (apart_from j 0 ne) ∙ sym (else_ (j == 0) 1 0 (apart_from j 0 ne));
        other_jobs = λ j ne. sym (else_ (j == 0) (Some j0) None (apart_from j 0 ne));
      }) in
      let d = t.bearing in
      let g = t.keeps (v3 d) (record { words = refl; makes = refl; ready = refl; joined = refl; owes = refl; seen = refl }) refl refl refl in
      let same : j0 ≡ t.job = some_same j0 t.job t.stood in (
        d,
        record {
          number = t.number;
          body = sym t.is.body ∙ ap (λ (j : Job S). j.body) (sym same);
          rule = record { field = g.field; same_net = g.same_net ∙ f2.same_net; same_gave = g.same_gave ∙ f2.same_gave; same_role = g.same_role ∙ f2.same_role };
        },
      )

  module _ (d : Bearing S) (t : Fetched d) where
    -- it loads the cell
    abbrev value : ℕ
    value = slice_index first cell

    abbrev c : Bearing S
    c = record { number = d.number; path = d.path; body = with_answer value d.body; last = d.last }

    abbrev v4 : Sight S
    v4 = record v2 { bears = c ∷ [] }

    f4 : FieldAt P main first IsJob 2 bare (λ e. false) (λ e. None) k3 (v0 ∷ v4 ∷ [])
    f4 =
        let g = loads_keep S (Job S) IsJob P main first 2 k3 (v0 ∷ v3 d ∷ []) t.rule.field 1 (v3 d) v4 0 d c d.body cell (record {
          with_job = record { sits = refl; job = record { has = refl; bears = refl; number = refl; path = refl; last = refl; start = refl; makes = refl; ready = refl; joined = refl }; alone = still_there };
          same = record { words = refl; owes = refl; seen = refl; still = refl };
          loaded = λ a h. elim h [ ];
          act = ap (λ (z : Body S). act_now P z) t.body ∙ act0;
          body = refl;
        }) in
        record { field = g.field; same_net = g.same_net ∙ t.rule.same_net; same_gave = g.same_gave ∙ t.rule.same_gave; same_role = g.same_role ∙ t.rule.same_role }

    -- the first half of the fold finds what the cell is
    act : act_now P c.body ≡ Folded cell op operand false
    act = ap (λ (z : Body S). act_now P (with_answer value z)) t.body ∙ act1

    abbrev noted : Noted
    noted = record { name = d.number; value = value }

    abbrev v5 : Sight S
    v5 = record v4 { loaded = noted ∷ [] }

    f5 : FieldAt P main first IsJob 2 bare (λ e. false) (λ e. None) k3 (v0 ∷ v5 ∷ [])
    f5 =
        let g = own_acts_keep S (Job S) IsJob P main first 2 k3 (v0 ∷ v4 ∷ []) f4.field 1 v4 v5 0 c c c.body (record {
          with_job = record { sits = refl; job = record { has = refl; bears = refl; number = refl; path = refl; last = refl; start = refl; makes = refl; ready = refl; joined = refl }; alone = still_there };
          same = record { words = refl; owes = refl; seen = refl; still = refl };
          loaded = found;
          body = refl;
        }) in
        record { field = g.field; same_net = g.same_net ∙ f4.same_net; same_gave = g.same_gave ∙ f4.same_gave; same_role = g.same_role ∙ f4.same_role }
      where
        found : (y : Noted) → Among y (noted ∷ []) → StaysLoaded P first v4 c c.body y
        found y (among_first q) = subst (λ (z : Noted). StaysLoaded P first v4 c c.body z) q (of_this refl cell op operand act refl)
        found y (among_later h) = elim h [ ]

    -- the second half stores the fold
    abbrev e : Bearing S
    e = record { number = d.number; path = d.path; body = with_answer 0 c.body; last = d.last }

    abbrev k6 : Parts (Job S)
    k6 = record k3 { cells = slice_set first cell (combine op value operand) }

    abbrev v6 : Sight S
    v6 = record v2 { bears = e ∷ [] }

    f6 : FieldAt P main first IsJob 2 bare (λ e. false) (λ e. None) k6 (v0 ∷ v6 ∷ [])
    f6 =
        let g = stores_keep S (Job S) IsJob P main first 2 k3 (v0 ∷ v5 ∷ []) f5.field 1 v5 v6 0 c e c.body k6.cells (record {
          with_job = record { sits = refl; job = record { has = refl; bears = refl; number = refl; path = refl; last = refl; start = refl; makes = refl; ready = refl; joined = refl }; alone = still_there };
          same = record { words = refl; owes = refl; seen = refl; still = refl };
          loaded = λ a h. elim h [ ];
          writes = folds cell op operand act refl;
          body = refl;
        }) in
        record { field = g.field; same_net = g.same_net ∙ f5.same_net; same_gave = g.same_gave ∙ f5.same_gave; same_role = g.same_role ∙ f5.same_role }

    -- it forgets what it has read of counts, and puts the job back
    abbrev v7 : Sight S
    v7 = record v6 { ready = [] }

    f7 : FieldAt P main first IsJob 2 bare (λ e. false) (λ e. None) k6 (v0 ∷ v7 ∷ [])
    f7 =
        let g = quiet_steps_keep S (Job S) IsJob P main first 2 k6 (v0 ∷ v6 ∷ []) f6.field 1 v6 v7 refl (record {
          held = refl;
          half = refl;
          bears = refl;
          makes = refl;
          joined = refl;
          owes = refl;
          ready = λ a h. elim h [ ];
          loaded = λ a h. h;
          seen = λ a h. h;
          still = λ a h. h;
        }) in
        record { field = g.field; same_net = g.same_net ∙ f6.same_net; same_gave = g.same_gave ∙ f6.same_gave; same_role = g.same_role ∙ f6.same_role }

    abbrev back : Job S
    back = record { task = 0; body = e.body; last = d.last }

    abbrev k8 : Parts (Job S)
    k8 = record k6 { bodies = λ t. cond (t == 0) 1 0; jobs = λ t. cond (t == 0) (Some back) None }

    f8 : FieldAt P main first IsJob 2 bare (λ e. false) (λ e. None) k8 (v0 ∷ v0 ∷ [])
    f8 =
        let zero_apart : (j : ℕ) → j ≢ d.number → j ≢ 0 = λ j ne q. ne (q ∙ sym t.number) in
        let g = puts_keep S (Job S) IsJob P main first 2 k6 (v0 ∷ v7 ∷ []) f7.field 1 v7 v0 e back k8.bodies k8.jobs (record {
          sits = refl;
          same = record { words = refl; makes = refl; ready = refl; joined = refl; owes = refl; seen = refl };
          bears = refl;
          is = record { task = sym t.number; body = refl; last = λ y. refl };
          home = ap (λ (z : ℕ). k8.bodies z) t.number;
          full = ap (λ (z : ℕ). k8.jobs z) t.number;
          other_bodies = λ j ne. else_ (j == 0) 1 0 (apart_from j 0 (zero_apart j ne)) ∙ sym (else_ (j == 0) 2 0 (apart_from j 0 (zero_apart j ne)));
          other_jobs = λ j ne. else_ (j == 0) (Some back) None (apart_from j 0 (zero_apart j ne));
          makes = λ a h. elim h [ ];
          loaded = λ a h. elim h [ ];
          still = λ a h. elim h [ ];
        }) in
        record { field = g.field; same_net = g.same_net ∙ f7.same_net; same_gave = g.same_gave ∙ f7.same_gave; same_role = g.same_role ∙ f7.same_role }
