-- A job is taken out of its slot, and put back. No move: what a put catches up with is `run_field`.
use Rattle.std.proofs.Common.{◌≡◌, ◌≢◌, inl, inr, sym, subst, refl, ◌∙◌, ap, ℕ, zero, suc, ◌+◌, arith, true, false, List, ◌∷◌, set, Option, Some, None}
use Rattle.std.specs.Prelude.{◌==◌}
use mathlib.Core.Option as maybe
use lib.ListN.{get_elem?}
use Rattle.std.proofs.lemmas.Bool.Decides.{eqb_tells}
use Rattle.atomic_table.proofs.Lists.{at_set}
use Rattle.oss_model.specs.Bodies.{Program, Start, Body}
use Rattle.oss_model.specs.Machine.{Task, At, IsReady}
use Rattle.oss_model.specs.Moves.{new_task}
use Rattle.oss_model.proofs.TreeLemmas.{at_same}
use Rattle.oss_words.specs.Members.{Has}
use Rattle.oss_words.specs.Rule.{Kept}
use Rattle.oss_words.specs.Sums.{num}
use Rattle.oss_words.specs.Views.{View, Seen, Among}
use Rattle.oss_words.proofs.SumLemmas.{total_set, total_at, same_number}
use Rattle.oss_roles.specs.Field.{Field, FieldAt, Parts, Sits, Bears, times, numbers_of, held_by_all, owed_by_all, IsNumberOf, of_main, of_entry, AreLast, IsSomewhere, at_home, is_out, IsBorne, IsPut, not_put, going, is_put, IsMade, IsPending, IsStill}
use Rattle.oss_roles.specs.Roles.{Role, Site}
use Rattle.oss_roles.specs.Sights.{Bearing, Making, Noted, Fixed, Sight, Telling}
use Rattle.oss_roles.proofs.GoesLaw.{making_on}
use Rattle.oss_roles.proofs.JobLaw.{joined_forth, counts_owed, owed_same, words_same}
use Rattle.oss_roles.specs.Steps.{SameBeside}

one_if : (x y : ℕ) → x ≡ y → num (x == y) ≡ 1
one_if x y e = elim (eqb_tells x y) [ inl h ↦ rw h.0 refl | inr h ↦ absurd (h.1 e) ]

none_if : (x y : ℕ) → x ≢ y → num (x == y) ≡ 0
none_if x y ne = elim (eqb_tells x y) [ inl h ↦ absurd (ne h.1) | inr h ↦ rw h.0 refl ]

module _ {S J : Type 0} (P : Program S) (main : Start S) (first : List ℕ) (is_job : Telling S J) (n : ℕ) (k : Parts J) (sights : List (Sight S)) (f : Field P main first is_job n k sights) where
  -- a number is that of one path
  pub path_one : (t : ℕ) (p q : List ℕ) → IsNumberOf f.role t p → IsNumberOf f.role t q → p ≡ q
  path_one t p q of_main of_main = refl
  path_one t p q of_main (of_entry r is at path) = let z : None ≡ Some r = sym f.roles.main ∙ is in absurd (let bad : ⊥ = cc in bad)
  path_one t p q (of_entry r is at path) of_main = let z : None ≡ Some r = sym f.roles.main ∙ is in absurd (let bad : ⊥ = cc in bad)
  path_one t p q (of_entry r is at path) (of_entry s us bt qath) = let z : Some r ≡ Some s = sym is ∙ us in let same : r ≡ s = cc in sym path ∙ ap (λ (y : Role). y.path) same ∙ qath

  -- a task that is being made is none of the state
  pub made_apart : (o : Sight S) (a : Making) → IsMade P is_job k f.net f.role f.opened o a → (t : ℕ) (p : List ℕ) (u : Task S) → IsNumberOf f.role t p → At f.state p u → a.task ≢ t
  made_apart o a g t p u of_main h e = let own = g.own in let z : None ≡ Some own.0 = sym f.roles.main ∙ ap (λ (y : ℕ). f.role y) (sym e) ∙ own.1 in cc
  made_apart o a g t p u (of_entry r is at path) h e =
      let there : At f.state r.path u = subst (λ (z : List ℕ). At f.state z u) (sym path) h in
      let open_ = (f.counts.opened_is t r is at).1 (u, there) in
      let z : true ≡ false = sym open_ ∙ ap (λ (y : ℕ). f.opened y) (sym e) ∙ g.closed in cc

  -- a task with a role has a number that is none of an unused entry
  pub used_apart : (e : ℕ) → e ≢ 0 → f.role e ≡ None → (t : ℕ) (p : List ℕ) → IsNumberOf f.role t p → e ≢ t
  used_apart e ne none t p of_main q = ne q
  used_apart e ne none t p (of_entry r is at path) q = let z : None ≡ Some r = sym none ∙ ap (λ (y : ℕ). f.role y) q ∙ is in cc

  module _ (id : ℕ) (v w : Sight S) (at : Sits sights id v) (same : SameBeside v w) (t : ℕ) (p : List ℕ) (u : Task S) (number : IsNumberOf f.role t p) (there : At f.state p u)
      (bodies' : ℕ → ℕ) (jobs' : ℕ → Option J) (other_bodies : (j : ℕ) → j ≢ t → bodies' j ≡ k.bodies j) (other_jobs : (j : ℕ) → j ≢ t → jobs' j ≡ k.jobs j) where
    abbrev sights' : List (Sight S)
    sights' = set sights id w

    abbrev k' : Parts J
    k' = record k { bodies = bodies'; jobs = jobs' }

    last_on : (q : List ℕ) (last : Site → Option ℕ) → AreLast sights f.net f.role q last → AreLast sights' f.net f.role q last
    last_on q last l =
        record {
          some = λ y o is.
              let a = l.some y o is in
              (a.0, a.1, a.2, a.3, a.4, a.5, (λ e s j eis h epath site free. a.6 e s j eis h epath site (λ z. free (making_on sights id v w at same.makes s.task z))));
          none = λ y is e s j eis h epath site. making_on sights id v w at same.makes s.task (l.none y is e s j eis h epath site);
        }

    borne_on : (d : Bearing S) → IsBorne f.state sights f.net f.role d → IsBorne f.state sights' f.net f.role d
    borne_on d x = record { number = x.number; task = x.task; at_ = x.at_; body = x.body; ready = x.ready; last = last_on d.path d.last x.last }

    put_on : (y : Body S) (a : Making) → a.task ≢ t → IsPut is_job k a y → IsPut is_job k' a y
    put_on y a ne (not_put one two none) = not_put one (other_bodies a.task ne ∙ two) (other_jobs a.task ne ∙ none)
    put_on y a ne (going one two none) = going one (other_bodies a.task ne ∙ two) (other_jobs a.task ne ∙ none)
    put_on y a ne (is_put x one two is job) = is_put x one (other_bodies a.task ne ∙ two) (other_jobs a.task ne ∙ is) job

    made_on : (o x : Sight S) (a : Making) → (g : IsMade P is_job k f.net f.role f.opened o a) → (m : ℕ) → Bears x m g.creator → IsMade P is_job k' f.net f.role f.opened x a
    made_on o x a g m held =
        record {
          creator = g.creator;
          place = m;
          held = held;
          by = g.by;
          order = g.order;
          act = g.act;
          closed = g.closed;
          own = g.own;
          access = g.access;
          job = put_on (new_task P g.creator.body g.order).body a (made_apart o a g t p u number there) g.job;
        }

    pending_at : (o x : Sight S) (a : Noted) → (g : IsPending P k.cells o a) → (m : ℕ) → Bears x m g.bearing → IsPending P k.cells x a
    pending_at o x a g m held = record { bearing = g.bearing; place = m; held = held; number = g.number; cell = g.cell; op = g.op; operand = g.operand; act = g.act; value = g.value }

    still_at : (o x : Sight S) (a : Fixed) → (g : IsStill f.role k.states k.values o a) → (m : ℕ) → Bears x m g.bearing → IsStill f.role k.states k.values x a
    still_at o x a g m held = record { bearing = g.bearing; place = m; held = held; it = g.it; is = g.is; path = g.path; left = g.left; given = g.given; value = g.value }

    -- what such a step tells of the seat's jobs
    pub record Holds : Type 0 where
      pub held : (q : ℕ) → q ≢ t → times q (numbers_of w.bears) ≡ times q (numbers_of v.bears)
      pub somewhere : IsSomewhere is_job k' sights' f.net f.role t p u.body
      pub borne : (m : ℕ) (d : Bearing S) → Bears w m d → IsBorne f.state sights f.net f.role d
      pub made : (a : Making) → Among a v.makes → (g : IsMade P is_job k f.net f.role f.opened v a) → (m : ℕ) × Bears w m g.creator
      pub loaded : (a : Noted) → Among a w.loaded → Among a v.loaded × ((g : IsPending P k.cells v a) → (m : ℕ) × Bears w m g.bearing)
      pub still : (a : Fixed) → Among a w.still → Among a v.still × ((g : IsStill f.role k.states k.values v a) → (m : ℕ) × Bears w m g.bearing)

    pub hold_field : Holds → FieldAt P main first is_job n f.net f.gave f.role k' sights'
    hold_field x =
        record {
          field = record {
            net = f.net;
            gave = f.gave;
            role = f.role;
            opened = f.opened;
            state = f.state;
            words = subst (λ (z : List View). Kept n f.net f.gave k.states k.infos z) (sym (words_same sights id v w at same.words)) f.words;
            gave_hangs = f.gave_hangs;
            unused = λ e ne none. let o = f.unused e ne none in let far = used_apart e ne none t p number in (other_bodies e far ∙ o.0, other_jobs e far ∙ o.1);
            roles = f.roles;
            filed = f.filed;
            given = record {
              cell = f.given.cell;
              own = f.given.own;
              back = λ e c r is site h. elim (f.given.back e c r is site h) [ inl g ↦ inl g | inr g ↦ inr (joined_forth sights id v w at same.joined e g) ];
            };
            counts = counts_owed f.state n f.net f.role k.states f.opened (owed_by_all sights) (owed_by_all sights') k.counts (owed_same sights id v w at same.owes) f.counts;
            cells = f.cells;
            planned = λ e r is. elim (f.planned e r is) [ inl y ↦ inl y | inr m ↦ inr (making_on sights id v w at same.makes r.task m) ];
            somewhere = λ q a y num h. elim (same_number q t) [
              | inl e ↦ mine q a y num h e
              | inr ne ↦ others q a y ne (f.somewhere q a y num h)
            ];
            borne = λ j y sits m d has. elim (at_set sights id j w y sits) [
              | inl h ↦ borne_on d (x.borne m d (subst (λ (z : Sight S). Bears z m d) (sym h.1) has))
              | inr h ↦ borne_on d (f.borne j y h.1 m d has)
            ];
            made = λ j y sits a among. elim (at_set sights id j w y sits) [
              | inl h ↦
                  let old = subst (λ (l : List Making). Among a l) same.makes (subst (λ (z : Sight S). Among a z.makes) (sym h.1) among) in
                  let g = f.made id v at a old in
                  let m = x.made a old g in
                  subst (λ (z : Sight S). IsMade P is_job k' f.net f.role f.opened z a) h.1 (made_on v w a g m.0 m.1)
              | inr h ↦ let g = f.made j y h.1 a among in made_on y y a g g.place g.held
            ];
            left = f.left;
            numbered = f.numbered;
            loaded = λ j y sits a among. elim (at_set sights id j w y sits) [
              | inl h ↦
                  let old = x.loaded a (subst (λ (z : Sight S). Among a z.loaded) (sym h.1) among) in
                  let g = f.loaded id v at a old.0 in
                  let m = old.1 g in
                  subst (λ (z : Sight S). IsPending P k.cells z a) h.1 (pending_at v w a g m.0 m.1)
              | inr h ↦ f.loaded j y h.1 a among
            ];
            joined = λ j y sits e among. elim (at_set sights id j w y sits) [
              | inl h ↦ subst (λ (z : Sight S). Has (record { entry = e; flag = 0 }) z.words.held) h.1 (subst (λ (z : View). Has (record { entry = e; flag = 0 }) z.held) (sym same.words) (f.joined id v at e (subst (λ (l : List ℕ). Among e l) same.joined (subst (λ (z : Sight S). Among e z.joined) (sym h.1) among))))
              | inr h ↦ f.joined j y h.1 e among
            ];
            joined_given = λ j y sits e among. elim (at_set sights id j w y sits) [
              | inl h ↦ f.joined_given id v at e (subst (λ (l : List ℕ). Among e l) same.joined (subst (λ (z : Sight S). Among e z.joined) (sym h.1) among))
              | inr h ↦ f.joined_given j y h.1 e among
            ];
            ready = λ j y sits q among. elim (at_set sights id j w y sits) [
              | inl h ↦ f.ready id v at q (subst (λ (l : List ℕ). Among q l) same.ready (subst (λ (z : Sight S). Among q z.ready) (sym h.1) among))
              | inr h ↦ f.ready j y h.1 q among
            ];
            seen = λ j y sits a among. elim (at_set sights id j w y sits) [
              | inl h ↦ f.seen id v at a (subst (λ (l : List Seen). Among a l) same.seen (subst (λ (z : Sight S). Among a z.seen) (sym h.1) among))
              | inr h ↦ f.seen j y h.1 a among
            ];
            still = λ j y sits a among. elim (at_set sights id j w y sits) [
              | inl h ↦
                  let old = x.still a (subst (λ (z : Sight S). Among a z.still) (sym h.1) among) in
                  let g = f.still id v at a old.0 in
                  let m = old.1 g in
                  subst (λ (z : Sight S). IsStill f.role k.states k.values z a) h.1 (still_at v w a g m.0 m.1)
              | inr h ↦ f.still j y h.1 a among
            ];
            setting = f.setting;
            reached = f.reached;
          };
          same_net = refl;
          same_gave = refl;
          same_role = refl;
        }
      where
        held_other : (q : ℕ) → q ≢ t → held_by_all sights' q ≡ held_by_all sights q
        held_other q ne =
            let a = total_set (λ (z : Sight S). times q (numbers_of z.bears)) sights id v w at in
            let b = x.held q ne in
            omega (arith, a, b)

        others : (q : ℕ) (a : List ℕ) (y : Task S) → q ≢ t → IsSomewhere is_job k sights f.net f.role q a y.body → IsSomewhere is_job k' sights' f.net f.role q a y.body
        others q a y ne (at_home j last one is job l none) = at_home j last (other_bodies q ne ∙ one) (other_jobs q ne ∙ is) job (last_on a last l) (held_other q ne ∙ none)
        others q a y ne (is_out two is one) = is_out (other_bodies q ne ∙ two) (other_jobs q ne ∙ is) (held_other q ne ∙ one)

        mine : (q : ℕ) (a : List ℕ) (y : Task S) → IsNumberOf f.role q a → At f.state a y → q ≡ t → IsSomewhere is_job k' sights' f.net f.role q a y.body
        mine q a y num h e =
            let path : a ≡ p = path_one t a p (subst (λ (z : ℕ). IsNumberOf f.role z a) e num) number in
            let one : y ≡ u = at_same f.state p y u (subst (λ (z : List ℕ). At f.state z y) path h) there in
            subst (λ (z : ℕ). IsSomewhere is_job k' sights' f.net f.role z a y.body) (sym e) (subst (λ (z : List ℕ). IsSomewhere is_job k' sights' f.net f.role t z y.body) (sym path) (subst (λ (z : Task S). IsSomewhere is_job k' sights' f.net f.role t p z.body) (sym one) x.somewhere))

  -- the exchange of a body word from 1 to 2, for a task whose count was found to be 0
  module _ (id : ℕ) (v : Sight S) (at : Sits sights id v) (t : ℕ) (found : Among t v.ready) (one : k.bodies t ≡ 1) (bodies' : ℕ → ℕ) (jobs' : ℕ → Option J) (out : bodies' t ≡ 2) (empty : jobs' t ≡ None)
      (other_bodies : (j : ℕ) → j ≢ t → bodies' j ≡ k.bodies j) (other_jobs : (j : ℕ) → j ≢ t → jobs' j ≡ k.jobs j) where
    -- what is taken: the job that stood there is that of the task, whose body the seat bears then
    pub take_field : (j : J) × (d : Bearing S) × (d.number ≡ t) × (k.jobs t ≡ Some j) × is_job j t d.body d.last
        × ((w : Sight S) → SameBeside v w → w.bears ≡ d ∷ v.bears → w.loaded ≡ v.loaded → w.still ≡ v.still → FieldAt P main first is_job n f.net f.gave f.role (record k { bodies = bodies'; jobs = jobs' }) (set sights id w))
    take_field =
        let r = f.ready id v at t found in
        go r.0 r.1 r.2 r.3 r.4 (f.somewhere t r.0 r.1 r.2 r.3)
      where
        go : (p : List ℕ) (u : Task S) → IsNumberOf f.role t p → At f.state p u → IsReady f.state p u.body.start.context → IsSomewhere is_job k sights f.net f.role t p u.body
            → (j : J) × (d : Bearing S) × (d.number ≡ t) × (k.jobs t ≡ Some j) × is_job j t d.body d.last
            × ((w : Sight S) → SameBeside v w → w.bears ≡ d ∷ v.bears → w.loaded ≡ v.loaded → w.still ≡ v.still → FieldAt P main first is_job n f.net f.gave f.role (record k { bodies = bodies'; jobs = jobs' }) (set sights id w))
        go p u number there ready (is_out two is held) = absurd (omega (arith, one, two))
        go p u number there ready (at_home j last at_one is job l none) =
            let d : Bearing S = record { number = t; path = p; body = u.body; last = last } in (
              j,
              d,
              refl,
              is,
              job,
              (λ w same bears loaded still. hold_field id v w at same t p u number there bodies' jobs' other_bodies other_jobs (record {
                held = λ q ne. let a : times q (numbers_of w.bears) ≡ num (t == q) + times q (numbers_of v.bears) = ap (λ (z : List (Bearing S)). times q (numbers_of z)) bears in let b = none_if t q (λ e. ne (sym e)) in omega (arith, a, b);
                somewhere = is_out out empty (let a = total_set (λ (z : Sight S). times t (numbers_of z.bears)) sights id v w at in let b : times t (numbers_of w.bears) ≡ num (t == t) + times t (numbers_of v.bears) = ap (λ (z : List (Bearing S)). times t (numbers_of z)) bears in let c = one_if t t refl in omega (arith, a, b, c, none));
                borne = λ m e has. bore w d bears (record { number = number; task = u; at_ = there; body = refl; ready = ready; last = l }) m e has;
                made = λ a among g. (suc g.place, ap (λ (z : List (Bearing S)). get_elem? z (suc g.place)) bears ∙ g.held);
                loaded = λ a among. (subst (λ (z : List Noted). Among a z) loaded among, (λ g. (suc g.place, ap (λ (z : List (Bearing S)). get_elem? z (suc g.place)) bears ∙ g.held)));
                still = λ a among. (subst (λ (z : List Fixed). Among a z) still among, (λ g. (suc g.place, ap (λ (z : List (Bearing S)). get_elem? z (suc g.place)) bears ∙ g.held)));
              })),
            )
          where
            bore : (w : Sight S) (d : Bearing S) → w.bears ≡ d ∷ v.bears → IsBorne f.state sights f.net f.role d → (m : ℕ) (e : Bearing S) → Bears w m e → IsBorne f.state sights f.net f.role e
            bore w d bears x zero e has = subst (λ (z : Bearing S). IsBorne f.state sights f.net f.role z) (maybe.some-injective d e (sym (ap (λ (z : List (Bearing S)). get_elem? z 0) bears) ∙ has)) x
            bore w d bears x (suc m) e has = f.borne id v at m e (sym (ap (λ (z : List (Bearing S)). get_elem? z (suc m)) bears) ∙ has)

  -- the store of 1, by which the job that was taken last stands in its slot again
  module _ (id : ℕ) (v w : Sight S) (at : Sits sights id v) (same : SameBeside v w) (d : Bearing S) (bears : v.bears ≡ d ∷ w.bears) (j : J) (job : is_job j d.number d.body d.last)
      (bodies' : ℕ → ℕ) (jobs' : ℕ → Option J) (home : bodies' d.number ≡ 1) (full : jobs' d.number ≡ Some j) (other_bodies : (j : ℕ) → j ≢ d.number → bodies' j ≡ k.bodies j) (other_jobs : (j : ℕ) → j ≢ d.number → jobs' j ≡ k.jobs j)
      (makes : (a : Making) → Among a v.makes → a.by ≢ d.number) (loaded : (a : Noted) → Among a w.loaded → Among a v.loaded × (a.name ≢ d.number)) (still : (a : Fixed) → Among a w.still → Among a v.still × ((r : Role) → f.role a.entry ≡ Some r → r.path ≢ d.path)) where
    abbrev mine : IsBorne f.state sights f.net f.role d
    mine = f.borne id v at 0 d (ap (λ (z : List (Bearing S)). get_elem? z 0) bears)

    -- a job at another place is one place nearer
    nearer : (m : ℕ) (e : Bearing S) → Bears v m e → e.number ≢ d.number → (q : ℕ) × Bears w q e
    nearer zero e has ne = absurd (ne (ap (λ (z : Bearing S). z.number) (maybe.some-injective e d (sym has ∙ ap (λ (z : List (Bearing S)). get_elem? z 0) bears))))
    nearer (suc m) e has ne = (m, sym (ap (λ (z : List (Bearing S)). get_elem? z (suc m)) bears) ∙ has)

    pub put_field : FieldAt P main first is_job n f.net f.gave f.role (record k { bodies = bodies'; jobs = jobs' }) (set sights id w)
    put_field =
        hold_field id v w at same d.number d.path mine.task mine.number mine.at_ bodies' jobs' other_bodies other_jobs (record {
          held = λ q ne. let a : times q (numbers_of v.bears) ≡ num (d.number == q) + times q (numbers_of w.bears) = ap (λ (z : List (Bearing S)). times q (numbers_of z)) bears in let b = none_if d.number q (λ e. ne (sym e)) in omega (arith, a, b);
          somewhere = subst (λ (z : Body S). IsSomewhere is_job (record k { bodies = bodies'; jobs = jobs' }) (set sights id w) f.net f.role d.number d.path z) (sym mine.body) (back_home (f.somewhere d.number d.path mine.task mine.number mine.at_));
          borne = λ m e has. f.borne id v at (suc m) e (ap (λ (z : List (Bearing S)). get_elem? z (suc m)) bears ∙ has);
          made = λ a among g. nearer g.place g.creator g.held (λ q. makes a among (sym g.by ∙ q));
          loaded = λ a among. let o = loaded a among in (o.0, (λ g. nearer g.place g.bearing g.held (λ q. o.1 (sym g.number ∙ q))));
          still = λ a among. let o = still a among in (
            o.0,
            (λ g. nearer g.place g.bearing g.held (λ q.
                o.1 g.it g.is (g.path ∙ path_one d.number g.bearing.path d.path (subst (λ (z : ℕ). IsNumberOf f.role z g.bearing.path) q (f.borne id v at g.place g.bearing g.held).number) mine.number))),
          );
        })
      where
        back_home : IsSomewhere is_job k sights f.net f.role d.number d.path mine.task.body → IsSomewhere is_job (record k { bodies = bodies'; jobs = jobs' }) (set sights id w) f.net f.role d.number d.path d.body
        back_home (at_home g last one is jb l none) =
            let a : times d.number (numbers_of v.bears) ≡ num (d.number == d.number) + times d.number (numbers_of w.bears) = ap (λ (z : List (Bearing S)). times d.number (numbers_of z)) bears in
            let b = one_if d.number d.number refl in
            let c = total_at (λ (z : Sight S). times d.number (numbers_of z.bears)) sights id v at in
            absurd (omega (arith, a, b, c, none))
        back_home (is_out two is one) =
            at_home j d.last home full job (last_on id v w at same d.number d.path mine.task mine.number mine.at_ bodies' jobs' other_bodies other_jobs d.path d.last mine.last)
            (let a = total_set (λ (z : Sight S). times d.number (numbers_of z.bears)) sights id v w at in
            let b : times d.number (numbers_of v.bears) ≡ num (d.number == d.number) + times d.number (numbers_of w.bears) = ap (λ (z : List (Bearing S)). times d.number (numbers_of z)) bears in
            let c = one_if d.number d.number refl in
            omega (arith, a, b, c, one))
