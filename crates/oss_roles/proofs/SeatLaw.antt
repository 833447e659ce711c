-- Seats: a step that changes of a view only what the rule of jobs and words does not read, or forgets, as draws, splits and joins do; a new
-- seat; and the two steps of the first put.
use Rattle.std.proofs.Common.{◌≡◌, ◌≢◌, ◌⊎◌, inl, inr, sym, subst, refl, ◌∙◌, ap, ℕ, arith, List, [], ◌∷◌, ◌++◌, set, Option, Some, None}
use mathlib.Core.Option as maybe
use lib.ListN.{get_elem?}
use Rattle.atomic_table.proofs.Lists.{at_set, set_else, at_longer, at_snoc}
use Rattle.oss_model.specs.Bodies.{Program, Start, Body}
use Rattle.oss_model.specs.Context.{right_of}
use Rattle.oss_model.specs.Moves.{new_task}
use Rattle.oss_words.specs.Members.{Has}
use Rattle.oss_words.specs.Rule.{Kept}
use Rattle.oss_words.specs.Views.{View, Seen, Among}
use Rattle.oss_words.proofs.KeptLaw.{at_here}
use Rattle.oss_words.proofs.PlaceLaw.{looked_kept, joined_kept}
use Rattle.oss_words.proofs.StillLemmas.{grown_same}
use Rattle.oss_words.proofs.SumLemmas.{total_append, same_number}
use Rattle.oss_roles.specs.Field.{Field, FieldAt, Parts, Sits, words_of, times, numbers_of, held_by_all, owed_by_all, IsJoined, is_joined, IsMaking, is_making, AreLast, IsSomewhere, at_home, is_out, IsPut, not_put, going, is_put, IsMade, IsStill}
use Rattle.oss_roles.specs.Numbers.{entry_number}
use Rattle.oss_roles.specs.Roles.{Site}
use Rattle.oss_roles.specs.Sights.{Bearing, Making, Noted, Fixed, Sight, Telling}
use Rattle.oss_roles.proofs.HoldLemmas.{held_same}
use Rattle.oss_roles.proofs.JobLaw.{counts_owed, owed_same, joined_forth, words_same}
use Rattle.oss_roles.proofs.OtherLaw.{same_bodies, other_field, given_still, at_words, words_set}
use Rattle.oss_roles.proofs.TakeLaw.{made_apart}

module _ {S J : Type 0} (P : Program S) (main : Start S) (first : List ℕ) (is_job : Telling S J) (n : ℕ) (k : Parts J) (sights : List (Sight S)) (f : Field P main first is_job n k sights) where
  -- what a seat holds is as before, and of what it has read it knows the same or less
  module _ (id : ℕ) (v w : Sight S) (at : Sits sights id v) (held : w.words.held ≡ v.words.held) (half : w.words.half ≡ v.words.half) (bears : w.bears ≡ v.bears) (makes : w.makes ≡ v.makes) (joined : w.joined ≡ v.joined) (owes : w.owes ≡ v.owes)
      (ready : (t : ℕ) → Among t w.ready → Among t v.ready) (loaded : (a : Noted) → Among a w.loaded → Among a v.loaded) (seen : (a : Seen) → Among a w.seen → Among a v.seen) (still : (a : Fixed) → Among a w.still → Among a v.still) where
    pub quiet_field : FieldAt P main first is_job n f.net f.gave f.role (record k { states = k.states; counts = k.counts; cells = k.cells }) (set sights id w)
    quiet_field =
        other_field P main first is_job n k sights f id v w at bears makes k.states k.counts k.cells f.state (same_bodies P f.state) f.gave (record {
          words = subst (λ (z : List View). Kept n f.net f.gave k.states k.infos z) (sym (words_set sights id w)) (looked_kept n f.net f.gave k.states k.infos (words_of sights) f.words id v.words w.words (at_words sights id v at) held half);
          gave_hangs = f.gave_hangs;
          given = given_still P main first is_job n k sights f id v w at bears makes k.states k.counts k.cells f.state (same_bodies P f.state) refl joined;
          counts = counts_owed f.state n f.net f.role k.states f.opened (owed_by_all sights) (owed_by_all (set sights id w)) k.counts (owed_same sights id v w at owes) f.counts;
          cells = f.cells;
          reached = f.reached;
          left = λ e. refl;
          grown = λ e. grown_same (k.states e) (k.states e) refl;
          alone = λ j y sits b i has cell op z act. refl;
          loaded = loaded;
          ready = λ t among. f.ready id v at t (ready t among);
          seen = λ a among. f.seen id v at a (seen a among);
          still = λ j y sits a among. elim (at_set sights id j w y sits) [
            | inl h ↦ subst (λ (z : Sight S). IsStill f.role k.states k.values z a) h.1 (mine a (f.still id v at a (still a (subst (λ (z : Sight S). Among a z.still) (sym h.1) among))))
            | inr h ↦ f.still j y h.1 a among
          ];
          joined = λ j y sits e among. elim (at_set sights id j w y sits) [
            | inl h ↦ subst (λ (z : Sight S). Has (record { entry = e; flag = 0 }) z.words.held) h.1 (subst (λ z. Has (record { entry = e; flag = 0 }) z) (sym held) (f.joined id v at e (subst (λ (l : List ℕ). Among e l) joined (subst (λ (z : Sight S). Among e z.joined) (sym h.1) among))))
            | inr h ↦ f.joined j y h.1 e among
          ];
          joined_given = λ e among. f.joined_given id v at e (subst (λ (l : List ℕ). Among e l) joined among);
        })
      where
        mine : (a : Fixed) → IsStill f.role k.states k.values v a → IsStill f.role k.states k.values w a
        mine a g = record { bearing = g.bearing; place = g.place; held = ap (λ (z : List (Bearing S)). get_elem? z g.place) bears ∙ g.held; it = g.it; is = g.is; path = g.path; left = g.left; given = g.given; value = g.value }

  -- a new seat, which holds nothing and knows nothing of jobs
  module _ (x : Sight S) (held : x.words.held ≡ []) (half : x.words.half ≡ []) (bears : x.bears ≡ []) (makes : x.makes ≡ []) (joined : x.joined ≡ []) (owes : x.owes ≡ []) (ready : x.ready ≡ []) (loaded : x.loaded ≡ []) (seen : x.seen ≡ []) (still : x.still ≡ []) where
    abbrev more : List (Sight S)
    more = sights ++ x ∷ []

    none : {A : Type 0} {B : Type 0} (z : A) → Among z [] → B
    none z h = elim h [ ]

    words_more : (l : List (Sight S)) → words_of (l ++ x ∷ []) ≡ words_of l ++ x.words ∷ []
    words_more [] = refl
    words_more (y ∷ l) = ap (λ (z : List View). y.words ∷ z) (words_more l)

    held_more : (t : ℕ) → held_by_all more t ≡ held_by_all sights t
    held_more t = let a = total_append (λ (z : Sight S). times t (numbers_of z.bears)) sights (x ∷ []) in let b : times t (numbers_of x.bears) ≡ 0 = ap (λ (z : List (Bearing S)). times t (numbers_of z)) bears in omega (arith, a, b)

    owed_more : (t : ℕ) → owed_by_all more t ≡ owed_by_all sights t
    owed_more t = let a = total_append (λ (z : Sight S). times t z.owes) sights (x ∷ []) in let b : times t x.owes ≡ 0 = ap (λ (z : List ℕ). times t z) owes in omega (arith, a, b)

    making_more : (t : ℕ) → IsMaking sights t → IsMaking more t
    making_more t (is_making j y sits a among is) = is_making j y (at_longer sights (x ∷ []) j y sits) a among is

    making_less : (t : ℕ) → IsMaking more t → IsMaking sights t
    making_less t (is_making j y sits a among is) = elim (at_snoc sights x y j sits) [
      | inl old ↦ is_making j y old a among is
      | inr new ↦ none a (subst (λ (l : List Making). Among a l) makes (subst (λ (z : Sight S). Among a z.makes) (sym new) among))
    ]

    joined_more : (e : ℕ) → IsJoined sights e → IsJoined more e
    joined_more e (is_joined j y sits among) = is_joined j y (at_longer sights (x ∷ []) j y sits) among

    last_more : (p : List ℕ) (last : Site → Option ℕ) → AreLast sights f.net f.role p last → AreLast more f.net f.role p last
    last_more p last l =
        record {
          some = λ y o is.
              let a = l.some y o is in
              (a.0, a.1, a.2, a.3, a.4, a.5, (λ e q j eis h epath site free. a.6 e q j eis h epath site (λ z. free (making_more q.task z))));
          none = λ y is e q j eis h epath site. making_more q.task (l.none y is e q j eis h epath site);
        }

    somewhere_more : (t : ℕ) (p : List ℕ) (y : Body S) → IsSomewhere is_job k sights f.net f.role t p y → IsSomewhere is_job k more f.net f.role t p y
    somewhere_more t p y (at_home j last one is job l free) = at_home j last one is job (last_more p last l) (held_more t ∙ free)
    somewhere_more t p y (is_out two is one) = is_out two is (held_more t ∙ one)

    pub new_seat_field : FieldAt P main first is_job n f.net f.gave f.role k more
    new_seat_field =
        record {
          field = record {
            net = f.net;
            gave = f.gave;
            role = f.role;
            opened = f.opened;
            state = f.state;
            words = subst (λ (z : List View). Kept n f.net f.gave k.states k.infos z) (sym (words_more sights)) (joined_kept n f.net f.gave k.states k.infos (words_of sights) f.words x.words held half);
            gave_hangs = f.gave_hangs;
            unused = f.unused;
            roles = f.roles;
            filed = f.filed;
            given = record {
              cell = f.given.cell;
              own = f.given.own;
              back = λ e c r is site h. elim (f.given.back e c r is site h) [ inl g ↦ inl g | inr g ↦ inr (joined_more e g) ];
            };
            counts = counts_owed f.state n f.net f.role k.states f.opened (owed_by_all sights) (owed_by_all more) k.counts owed_more f.counts;
            cells = f.cells;
            planned = λ e r is. elim (f.planned e r is) [ inl u ↦ inl u | inr m ↦ inr (making_more r.task m) ];
            somewhere = λ t p u num h. somewhere_more t p u.body (f.somewhere t p u num h);
            borne = λ j y sits i b has. elim (at_snoc sights x y j sits) [
              | inl old ↦ let g = f.borne j y old i b has in record { number = g.number; task = g.task; at_ = g.at_; body = g.body; ready = g.ready; last = last_more b.path b.last g.last }
              | inr new ↦ absurd (maybe.some-ne-none b (sym (sym (ap (λ (z : List (Bearing S)). get_elem? z i) bears) ∙ subst (λ (z : Sight S). get_elem? z.bears i ≡ maybe.some b) (sym new) has)))
            ];
            made = λ j y sits a among. elim (at_snoc sights x y j sits) [
              | inl old ↦ f.made j y old a among
              | inr new ↦ none a (subst (λ (l : List Making). Among a l) makes (subst (λ (z : Sight S). Among a z.makes) (sym new) among))
            ];
            left = f.left;
            numbered = f.numbered;
            loaded = λ j y sits a among. elim (at_snoc sights x y j sits) [
              | inl old ↦ f.loaded j y old a among
              | inr new ↦ none a (subst (λ (l : List Noted). Among a l) loaded (subst (λ (z : Sight S). Among a z.loaded) (sym new) among))
            ];
            joined = λ j y sits e among. elim (at_snoc sights x y j sits) [
              | inl old ↦ f.joined j y old e among
              | inr new ↦ none e (subst (λ (l : List ℕ). Among e l) joined (subst (λ (z : Sight S). Among e z.joined) (sym new) among))
            ];
            joined_given = λ j y sits e among. elim (at_snoc sights x y j sits) [
              | inl old ↦ f.joined_given j y old e among
              | inr new ↦ none e (subst (λ (l : List ℕ). Among e l) joined (subst (λ (z : Sight S). Among e z.joined) (sym new) among))
            ];
            ready = λ j y sits t among. elim (at_snoc sights x y j sits) [
              | inl old ↦ f.ready j y old t among
              | inr new ↦ none t (subst (λ (l : List ℕ). Among t l) ready (subst (λ (z : Sight S). Among t z.ready) (sym new) among))
            ];
            seen = λ j y sits a among. elim (at_snoc sights x y j sits) [
              | inl old ↦ f.seen j y old a among
              | inr new ↦ none a (subst (λ (l : List Seen). Among a l) seen (subst (λ (z : Sight S). Among a z.seen) (sym new) among))
            ];
            still = λ j y sits a among. elim (at_snoc sights x y j sits) [
              | inl old ↦ f.still j y old a among
              | inr new ↦ none a (subst (λ (l : List Fixed). Among a l) still (subst (λ (z : Sight S). Among a z.still) (sym new) among))
            ];
            setting = f.setting;
            reached = f.reached;
          };
          same_net = refl;
          same_gave = refl;
          same_role = refl;
        }

  -- a step of the first put: the empty slot is taken, or the new job stands in it
  module _ (id : ℕ) (v w : Sight S) (at : Sits sights id v) (mk mk' : Making) (among : Among mk v.makes) (among' : Among mk' w.makes) (task : mk'.task ≡ mk.task) (by : mk'.by ≡ mk.by)
      (into : (a : Making) → Among a w.makes → (a ≡ mk') ⊎ (Among a v.makes × (a.task ≢ mk.task))) (outof : (a : Making) → Among a v.makes → (y : Making) × Among y w.makes × (y.task ≡ a.task))
      (bodies' : ℕ → ℕ) (jobs' : ℕ → Option J) (other_bodies : (j : ℕ) → j ≢ mk.task → bodies' j ≡ k.bodies j) (other_jobs : (j : ℕ) → j ≢ mk.task → jobs' j ≡ k.jobs j)
      (stage : IsPut is_job (record k { bodies = bodies'; jobs = jobs' }) mk' (new_task P (f.made id v at mk among).creator.body (f.made id v at mk among).order).body)
      (words : w.words ≡ v.words) (bears : w.bears ≡ v.bears) (joined : w.joined ≡ v.joined) (owes : w.owes ≡ v.owes) (ready : w.ready ≡ v.ready) (loaded : w.loaded ≡ v.loaded) (seen : w.seen ≡ v.seen) (still : w.still ≡ v.still) where
    abbrev sights' : List (Sight S)
    sights' = set sights id w

    abbrev k' : Parts J
    k' = record k { bodies = bodies'; jobs = jobs' }

    abbrev g : IsMade P is_job k f.net f.role f.opened v mk
    g = f.made id v at mk among

    making_forth : (t : ℕ) → IsMaking sights t → IsMaking sights' t
    making_forth t (is_making j y sits a am is) = elim (same_number j id) [
      | inl e ↦
          let one : y ≡ v = maybe.some-injective y v (sym sits ∙ ap (λ (z : ℕ). get_elem? sights z) e ∙ at) in
          let x = outof a (subst (λ (z : Sight S). Among a z.makes) one am) in
          is_making id w (at_here sights id v w at) x.0 x.1 (x.2 ∙ is)
      | inr ne ↦ is_making j y (set_else sights id j w ne ∙ sits) a am is
    ]

    last_on : (p : List ℕ) (last : Site → Option ℕ) → AreLast sights f.net f.role p last → AreLast sights' f.net f.role p last
    last_on p last l =
        record {
          some = λ y o is.
              let a = l.some y o is in
              (a.0, a.1, a.2, a.3, a.4, a.5, (λ e q j eis h epath site free. a.6 e q j eis h epath site (λ z. free (making_forth q.task z))));
          none = λ y is e q j eis h epath site. making_forth q.task (l.none y is e q j eis h epath site);
        }

    held_is : (t : ℕ) → held_by_all sights' t ≡ held_by_all sights t
    held_is = held_same sights id v w at (ap (λ (z : List (Bearing S)). numbers_of z) bears)

    somewhere_on : (t : ℕ) (p : List ℕ) (y : Body S) → mk.task ≢ t → IsSomewhere is_job k sights f.net f.role t p y → IsSomewhere is_job k' sights' f.net f.role t p y
    somewhere_on t p y ne (at_home j last one is job l free) = at_home j last (other_bodies t (λ e. ne (sym e)) ∙ one) (other_jobs t (λ e. ne (sym e)) ∙ is) job (last_on p last l) (held_is t ∙ free)
    somewhere_on t p y ne (is_out two is one) = is_out (other_bodies t (λ e. ne (sym e)) ∙ two) (other_jobs t (λ e. ne (sym e)) ∙ is) (held_is t ∙ one)

    before : (j : ℕ) (x : Sight S) → Sits sights' j x → (y : Sight S) × Sits sights j y × (x.bears ≡ y.bears) × (x.words ≡ y.words) × (x.joined ≡ y.joined) × (x.ready ≡ y.ready) × (x.loaded ≡ y.loaded) × (x.seen ≡ y.seen) × (x.still ≡ y.still)
    before j x sits = elim (at_set sights id j w x sits) [
      | inl h ↦ (
        v,
        ap (λ (z : ℕ). get_elem? sights z) h.0 ∙ at,
        ap (λ (z : Sight S). z.bears) (sym h.1) ∙ bears,
        ap (λ (z : Sight S). z.words) (sym h.1) ∙ words,
        ap (λ (z : Sight S). z.joined) (sym h.1) ∙ joined,
        ap (λ (z : Sight S). z.ready) (sym h.1) ∙ ready,
        ap (λ (z : Sight S). z.loaded) (sym h.1) ∙ loaded,
        ap (λ (z : Sight S). z.seen) (sym h.1) ∙ seen,
        ap (λ (z : Sight S). z.still) (sym h.1) ∙ still,
      )
      | inr h ↦ (x, h.1, refl, refl, refl, refl, refl, refl, refl)
    ]

    put_on : (y : Body S) (a : Making) → a.task ≢ mk.task → IsPut is_job k a y → IsPut is_job k' a y
    put_on y a ne (not_put one two free) = not_put one (other_bodies a.task ne ∙ two) (other_jobs a.task ne ∙ free)
    put_on y a ne (going one two free) = going one (other_bodies a.task ne ∙ two) (other_jobs a.task ne ∙ free)
    put_on y a ne (is_put x one two is job) = is_put x one (other_bodies a.task ne ∙ two) (other_jobs a.task ne ∙ is) job

    made_on : (o u : Sight S) (a : Making) → u.bears ≡ o.bears → a.task ≢ mk.task → IsMade P is_job k f.net f.role f.opened o a → IsMade P is_job k' f.net f.role f.opened u a
    made_on o u a same ne y =
        record { creator = y.creator; place = y.place; held = ap (λ (z : List (Bearing S)). get_elem? z y.place) same ∙ y.held; by = y.by; order = y.order; act = y.act; closed = y.closed; own = y.own; access = y.access; job = put_on (new_task P y.creator.body y.order).body a ne y.job }

    made_mine : IsMade P is_job k' f.net f.role f.opened w mk'
    made_mine =
        record {
          creator = g.creator;
          place = g.place;
          held = ap (λ (z : List (Bearing S)). get_elem? z g.place) bears ∙ g.held;
          by = g.by ∙ sym by;
          order = g.order;
          act = g.act;
          closed = ap f.opened task ∙ g.closed;
          own = let o = g.own in (o.0, ap (λ (z : ℕ). f.role z) task ∙ o.1, o.2, o.3, o.4 ∙ sym task);
          access = λ c mode strong right. let x = g.access c mode strong right in
              (x.0, x.1, x.2, x.3, x.4, x.5 ∙ sym task, x.6, x.7, x.8 ∙ ap (λ (z : ℕ). entry_number z (right_of (new_task P g.creator.body g.order).body.start.context) c) (sym task));
          job = stage;
        }

    module _ (one : (j : ℕ) (y : Sight S) → Sits sights j y → (a : Making) → Among a y.makes → a.task ≡ mk.task → j ≡ id) where
      pub stage_field : FieldAt P main first is_job n f.net f.gave f.role k' sights'
      stage_field =
          record {
            field = record {
              net = f.net;
              gave = f.gave;
              role = f.role;
              opened = f.opened;
              state = f.state;
              words = subst (λ (z : List View). Kept n f.net f.gave k.states k.infos z) (sym (words_same sights id v w at words)) f.words;
              gave_hangs = f.gave_hangs;
              unused = λ e ne free.
                  let o = f.unused e ne free in
                  let far : e ≢ mk.task = λ q. let own = g.own in let z : None ≡ Some own.0 = sym free ∙ ap (λ (y : ℕ). f.role y) q ∙ own.1 in cc in
                  (other_bodies e far ∙ o.0, other_jobs e far ∙ o.1);
              roles = f.roles;
              filed = f.filed;
              given = record {
                cell = f.given.cell;
                own = f.given.own;
                back = λ e c r is site h. elim (f.given.back e c r is site h) [ inl y ↦ inl y | inr y ↦ inr (joined_forth sights id v w at joined e y) ];
              };
              counts = counts_owed f.state n f.net f.role k.states f.opened (owed_by_all sights) (owed_by_all sights') k.counts (owed_same sights id v w at owes) f.counts;
              cells = f.cells;
              planned = λ e r is. elim (f.planned e r is) [ inl u ↦ inl u | inr m ↦ inr (making_forth r.task m) ];
              somewhere = λ t p u num h. somewhere_on t p u.body (made_apart P main first is_job n k sights f v mk g t p u num h) (f.somewhere t p u num h);
              borne = λ j x sits i b has.
                  let y = before j x sits in
                  let z = f.borne j y.0 y.1 i b (ap (λ (z : List (Bearing S)). get_elem? z i) (sym y.2) ∙ has) in
                  record { number = z.number; task = z.task; at_ = z.at_; body = z.body; ready = z.ready; last = last_on b.path b.last z.last };
              made = λ j x sits a am. elim (at_set sights id j w x sits) [
                | inl h ↦ subst (λ (z : Sight S). IsMade P is_job k' f.net f.role f.opened z a) h.1 (elim (into a (subst (λ (z : Sight S). Among a z.makes) (sym h.1) am)) [
                  | inl q ↦ subst (λ (z : Making). IsMade P is_job k' f.net f.role f.opened w z) (sym q) made_mine
                  | inr q ↦ made_on v w a bears q.1 (f.made id v at a q.0)
                ])
                | inr h ↦ made_on x x a refl (λ q. h.0 (one j x h.1 a am q)) (f.made j x h.1 a am)
              ];
              left = f.left;
              numbered = f.numbered;
              loaded = λ j x sits a am.
                  let y = before j x sits in
                  let z = f.loaded j y.0 y.1 a (subst (λ (l : List Noted). Among a l) y.6 am) in
                  record { bearing = z.bearing; place = z.place; held = ap (λ (q : List (Bearing S)). get_elem? q z.place) y.2 ∙ z.held; number = z.number; cell = z.cell; op = z.op; operand = z.operand; act = z.act; value = z.value };
              joined = λ j x sits e am. let y = before j x sits in subst (λ (z : View). Has (record { entry = e; flag = 0 }) z.held) (sym y.3) (f.joined j y.0 y.1 e (subst (λ (l : List ℕ). Among e l) y.4 am));
              joined_given = λ j x sits e am. let y = before j x sits in f.joined_given j y.0 y.1 e (subst (λ (l : List ℕ). Among e l) y.4 am);
              ready = λ j x sits t am. let y = before j x sits in f.ready j y.0 y.1 t (subst (λ (l : List ℕ). Among t l) y.5 am);
              seen = λ j x sits a am. let y = before j x sits in f.seen j y.0 y.1 a (subst (λ (l : List Seen). Among a l) y.7 am);
              still = λ j x sits a am.
                  let y = before j x sits in
                  let z = f.still j y.0 y.1 a (subst (λ (l : List Fixed). Among a l) y.8 am) in
                  record { bearing = z.bearing; place = z.place; held = ap (λ (q : List (Bearing S)). get_elem? q z.place) y.2 ∙ z.held; it = z.it; is = z.is; path = z.path; left = z.left; given = z.given; value = z.value };
              setting = f.setting;
              reached = f.reached;
            };
            same_net = refl;
            same_gave = refl;
            same_role = refl;
          }
