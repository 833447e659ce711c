-- The fill of a count, by which the entries of a new task get their roles: the rule after it. No move.
use Rattle.std.proofs.Common.{◌≡◌, ◌≢◌, inl, inr, sym, subst, refl, ◌∙◌, ap, ℕ, ◌<◌, ◌+◌, Bool, true, false, List, ◌∷◌, set, Option, Some, None}
use Rattle.std.specs.Prelude.{◌==◌, cond, not}
use mathlib.Core.Option as maybe
use lib.ListN.{get_elem?}
use Rattle.std.proofs.lemmas.Bool.Decides.{eqb_tells}
use Rattle.atomic_table.proofs.Lists.{at_set, set_else}
use Rattle.oss_syntax.specs.declared.access.Mode.{Mode}
use Rattle.oss_model.specs.Bodies.{Order, Program, Start, Body}
use Rattle.oss_model.specs.Bodies.Act.{Created}
use Rattle.oss_model.specs.Context.{right_of}
use Rattle.oss_model.specs.Machine.{Task, State, At}
use Rattle.oss_model.specs.Moves.{act_now, created_now, new_task}
use Rattle.oss_model.specs.Rights.{Holds}
use Rattle.oss_model.proofs.MoveLemmas.{fresh_child}
use Rattle.oss_words.specs.declared.entry.EntryState.{EntryState}
use Rattle.oss_words.specs.Members.{Has}
use Rattle.oss_words.specs.Net.{Net, apart}
use Rattle.oss_words.specs.Rule.{Kept}
use Rattle.oss_words.specs.Sums.{below, num}
use Rattle.oss_words.specs.Views.{View, Seen, Among, among_first, among_later}
use Rattle.oss_words.proofs.KeptLaw.{at_here}
use Rattle.oss_words.proofs.SumLemmas.{same_number}
use Rattle.oss_roles.specs.Counting.{weight, AreCounts}
use Rattle.oss_roles.specs.Field.{Field, FieldAt, Parts, Sits, Bears, numbers_of, held_by_all, owed_by_all, IsJoined, IsMaking, is_making, IsNumberOf, of_main, of_entry, AreLast, IsSomewhere, at_home, is_out, IsBorne, IsPut, not_put, going, is_put, IsMade, IsPending, IsStill}
use Rattle.oss_roles.specs.Numbers.{entry_number}
use Rattle.oss_roles.specs.Roles.{Role, Site, on, AreGiven, Plans}
use Rattle.oss_roles.specs.Sights.{Bearing, Making, Noted, Fixed, Sight, Telling}
use Rattle.oss_roles.proofs.HoldLemmas.{held_same}
use Rattle.oss_roles.proofs.JobLaw.{joined_forth, counts_owed, owed_same, words_same}
use Rattle.oss_roles.proofs.MoveLaw.{agrees}
use Rattle.oss_roles.proofs.PlanLaw.{From, an_old, a_new, keeps, from, hung_old, planned_roles, planned_filed, planned_given, planned_counts}

-- Whether the task of a number that had no role is opened is said anew.
counts_reopened : {S : Type 0} (s : State S) (n : ℕ) (net : Net) (role : ℕ → Option Role) (states : ℕ → EntryState) (opened opened' : ℕ → Bool) (owed count : ℕ → ℕ) (t : ℕ) → role t ≡ None → ((j : ℕ) → j ≢ t → opened' j ≡ opened j)
    → AreCounts s n net role states opened owed count → AreCounts s n net role states opened' owed count
counts_reopened s n net role states opened opened' owed count t none same k =
    record {
      sum = λ j q is at. k.sum j q is at ∙ ap (λ (z : Bool). num (not z) + below (λ e. weight j (role e) (states e)) n + owed j) (sym (same j (other j q is)));
      blank = k.blank;
      main = k.main;
      opened_is = λ j q is at. let o = k.opened_is j q is at in ((λ h. o.0 (sym (same j (other j q is)) ∙ h)), (λ h. same j (other j q is) ∙ o.1 h));
      open_start = k.open_start;
      strong = k.strong;
    }
  where
    other : (j : ℕ) (q : Role) → role j ≡ Some q → j ≢ t
    other j q is e = let z : None ≡ Some q = sym none ∙ ap role (sym e) ∙ is in cc

module _ {S J : Type 0} (P : Program S) (main : Start S) (first : List ℕ) (is_job : Telling S J) (n : ℕ) (k : Parts J) (sights : List (Sight S)) (f : Field P main first is_job n k sights)
    (id : ℕ) (v w : Sight S) (at : Sits sights id v) (i : ℕ) (b : Bearing S) (has : Bears v i b) (order : Order S) (act : act_now P b.body ≡ Created order false)
    (t : ℕ) (role' : ℕ → Option Role) (plans : Plans f.net f.role role' t (created_now P b.body ∷ b.path)) (inside : (e : ℕ) (r : Role) → role' e ≡ Some r → e < n) (pos : t ≢ 0)
    (mk : Making) (by : b.number ≡ mk.by) (task : mk.task ≡ t) (stage : mk.stage ≡ 0)
    (access : (c : ℕ) (mode : Mode) (strong : Bool) → right_of (new_task P b.body order).body.start.context c ≡ Holds mode strong
    → (e : ℕ) × (r : Role) × (role' e ≡ Some r) × (r.path ≡ created_now P b.body ∷ b.path) × (r.site ≡ on c) × (r.task ≡ t) × (r.mode ≡ mode) × (r.strong ≡ strong) × (e ≡ entry_number t (right_of (new_task P b.body order).body.start.context) c))
    (strongly : (e : ℕ) (r : Role) → role' e ≡ Some r → r.path ≡ created_now P b.body ∷ b.path → r.counts ≡ true → r.strong ≡ true)
    (counts' : ℕ → ℕ) (filled : counts' t ≡ 1 + below (λ e. weight t (role' e) (k.states e)) n) (others : (j : ℕ) → j ≢ t → counts' j ≡ k.counts j)
    (bears : w.bears ≡ v.bears) (makes : w.makes ≡ mk ∷ v.makes) (words : w.words ≡ v.words) (owes : w.owes ≡ v.owes) (joined : w.joined ≡ v.joined) (ready : w.ready ≡ v.ready) (loaded : w.loaded ≡ v.loaded) (seen : w.seen ≡ v.seen) (still : w.still ≡ v.still) where
  abbrev path : List ℕ
  path = created_now P b.body ∷ b.path

  abbrev sights' : List (Sight S)
  sights' = set sights id w

  abbrev k' : Parts J
  k' = record k { counts = counts' }

  abbrev opened' : ℕ → Bool
  opened' j = cond (j == t) false (f.opened j)

  here : Sits sights' id w
  here = at_here sights id v w at

  abbrev mine : IsBorne f.state sights f.net f.role b
  mine = f.borne id v at i b has

  fresh : (u : Task S) → At f.state path u → ⊥
  fresh u h =
      let a = agrees P main first f.state f.setting f.reached in
      fresh_child P main f.state b.path mine.task u a.made mine.at_ (subst (λ (z : Body S). At f.state (created_now P z ∷ b.path) u) (sym mine.body) h)

  -- what had a role has it still, and what hangs had it before
  keep : (e : ℕ) (r : Role) → f.role e ≡ Some r → role' e ≡ Some r
  keep = keeps f.net k.infos f.role role' t path f.words.flow.words.shaped f.roles plans

  source : (e : ℕ) (r : Role) → role' e ≡ Some r → From f.net k.infos f.role role' t path f.words.flow.words.shaped f.roles plans e r
  source = from f.net k.infos f.role role' t path f.words.flow.words.shaped f.roles plans

  hung_before : (e : ℕ) (r : Role) → role' e ≡ Some r → f.net.place e ≢ apart → f.role e ≡ Some r
  hung_before = hung_old f.net k.infos f.role role' t path f.words.flow.words.shaped f.roles plans

  making_now : IsMaking sights' t
  making_now = is_making id w here mk (subst (λ (l : List Making). Among mk l) (sym makes) (among_first refl)) task

  making_forth : (q : ℕ) → IsMaking sights q → IsMaking sights' q
  making_forth q (is_making j x sits m among is) = elim (same_number j id) [
    | inl e ↦
        let one : x ≡ v = maybe.some-injective x v (sym sits ∙ ap (λ (z : ℕ). get_elem? sights z) e ∙ at) in
        is_making id w here m (subst (λ (l : List Making). Among m l) (sym makes) (among_later (subst (λ (z : Sight S). Among m z.makes) one among))) is
    | inr ne ↦ is_making j x (set_else sights id j w ne ∙ sits) m among is
  ]

  last_on : (p : List ℕ) (last : Site → Option ℕ) → AreLast sights f.net f.role p last → AreLast sights' f.net role' p last
  last_on p last l =
      record {
        some = λ y o is.
            let a = l.some y o is in
            (a.0, a.1, keep o a.0 a.2, a.3, a.4, a.5, (λ e q j eis h epath site free. a.6 e q j (hung_before e q eis h) h epath site (λ z. free (making_forth q.task z))));
        none = λ y is e q j eis h epath site. making_forth q.task (l.none y is e q j (hung_before e q eis h) h epath site);
      }

  number_on : (q : ℕ) (p : List ℕ) → IsNumberOf f.role q p → IsNumberOf role' q p
  number_on q p of_main = of_main
  number_on q p (of_entry r is site rpath) = of_entry r (keep q r is) site rpath

  -- the number of a task that is there is an old one
  number_back : (q : ℕ) (p : List ℕ) (u : Task S) → At f.state p u → IsNumberOf role' q p → IsNumberOf f.role q p
  number_back q p u h of_main = of_main
  number_back q p u h (of_entry r is site rpath) = elim (source q r is) [
    | an_old old ↦ of_entry r old site rpath
    | a_new new a d ↦ absurd (fresh u (subst (λ (z : List ℕ). At f.state z u) (sym rpath ∙ new) h))
  ]

  held_is : (q : ℕ) → held_by_all sights' q ≡ held_by_all sights q
  held_is = held_same sights id v w at (ap (λ (z : List (Bearing S)). numbers_of z) bears)

  somewhere_on : (q : ℕ) (p : List ℕ) (y : Body S) → IsSomewhere is_job k sights f.net f.role q p y → IsSomewhere is_job k' sights' f.net role' q p y
  somewhere_on q p y (at_home j last one is job l none) = at_home j last one is job (last_on p last l) (held_is q ∙ none)
  somewhere_on q p y (is_out two is one) = is_out two is (held_is q ∙ one)

  -- what a seat knows but for what it makes it knew before
  before : (j : ℕ) (x : Sight S) → Sits sights' j x → (y : Sight S) × Sits sights j y × (x.bears ≡ y.bears) × (x.words ≡ y.words) × (x.joined ≡ y.joined) × (x.ready ≡ y.ready) × (x.loaded ≡ y.loaded) × (x.seen ≡ y.seen) × (x.still ≡ y.still)
  before j x sits = elim (at_set sights id j w x sits) [
    | inl h ↦ (
      v,
      ap (λ (z : ℕ). get_elem? sights z) h.0 ∙ at,
      ap (λ (z : Sight S). z.bears) (sym h.1) ∙ bears,
      ap (λ (z : Sight S). z.words) (sym h.1) ∙ words,
      ap (λ (z : Sight S). z.joined) (sym h.1) ∙ joined,
      ap (λ (z : Sight S). z.ready) (sym h.1) ∙ ready,
      ap (λ (z : Sight S). z.loaded) (sym h.1) ∙ loaded,
      ap (λ (z : Sight S). z.seen) (sym h.1) ∙ seen,
      ap (λ (z : Sight S). z.still) (sym h.1) ∙ still,
    )
    | inr h ↦ (x, h.1, refl, refl, refl, refl, refl, refl, refl)
  ]

  borne_on : (d : Bearing S) → IsBorne f.state sights f.net f.role d → IsBorne f.state sights' f.net role' d
  borne_on d x = record { number = number_on d.number d.path x.number; task = x.task; at_ = x.at_; body = x.body; ready = x.ready; last = last_on d.path d.last x.last }

  put_on : (y : Body S) (a : Making) → IsPut is_job k a y → IsPut is_job k' a y
  put_on y a (not_put one two none) = not_put one two none
  put_on y a (going one two none) = going one two none
  put_on y a (is_put x one two is job) = is_put x one two is job

  -- whose task is another
  made_on : (o u : Sight S) (a : Making) → u.bears ≡ o.bears → IsMade P is_job k f.net f.role f.opened o a → IsMade P is_job k' f.net role' opened' u a
  made_on o u a same y =
      let own = y.own in
      let ne : a.task ≢ t = λ e. let z : None ≡ Some own.0 = sym plans.unused ∙ ap (λ (q : ℕ). f.role q) (sym e) ∙ own.1 in cc in
      record {
        creator = y.creator;
        place = y.place;
        held = ap (λ (z : List (Bearing S)). get_elem? z y.place) same ∙ y.held;
        by = y.by;
        order = y.order;
        act = y.act;
        closed = elim (eqb_tells a.task t) [ inl h ↦ absurd (ne h.1) | inr h ↦ rw h.0 y.closed ];
        own = (own.0, keep a.task own.0 own.1, own.2, own.3, own.4);
        access = λ c mode strong right. let x = y.access c mode strong right in (x.0, x.1, keep x.0 x.1 x.2, x.3, x.4, x.5, x.6, x.7, x.8);
        job = put_on (new_task P y.creator.body y.order).body a y.job;
      }

  closed_now : opened' t ≡ false
  closed_now = elim (eqb_tells t t) [ inl h ↦ rw h.0 refl | inr h ↦ absurd (h.1 refl) ]

  own_task : (q : Role) → role' t ≡ Some q → q.path ≡ path → q.task ≡ t
  own_task q is qpath = elim (source t q is) [ an_old old ↦ absurd (plans.fresh t q old qpath) | a_new a d e ↦ d ]

  made_new : IsMade P is_job k' f.net role' opened' w mk
  made_new =
      let o = plans.own in
      let slot = f.unused t pos plans.unused in
      record {
        creator = b;
        place = i;
        held = ap (λ (z : List (Bearing S)). get_elem? z i) bears ∙ has;
        by = by;
        order = order;
        act = act;
        closed = ap opened' task ∙ closed_now;
        own = (o.0, ap role' task ∙ o.1, o.2, o.3, own_task o.0 o.1 o.2 ∙ sym task);
        access = λ c mode strong right. let x = access c mode strong right in
            (x.0, x.1, x.2, x.3, x.4, x.5 ∙ sym task, x.6, x.7, x.8 ∙ ap (λ (z : ℕ). entry_number z (right_of (new_task P b.body order).body.start.context) c) (sym task));
        job = not_put stage (ap (λ (z : ℕ). k.bodies z) task ∙ slot.0) (ap (λ (z : ℕ). k.jobs z) task ∙ slot.1);
      }

  made_now : (j : ℕ) (x : Sight S) → Sits sights' j x → (a : Making) → Among a x.makes → IsMade P is_job k' f.net role' opened' x a
  made_now j x sits a among = elim (at_set sights id j w x sits) [
    | inl h ↦ subst (λ (z : Sight S). IsMade P is_job k' f.net role' opened' z a) h.1 (mine_made a (subst (λ (l : List Making). Among a l) makes (subst (λ (z : Sight S). Among a z.makes) (sym h.1) among)))
    | inr h ↦ made_on x x a refl (f.made j x h.1 a among)
  ]
    where
      mine_made : (a : Making) → Among a (mk ∷ v.makes) → IsMade P is_job k' f.net role' opened' w a
      mine_made a (among_first q) = subst (λ (z : Making). IsMade P is_job k' f.net role' opened' w z) q made_new
      mine_made a (among_later l) = made_on v w a bears (f.made id v at a l)

  pub plan_field : FieldAt P main first is_job n f.net f.gave role' k' sights'
  plan_field =
      record {
        field = record {
          net = f.net;
          gave = f.gave;
          role = role';
          opened = opened';
          state = f.state;
          words = subst (λ (z : List View). Kept n f.net f.gave k.states k.infos z) (sym (words_same sights id v w at words)) f.words;
          gave_hangs = f.gave_hangs;
          unused = λ e ne none. f.unused e ne (was_none e (f.role e) refl none);
          roles = planned_roles f.net k.infos f.role role' t path f.words.flow.words.shaped f.roles plans;
          filed = planned_filed f.net k.infos f.role role' t path f.words.flow.words.shaped f.roles plans f.state f.filed;
          given = given_now;
          counts = counts_owed f.state n f.net role' k.states opened' (owed_by_all sights) (owed_by_all sights') counts' (owed_same sights id v w at owes)
              (planned_counts f.net k.infos f.role role' t path f.words.flow.words.shaped f.roles plans f.state n k.states opened' (owed_by_all sights) k.counts counts'
              (counts_reopened f.state n f.net f.role k.states f.opened opened' (owed_by_all sights) k.counts t plans.unused (λ j ne. elim (eqb_tells j t) [ inl h ↦ absurd (ne h.1) | inr h ↦ rw h.0 refl ]) f.counts)
              fresh closed_now filled others pos (let o = plans.own in inside t o.0 o.1) strongly);
          cells = f.cells;
          planned = λ e r is. elim (source e r is) [
            | an_old old ↦ elim (f.planned e r old) [ inl u ↦ inl u | inr m ↦ inr (making_forth r.task m) ]
            | a_new a d x ↦ inr (subst (λ (z : ℕ). IsMaking sights' z) (sym d) making_now)
          ];
          somewhere = λ q p u num h. somewhere_on q p u.body (f.somewhere q p u (number_back q p u h num) h);
          borne = λ j x sits m d held. let o = before j x sits in borne_on d (f.borne j o.0 o.1 m d (ap (λ (z : List (Bearing S)). get_elem? z m) (sym o.2) ∙ held));
          made = made_now;
          left = λ e r is l. elim (source e r is) [
            | an_old old ↦ f.left e r old l
            | a_new a d x ↦ absurd ((f.words.flow.words.wired e (inside e r is)).leaving l x)
          ];
          numbered = λ e c r is h site. f.numbered e c r (hung_before e r is h) h site;
          loaded = λ j x sits a among. let o = before j x sits in pending_on o.0 x a o.2 (f.loaded j o.0 o.1 a (subst (λ (l : List Noted). Among a l) o.6 among));
          joined = λ j x sits e among. let o = before j x sits in subst (λ (z : View). Has (record { entry = e; flag = 0 }) z.held) (sym o.3) (f.joined j o.0 o.1 e (subst (λ (l : List ℕ). Among e l) o.4 among));
          joined_given = λ j x sits e among. let o = before j x sits in let g = f.joined_given j o.0 o.1 e (subst (λ (l : List ℕ). Among e l) o.4 among) in record { it = g.it; is = keep e g.it g.is; cell = g.cell; site = g.site; given = g.given };
          ready = λ j x sits q among. let o = before j x sits in let g = f.ready j o.0 o.1 q (subst (λ (l : List ℕ). Among q l) o.5 among) in (g.0, g.1, number_on q g.0 g.2, g.3, g.4);
          seen = λ j x sits a among. let o = before j x sits in f.seen j o.0 o.1 a (subst (λ (l : List Seen). Among a l) o.7 among);
          still = λ j x sits a among. let o = before j x sits in still_on o.0 x a o.2 (f.still j o.0 o.1 a (subst (λ (l : List Fixed). Among a l) o.8 among));
          setting = f.setting;
          reached = f.reached;
        };
        same_net = refl;
        same_gave = refl;
        same_role = refl;
      }
    where
      was_none : (e : ℕ) (o : Option Role) → f.role e ≡ o → role' e ≡ None → f.role e ≡ None
      was_none e None is none = is
      was_none e (Some r) is none = let z : Some r ≡ None = sym (keep e r is) ∙ none in absurd (let bad : ⊥ = cc in bad)

      given_now : AreGiven P f.state f.net role' f.gave (IsJoined sights')
      given_now =
          let g = planned_given f.net k.infos f.role role' t path f.words.flow.words.shaped f.roles plans P f.state f.gave (IsJoined sights) f.gave_hangs fresh f.given in
          record {
            cell = g.cell;
            own = g.own;
            back = λ e c r is site h. elim (g.back e c r is site h) [ inl y ↦ inl y | inr y ↦ inr (joined_forth sights id v w at joined e y) ];
          }

      pending_on : (o u : Sight S) (a : Noted) → u.bears ≡ o.bears → IsPending P k.cells o a → IsPending P k.cells u a
      pending_on o u a same y = record { bearing = y.bearing; place = y.place; held = ap (λ (z : List (Bearing S)). get_elem? z y.place) same ∙ y.held; number = y.number; cell = y.cell; op = y.op; operand = y.operand; act = y.act; value = y.value }

      still_on : (o u : Sight S) (a : Fixed) → u.bears ≡ o.bears → IsStill f.role k.states k.values o a → IsStill role' k.states k.values u a
      still_on o u a same y = record { bearing = y.bearing; place = y.place; held = ap (λ (z : List (Bearing S)). get_elem? z y.place) same ∙ y.held; it = y.it; is = keep a.entry y.it y.is; path = y.path; left = y.left; given = y.given; value = y.value }
