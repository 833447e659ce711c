-- The rule after a step that is given no job, and changes no job that its seat holds; its instances for deliveries and count downs.
use Rattle.std.proofs.Common.{◌≡◌, ◌≢◌, inl, inr, sym, subst, refl, ◌∙◌, ap, ℕ, ◌<◌, ◌+◌, arith, Bool, true, false, List, [], set, Option}
use Rattle.std.specs.Prelude.{slice_index, ◌==◌}
use Rattle.std.proofs.lemmas.Bool.Decides.{eqb_tells}
use mathlib.Core.Option as maybe
use lib.ListN.{get_elem?}
use Rattle.std.proofs.Math.Seq.{map-set}
use Rattle.atomic_table.proofs.Lists.{at_set, at_map}
use Rattle.oss_syntax.specs.declared.access.Mode.TheVariants.{Fold}
use Rattle.oss_syntax.specs.declared.access.Op.{Op}
use Rattle.oss_model.specs.Bodies.{Program, Start, Body}
use Rattle.oss_model.specs.Bodies.Act.{Folded}
use Rattle.oss_model.specs.Context.{right_of}
use Rattle.oss_model.specs.Moves.{act_now, is_ended, new_task, slot_of, Reached}
use Rattle.oss_model.specs.Rights.{Holds}
use Rattle.oss_model.specs.Machine.{Task, State, At, IsReady}
use Rattle.oss_words.specs.declared.entry.EntryState.{EntryState}
use Rattle.oss_words.specs.declared.message.Message.{Message}
use Rattle.oss_words.specs.Causes.{Sets, sets_done, sets_folds, sets_reads, sets_writes, sets_clear}
use Rattle.oss_words.specs.Grown.{Grown}
use Rattle.oss_words.specs.Members.{Has}
use Rattle.oss_words.specs.Net.{apart}
use Rattle.oss_words.specs.Rule.{Kept}
use Rattle.oss_words.specs.Steps.{Delivers}
use Rattle.oss_words.specs.Sums.{num}
use Rattle.oss_words.specs.Views.{View, Seen, Among}
use Rattle.oss_words.proofs.KeptLaw.{deliver_kept}
use Rattle.oss_words.proofs.StillLemmas.{sets_grown, sets_given, grown_on, grown_same}
use Rattle.oss_words.proofs.SumLemmas.{total_set, total_at, same_number}
use Rattle.oss_roles.specs.Counting.{owing, AreCounts}
use Rattle.oss_roles.specs.Field.{Field, FieldAt, Parts, Sits, Bears, words_of, times, numbers_of, held_by_all, owed_by_all, IsJoined, AreLast, IsNumberOf, IsSomewhere, at_home, is_out, IsBorne, IsPut, not_put, going, is_put, IsMade, IsLeft, IsPending, IsStill, IsTaken}
use Rattle.oss_roles.specs.Roles.{Role, Site, AreGiven}
use Rattle.oss_roles.specs.Sights.{Bearing, Making, Noted, Fixed, Sight, Telling}
use Rattle.oss_roles.proofs.Going.{Continues}
use Rattle.oss_roles.proofs.CountLaw.{set_counts, down_counts}
use Rattle.oss_roles.proofs.GoesLaw.{making_on}
use Rattle.oss_roles.proofs.HoldLemmas.{held_same}
use Rattle.oss_roles.proofs.JobLaw.{joined_forth, words_same}
use Rattle.oss_roles.proofs.StateLemmas.{continues_self, filed_on, given_forth, ready_on, clause_on}
use Rattle.oss_roles.specs.Steps.{SameJobs}

-- The second state is the first, but that tasks may have given up more.
pub record SameBodies {S : Type 0} (P : Program S) (s m : State S) : Type 0 where
  pub continues : Continues P s m
  pub forth : (p : List ℕ) (u : Task S) → At s p u → (y : Task S) × At m p y × (y.body ≡ u.body)
  pub back : (p : List ℕ) (u : Task S) → At m p u → (y : Task S) × At s p y × (y.body ≡ u.body)

pub same_bodies : {S : Type 0} (P : Program S) (s : State S) → SameBodies P s s
same_bodies P s = record { continues = continues_self P s; forth = λ p u h. (u, h, refl); back = λ p u h. (u, h, refl) }

module _ {S J : Type 0} (P : Program S) (main : Start S) (first : List ℕ) (is_job : Telling S J) (n : ℕ) (k : Parts J) (sights : List (Sight S)) (f : Field P main first is_job n k sights)
    (id : ℕ) (v w : Sight S) (at : Sits sights id v) (bears : w.bears ≡ v.bears) (makes : w.makes ≡ v.makes) (states' : ℕ → EntryState) (counts' : ℕ → ℕ) (cells' : List ℕ) (m : State S) (on_ : SameBodies P f.state m) where
  abbrev sights' : List (Sight S)
  sights' = set sights id w

  abbrev k' : Parts J
  k' = record k { states = states'; counts = counts'; cells = cells' }

  last_on : (p : List ℕ) (last : Site → Option ℕ) → AreLast sights f.net f.role p last → AreLast sights' f.net f.role p last
  last_on p last l =
      record {
        some = λ y o is.
            let a = l.some y o is in
            (a.0, a.1, a.2, a.3, a.4, a.5, (λ e q j eis h path site free. a.6 e q j eis h path site (λ z. free (making_on sights id v w at makes q.task z))));
        none = λ y is e q j eis h path site. making_on sights id v w at makes q.task (l.none y is e q j eis h path site);
      }

  held_is : (t : ℕ) → held_by_all sights' t ≡ held_by_all sights t
  held_is = held_same sights id v w at (ap (λ (z : List (Bearing S)). numbers_of z) bears)

  somewhere_on : (t : ℕ) (p : List ℕ) (y : Body S) → IsSomewhere is_job k sights f.net f.role t p y → IsSomewhere is_job k' sights' f.net f.role t p y
  somewhere_on t p y (at_home j last one is job l none) = at_home j last one is job (last_on p last l) (held_is t ∙ none)
  somewhere_on t p y (is_out two is one) = is_out two is (held_is t ∙ one)

  -- what a seat bears and makes after the step it did before
  pub bears_as : (j : ℕ) (x : Sight S) → Sits sights' j x → (y : Sight S) × Sits sights j y × (x.bears ≡ y.bears) × (x.makes ≡ y.makes)
  bears_as j x sits = elim (at_set sights id j w x sits) [
    | inl h ↦ (v, ap (λ (z : ℕ). get_elem? sights z) h.0 ∙ at, ap (λ (z : Sight S). z.bears) (sym h.1) ∙ bears, ap (λ (z : Sight S). z.makes) (sym h.1) ∙ makes)
    | inr h ↦ (x, h.1, refl, refl)
  ]

  borne_on : (b : Bearing S) → IsBorne f.state sights f.net f.role b → IsBorne m sights' f.net f.role b
  borne_on b x =
      let y = on_.forth b.path x.task x.at_ in
      record { number = x.number; task = y.0; at_ = y.1; body = y.2 ∙ x.body; ready = ready_on P f.state m on_.continues b.path b.body.start.context x.ready; last = last_on b.path b.last x.last }

  put_on : (y : Body S) (a : Making) → IsPut is_job k a y → IsPut is_job k' a y
  put_on y a (not_put one two none) = not_put one two none
  put_on y a (going one two none) = going one two none
  put_on y a (is_put x one two is job) = is_put x one two is job

  made_on : (y x : Sight S) (a : Making) → x.bears ≡ y.bears → IsMade P is_job k f.net f.role f.opened y a → IsMade P is_job k' f.net f.role f.opened x a
  made_on y x a bears g =
      record {
        creator = g.creator;
        place = g.place;
        held = ap (λ (z : List (Bearing S)). get_elem? z g.place) bears ∙ g.held;
        by = g.by;
        order = g.order;
        act = g.act;
        closed = g.closed;
        own = g.own;
        access = g.access;
        job = put_on (new_task P g.creator.body g.order).body a g.job;
      }

  left_on : (e : ℕ) (r : Role) → IsLeft P f.state k.values e r → IsLeft P m k.values e r
  left_on e r l =
      let y = on_.forth r.path l.task l.at_ in
      record {
        cell = l.cell;
        site = l.site;
        op = l.op;
        task = y.0;
        at_ = y.1;
        right = subst (λ (z : Body S). right_of z.start.context l.cell ≡ Holds (Fold l.op) true) (sym y.2) l.right;
        ended = subst (λ (z : Body S). is_ended P z ≡ true) (sym y.2) l.ended;
        wait = clause_on P f.state m on_.continues r.path l.task y.0 (ap (λ (z : Body S). z.start) y.2) l.wait;
        value = subst (λ (z : Body S). k.values e ≡ slot_of P z.start l.cell l.op z.found) (sym y.2) l.value;
      }

  pub pending_on : (y x : Sight S) (a : Noted) → x.bears ≡ y.bears → ((b : Bearing S) (i : ℕ) → Bears y i b → (cell : ℕ) (op : Op) (z : ℕ) → act_now P b.body ≡ Folded cell op z false → slice_index cells' cell ≡ slice_index k.cells cell) → IsPending P k.cells y a → IsPending P cells' x a
  pending_on y x a bears alone g =
      record {
        bearing = g.bearing;
        place = g.place;
        held = ap (λ (z : List (Bearing S)). get_elem? z g.place) bears ∙ g.held;
        number = g.number;
        cell = g.cell;
        op = g.op;
        operand = g.operand;
        act = g.act;
        value = alone g.bearing g.place g.held g.cell g.op g.operand g.act ∙ g.value;
      }

  -- what such a step tells
  pub record Words (gave' : ℕ → Bool) : Type 0 where
    pub words : Kept n f.net gave' states' k.infos (words_of sights')
    pub gave_hangs : (e : ℕ) → gave' e ≡ true → f.net.place e ≢ apart
    pub given : AreGiven P m f.net f.role gave' (IsJoined sights')
    pub counts : AreCounts m n f.net f.role states' f.opened (owed_by_all sights') counts'
    pub cells : m.cells ≡ cells'
    pub reached : Reached P main first m
    pub left : (e : ℕ) → (states' e).left ≡ (k.states e).left
    pub grown : (e : ℕ) → Grown (k.states e) (states' e)
    pub alone : (j : ℕ) (y : Sight S) → Sits sights j y → (b : Bearing S) (i : ℕ) → Bears y i b → (cell : ℕ) (op : Op) (z : ℕ) → act_now P b.body ≡ Folded cell op z false → slice_index cells' cell ≡ slice_index k.cells cell
    pub loaded : (a : Noted) → Among a w.loaded → Among a v.loaded
    pub ready : (t : ℕ) → Among t w.ready → (p : List ℕ) × (u : Task S) × IsNumberOf f.role t p × At f.state p u × IsReady f.state p u.body.start.context
    pub seen : (a : Seen) → Among a w.seen → Grown a.state (k.states a.entry)
    pub still : (j : ℕ) (y : Sight S) → Sits sights' j y → (a : Fixed) → Among a y.still → IsStill f.role states' k.values y a
    pub joined : (j : ℕ) (y : Sight S) → Sits sights' j y → (e : ℕ) → Among e y.joined → Has (record { entry = e; flag = 0 }) y.words.held
    pub joined_given : (e : ℕ) → Among e w.joined → IsTaken m f.role e

  pub taken_on : (e : ℕ) → IsTaken f.state f.role e → IsTaken m f.role e
  taken_on e g = record { it = g.it; is = g.is; cell = g.cell; site = g.site; given = given_forth P f.state m on_.continues g.cell g.it.path g.given }

  pub other_field : (gave' : ℕ → Bool) → Words gave' → FieldAt P main first is_job n f.net gave' f.role k' sights'
  other_field gave' x =
      record {
        field = record {
          net = f.net;
          gave = gave';
          role = f.role;
          opened = f.opened;
          state = m;
          words = x.words;
          gave_hangs = x.gave_hangs;
          unused = f.unused;
          roles = f.roles;
          filed = filed_on P f.state m on_.continues f.net f.role f.filed;
          given = x.given;
          counts = x.counts;
          cells = x.cells;
          planned = λ e r is. elim (f.planned e r is) [ inl u ↦ let y = on_.forth r.path u.0 u.1 in inl (y.0, y.1) | inr u ↦ inr (making_on sights id v w at makes r.task u) ];
          somewhere = λ t p u num at_. let y = on_.back p u at_ in subst (λ (z : Body S). IsSomewhere is_job k' sights' f.net f.role t p z) y.2 (somewhere_on t p y.0.body (f.somewhere t p y.0 num y.1));
          borne = λ j y sits i b has. let o = bears_as j y sits in borne_on b (f.borne j o.0 o.1 i b (ap (λ (z : List (Bearing S)). get_elem? z i) (sym o.2) ∙ has));
          made = λ j y sits a among. let o = bears_as j y sits in made_on o.0 y a o.2 (f.made j o.0 o.1 a (subst (λ (z : List Making). Among a z) o.3 among));
          left = λ e r is l. left_on e r (f.left e r is (sym (x.left e) ∙ l));
          numbered = f.numbered;
          loaded = λ j y sits a among. elim (at_set sights id j w y sits) [
            | inl h ↦ subst (λ (z : Sight S). IsPending P cells' z a) h.1 (pending_on v w a bears (x.alone id v at) (f.loaded id v at a (x.loaded a (subst (λ (z : Sight S). Among a z.loaded) (sym h.1) among))))
            | inr h ↦ pending_on y y a refl (x.alone j y h.1) (f.loaded j y h.1 a among)
          ];
          joined = x.joined;
          joined_given = λ j y sits e among. elim (at_set sights id j w y sits) [
            | inl h ↦ x.joined_given e (subst (λ (z : Sight S). Among e z.joined) (sym h.1) among)
            | inr h ↦ taken_on e (f.joined_given j y h.1 e among)
          ];
          ready = λ j y sits t among. elim (at_set sights id j w y sits) [
            | inl h ↦ ready_at t (x.ready t (subst (λ (z : Sight S). Among t z.ready) (sym h.1) among))
            | inr h ↦ ready_at t (f.ready j y h.1 t among)
          ];
          seen = λ j y sits a among. elim (at_set sights id j w y sits) [
            | inl h ↦ grown_on a.state (k.states a.entry) (states' a.entry) (x.seen a (subst (λ (z : Sight S). Among a z.seen) (sym h.1) among)) (x.grown a.entry)
            | inr h ↦ grown_on a.state (k.states a.entry) (states' a.entry) (f.seen j y h.1 a among) (x.grown a.entry)
          ];
          still = x.still;
          setting = f.setting;
          reached = x.reached;
        };
        same_net = refl;
        same_gave = refl;
        same_role = refl;
      }
    where
      ready_at : (t : ℕ) → ((p : List ℕ) × (u : Task S) × IsNumberOf f.role t p × At f.state p u × IsReady f.state p u.body.start.context) → (p : List ℕ) × (u : Task S) × IsNumberOf f.role t p × At m p u × IsReady m p u.body.start.context
      ready_at t h =
          let y = on_.forth h.0 h.1 h.3 in
          (h.0, y.0, h.2, y.1, subst (λ (z : Body S). IsReady m h.0 z.start.context) (sym y.2) (ready_on P f.state m on_.continues h.0 h.1.body.start.context h.4))

  -- what was read is still so, if this step changes no given and no left
  pub still_on : w.still ≡ v.still → ((e : ℕ) → (states' e).left ≡ (k.states e).left) → ((e : ℕ) → (states' e).given ≡ (k.states e).given) → (j : ℕ) (y : Sight S) → Sits sights' j y → (a : Fixed) → Among a y.still → IsStill f.role states' k.values y a
  still_on same left given j y sits a among = elim (at_set sights id j w y sits) [
    | inl h ↦ subst (λ (z : Sight S). IsStill f.role states' k.values z a) h.1 (again v w bears (f.still id v at a (subst (λ (z : List Fixed). Among a z) same (subst (λ (z : Sight S). Among a z.still) (sym h.1) among))))
    | inr h ↦ again y y refl (f.still j y h.1 a among)
  ]
    where
      again : (o u : Sight S) → u.bears ≡ o.bears → IsStill f.role k.states k.values o a → IsStill f.role states' k.values u a
      again o u same g =
          record {
            bearing = g.bearing;
            place = g.place;
            held = ap (λ (z : List (Bearing S)). get_elem? z g.place) same ∙ g.held;
            it = g.it;
            is = g.is;
            path = g.path;
            left = left a.entry ∙ g.left;
            given = λ no. given a.entry ∙ g.given no;
            value = g.value;
          }

  -- what was given up is so, if this step gives up nothing
  pub given_still : m ≡ f.state → w.joined ≡ v.joined → AreGiven P f.state f.net f.role f.gave (IsJoined sights')
  given_still same joined = record {
    cell = f.given.cell;
    own = f.given.own;
    back = λ e c r is site h. elim (f.given.back e c r is site h) [ inl g ↦ inl g | inr g ↦ inr (joined_forth sights id v w at joined e g) ];
  }

-- what a set flag leaves
sets_left : (g : ℕ) (a c : EntryState) → Sets a c g → c.left ≡ a.left
sets_left g a c (sets_done h e) = ap (λ (z : EntryState). z.left) e
sets_left g a c (sets_folds h e) = ap (λ (z : EntryState). z.left) e
sets_left g a c (sets_reads h e) = ap (λ (z : EntryState). z.left) e
sets_left g a c (sets_writes h e) = ap (λ (z : EntryState). z.left) e
sets_left g a c (sets_clear h e) = ap (λ (z : EntryState). z.left) e

pub at_words : {S : Type 0} (sights : List (Sight S)) (id : ℕ) (v : Sight S) → Sits sights id v → get_elem? (words_of sights) id ≡ maybe.some v.words
at_words sights id v at = at_map (λ (x : Sight _). x.words) sights id v at

pub words_set : {S : Type 0} (sights : List (Sight S)) (id : ℕ) (w : Sight S) → words_of (set sights id w) ≡ set (words_of sights) id w.words
words_set sights id w = map-set (λ (x : Sight _). x.words) sights id w

module _ {S J : Type 0} (P : Program S) (main : Start S) (first : List ℕ) (is_job : Telling S J) (n : ℕ) (k : Parts J) (sights : List (Sight S)) (f : Field P main first is_job n k sights)
    (id : ℕ) (v w : Sight S) (at : Sits sights id v) (same : SameJobs v w) where
  -- a flag is set, and if a count waits for it, the seat owes a count down
  pub deliver_field : (states' : ℕ → EntryState) (m : Message) (rest : List Message) → Delivers f.net k.states states' k.infos m rest v.words w.words → f.net.place m.entry ≢ apart → v.joined ≡ []
      → ((t : ℕ) → times t w.owes ≡ times t v.owes + owing t (k.infos m.entry) m.flag)
      → FieldAt P main first is_job n f.net f.gave f.role (record k { states = states'; counts = k.counts; cells = k.cells }) (set sights id w)
  deliver_field states' m rest d hangs none owes =
      other_field P main first is_job n k sights f id v w at same.bears same.makes states' k.counts k.cells f.state (same_bodies P f.state) f.gave (record {
        words = subst (λ (z : List View). Kept n f.net f.gave states' k.infos z) (sym (words_set sights id w))
            (deliver_kept n f.net f.gave k.states states' k.infos (words_of sights) id v.words w.words f.words (at_words sights id v at) m rest d);
        counts = set_counts f.state n f.net k.infos f.role k.states states' f.opened (owed_by_all sights) k.counts f.roles f.counts m.entry m.flag (f.words.flow.words.inside m.entry hangs) hangs (f.words.modes.mode m.entry hangs) d.sets d.others
            (owed_by_all (set sights id w)) (λ t. let a = total_set (λ (x : Sight S). times t x.owes) sights id v w at in let b = owes t in omega (arith, a, b));
        gave_hangs = f.gave_hangs;
        given = given_still P main first is_job n k sights f id v w at same.bears same.makes states' k.counts k.cells f.state (same_bodies P f.state) refl same.joined;
        cells = f.cells;
        reached = f.reached;
        left = lefts;
        alone = λ j y sits b i has cell op z act. refl;
        loaded = λ a among. subst (λ (z : List Noted). Among a z) same.loaded among;
        ready = λ t among. f.ready id v at t (subst (λ (z : List ℕ). Among t z) same.ready among);
        seen = λ a among. f.seen id v at a (subst (λ (z : List Seen). Among a z) same.seen among);
        still = still_on P main first is_job n k sights f id v w at same.bears same.makes states' k.counts k.cells f.state (same_bodies P f.state) same.still lefts
            (each (λ (a c : EntryState). c.given ≡ a.given) (λ a. refl) (sets_given m.flag (k.states m.entry) (states' m.entry) d.sets));
        grown = λ e. each Grown (λ a. grown_same a a refl) (sets_grown m.flag (k.states m.entry) (states' m.entry) d.sets) e;
        joined = λ j y sits e among. elim (at_set sights id j w y sits) [
          | inl h ↦ absurd (nothing e (subst (λ (z : List ℕ). Among e z) (same.joined ∙ none) (subst (λ (z : Sight S). Among e z.joined) (sym h.1) among)))
          | inr h ↦ f.joined j y h.1 e among
        ];
        joined_given = λ e among. f.joined_given id v at e (subst (λ (z : List ℕ). Among e z) same.joined among);
      })
    where
      nothing : (e : ℕ) → Among e [] → ⊥
      nothing e h = elim h [ ]

      each : (R : EntryState → EntryState → Type 0) → ((a : EntryState) → R a a) → R (k.states m.entry) (states' m.entry) → (e : ℕ) → R (k.states e) (states' e)
      each R self here e = elim (same_number e m.entry) [
        | inl q ↦ subst (λ (z : ℕ). R (k.states z) (states' z)) (sym q) here
        | inr ne ↦ subst (λ (z : EntryState). R (k.states e) z) (sym (d.others e ne)) (self (k.states e))
      ]

      lefts : (e : ℕ) → (states' e).left ≡ (k.states e).left
      lefts e = each (λ (a c : EntryState). c.left ≡ a.left) (λ a. refl) (sets_left m.flag (k.states m.entry) (states' m.entry) d.sets) e

  -- a count down that the seat owes
  pub down_field : (counts' : ℕ → ℕ) (t : ℕ) → 0 < times t v.owes → ((j : ℕ) → times j w.owes + num (j == t) ≡ times j v.owes) → counts' t + 1 ≡ k.counts t → ((j : ℕ) → j ≢ t → counts' j ≡ k.counts j) → t ≢ 0 → w.words ≡ v.words
      → FieldAt P main first is_job n f.net f.gave f.role (record k { states = k.states; counts = counts'; cells = k.cells }) (set sights id w)
  down_field counts' t due less down others pos words =
      other_field P main first is_job n k sights f id v w at same.bears same.makes k.states counts' k.cells f.state (same_bodies P f.state) f.gave (record {
        words = subst (λ (z : List View). Kept n f.net f.gave k.states k.infos z) (sym (words_same sights id v w at words)) f.words;
        counts = down_counts f.state n f.net f.role k.states f.opened (owed_by_all sights) (owed_by_all (set sights id w)) k.counts counts' f.counts t
            (let a = total_at (λ (x : Sight S). times t x.owes) sights id v at in omega (arith, a, due))
            (let a = total_set (λ (x : Sight S). times t x.owes) sights id v w at in let b = less t in let c : num (t == t) ≡ 1 = one_if t t refl in omega (arith, a, b, c))
            down
            (λ j ne. (let a = total_set (λ (x : Sight S). times j x.owes) sights id v w at in let b = less j in let c : num (j == t) ≡ 0 = none_if j t ne in omega (arith, a, b, c), others j ne))
            pos;
        gave_hangs = f.gave_hangs;
        given = given_still P main first is_job n k sights f id v w at same.bears same.makes k.states counts' k.cells f.state (same_bodies P f.state) refl same.joined;
        cells = f.cells;
        reached = f.reached;
        left = λ e. refl;
        grown = λ e. grown_same (k.states e) (k.states e) refl;
        alone = λ j y sits b i has cell op z act. refl;
        loaded = λ a among. subst (λ (z : List Noted). Among a z) same.loaded among;
        ready = λ t among. f.ready id v at t (subst (λ (z : List ℕ). Among t z) same.ready among);
        seen = λ a among. f.seen id v at a (subst (λ (z : List Seen). Among a z) same.seen among);
        still = still_on P main first is_job n k sights f id v w at same.bears same.makes k.states counts' k.cells f.state (same_bodies P f.state) same.still (λ e. refl) (λ e. refl);
        joined = λ j y sits e among. elim (at_set sights id j w y sits) [
          | inl h ↦ subst (λ (z : Sight S). Has (record { entry = e; flag = 0 }) z.words.held) h.1 (subst (λ (z : View). Has (record { entry = e; flag = 0 }) z.held) (sym words) (f.joined id v at e (subst (λ (z : List ℕ). Among e z) same.joined (subst (λ (z : Sight S). Among e z.joined) (sym h.1) among))))
          | inr h ↦ f.joined j y h.1 e among
        ];
        joined_given = λ e among. f.joined_given id v at e (subst (λ (z : List ℕ). Among e z) same.joined among);
      })
    where
      one_if : (x y : ℕ) → x ≡ y → num (x == y) ≡ 1
      one_if x y e = elim (eqb_tells x y) [ inl h ↦ rw h.0 refl | inr h ↦ absurd (h.1 e) ]

      none_if : (x y : ℕ) → x ≢ y → num (x == y) ≡ 0
      none_if x y ne = elim (eqb_tells x y) [ inl h ↦ absurd (ne h.1) | inr h ↦ rw h.0 refl ]
