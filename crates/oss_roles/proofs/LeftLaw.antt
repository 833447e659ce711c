-- A reduction is left by the seat that holds its job: its value is written beside its word, and then the bit is set. No move but the run of the
-- job.
use Rattle.std.proofs.Common.{◌≡◌, ◌≢◌, ◌⊎◌, inl, inr, sym, subst, refl, ◌∙◌, ap, ℕ, true, false, List, [], set, Some}
use mathlib.Core.Option as maybe
use lib.ListN.{get_elem?}
use Rattle.atomic_table.proofs.Lists.{at_set, set_else}
use Rattle.oss_syntax.specs.declared.access.Mode.TheVariants.{Fold}
use Rattle.oss_syntax.specs.declared.access.Op.{Op}
use Rattle.oss_model.specs.Bodies.{Program, Start, Body}
use Rattle.oss_model.specs.Context.{right_of}
use Rattle.oss_model.specs.Machine.{Task, State, At}
use Rattle.oss_model.specs.Moves.{is_ended, slot_of, WaitClause}
use Rattle.oss_model.specs.Rights.{Holds}
use Rattle.oss_words.specs.declared.entry.EntryState.{EntryState}
use Rattle.oss_words.specs.Grown.{Grown}
use Rattle.oss_words.specs.Members.{Has}
use Rattle.oss_words.specs.Net.{apart}
use Rattle.oss_words.specs.Rule.{Kept}
use Rattle.oss_words.specs.Steps.{Leaves}
use Rattle.oss_words.specs.Views.{View, Seen, Among}
use Rattle.oss_words.proofs.CauseLemmas.{clash}
use Rattle.oss_words.proofs.KeptLaw.{at_here, leaves_kept}
use Rattle.oss_words.proofs.StillLemmas.{grown_on, grown_same, left_grown}
use Rattle.oss_words.proofs.SumLemmas.{same_number}
use Rattle.oss_roles.specs.Alone.{GoesAlone}
use Rattle.oss_roles.specs.Counting.{AreCounts}
use Rattle.oss_roles.specs.Field.{Field, FieldAt, Parts, Sits, Bears, words_of, owed_by_all, IsJoined, IsBorne, IsLeft, IsPending, IsStill}
use Rattle.oss_roles.proofs.Going.{Continues, Went}
use Rattle.oss_roles.specs.Roles.{Role, on, AreGiven}
use Rattle.oss_roles.specs.Sights.{Bearing, Noted, Fixed, Sight, Telling}
use Rattle.oss_roles.specs.Steps.{JobGoes}
use Rattle.oss_roles.proofs.CountLaw as counting
use Rattle.oss_roles.proofs.GoesLaw.{one_holder}
use Rattle.oss_roles.proofs.JobLaw.{before_creation, behind_end, counts_on, counts_owed, owed_same, words_same, left_still, job_field, caught_up, gave_same}
use Rattle.oss_roles.proofs.OtherLaw.{at_words, words_set}
use Rattle.oss_roles.proofs.StateLemmas.{clause_on}

module _ {S J : Type 0} (P : Program S) (main : Start S) (first : List ℕ) (is_job : Telling S J) (n : ℕ) (k : Parts J) (sights : List (Sight S)) (f : Field P main first is_job n k sights)
    (id : ℕ) (v w : Sight S) (at : Sits sights id v) (i : ℕ) (b c : Bearing S) (step : JobGoes v w i b c)
    (x : Body S) (run : GoesAlone P f.state b.path b.body x) (now : c.body ≡ x)
    (e : ℕ) (r : Role) (is : f.role e ≡ Some r) (path : r.path ≡ b.path)
    (owes : w.owes ≡ v.owes) (none : v.joined ≡ []) (seen : w.seen ≡ v.seen) (loaded : (y : Noted) → Among y w.loaded → IsPending P k.cells w y) where
  abbrev sights' : List (Sight S)
  sights' = set sights id w

  abbrev mine : IsBorne f.state sights f.net f.role b
  mine = f.borne id v at i b step.has

  abbrev t0 : Task S
  t0 = record { body = x; given = mine.task.given }

  m0 : (m : State S) × Went P main first f.state b.path m (record { body = x; given = mine.task.given }) × (m.cells ≡ f.state.cells) × (x.start ≡ mine.task.body.start)
  m0 = caught_up P main first is_job n k sights f id v w at i b c step x run

  nothing : {A : Type 0} (z : A) → Among z [] → ⊥
  nothing z h = elim h [ ]

  joined_now : (j : ℕ) (y : Sight S) → Sits sights' j y → (z : ℕ) → Among z y.joined → Has (record { entry = z; flag = 0 }) y.words.held
  joined_now j y sits z among = elim (at_set sights id j w y sits) [
    | inl h ↦ absurd (nothing z (subst (λ (l : List ℕ). Among z l) (step.joined ∙ none) (subst (λ (u : Sight S). Among z u.joined) (sym h.1) among)))
    | inr h ↦ f.joined j y h.1 z among
  ]

  counts_here : (m : State S) → Continues P f.state m → (states' : ℕ → EntryState) → AreCounts f.state n f.net f.role states' f.opened (owed_by_all sights) k.counts → AreCounts m n f.net f.role states' f.opened (owed_by_all sights') k.counts
  counts_here m on_ states' a =
      counts_owed m n f.net f.role states' f.opened (owed_by_all sights) (owed_by_all sights') k.counts (owed_same sights id v w at owes) (counts_on P f.state m on_ n f.net f.role states' f.opened (owed_by_all sights) k.counts a)

  -- what is so of an entry that is another
  module _ (states' : ℕ → EntryState) (values' : ℕ → ℕ) (others : (j : ℕ) → j ≢ e → states' j ≡ k.states j) (other_values : (j : ℕ) → j ≢ e → values' j ≡ k.values j) where
    moved : (a : Fixed) (y u : Sight S) → a.entry ≢ e → (g : IsStill f.role k.states k.values y a) → (d : Bearing S) (q : ℕ) → Bears u q d → d.path ≡ g.bearing.path → IsStill f.role states' values' u a
    moved a y u ne g d q held same =
        record {
          bearing = d;
          place = q;
          held = held;
          it = g.it;
          is = g.is;
          path = g.path ∙ sym same;
          left = ap (λ (z : EntryState). z.left) (others a.entry ne) ∙ g.left;
          given = λ other. ap (λ (z : EntryState). z.given) (others a.entry ne) ∙ g.given other;
          value = λ z h. other_values a.entry ne ∙ g.value z h;
        }

    others_still : (j : ℕ) (y : Sight S) → j ≢ id → Sits sights j y → (a : Fixed) → Among a y.still → IsStill f.role states' values' y a
    others_still j y nj sits a among =
        let g = f.still j y sits a among in
        let ne : a.entry ≢ e = λ q.
        let role_one : g.it ≡ r = let z : Some g.it ≡ Some r = sym g.is ∙ ap (λ (u : ℕ). f.role u) q ∙ is in cc in
        nj (sym (one_holder P main first is_job n k sights f id j i g.place v y b g.bearing at step.has sits g.held (sym path ∙ ap (λ (u : Role). u.path) (sym role_one) ∙ g.path)).0) in
        moved a y y ne g g.bearing g.place g.held refl

    mine_other : (a : Fixed) → Among a v.still → a.entry ≢ e → IsStill f.role states' values' w a
    mine_other a among ne =
        let g = f.still id v at a among in
        elim (same_number g.place i) [
          | inl q ↦
              let one : g.bearing ≡ b = maybe.some-injective g.bearing b (sym g.held ∙ ap (λ (z : ℕ). get_elem? v.bears z) q ∙ step.has) in
              moved a v w ne g c i (ap (λ (z : List (Bearing S)). get_elem? z i) step.bears ∙ at_here v.bears i b c step.has) (step.path ∙ ap (λ (z : Bearing S). z.path) (sym one))
          | inr np ↦ moved a v w ne g g.bearing g.place (ap (λ (z : List (Bearing S)). get_elem? z g.place) step.bears ∙ set_else v.bears i g.place c np ∙ g.held) refl
        ]

  -- the value is written
  module _ (words : w.words ≡ v.words) (unleft : (k.states e).left ≡ false) (value : ℕ) (values' : ℕ → ℕ) (value_is : values' e ≡ value) (other_values : (j : ℕ) → j ≢ e → values' j ≡ k.values j)
      (still : (a : Fixed) → Among a w.still → (Among a v.still × (a.entry ≢ e)) ⊎ ((old : Fixed) × Among old v.still × (old.entry ≡ e) × (a ≡ record { entry = e; state = old.state; value = Some value }))) where
    written : (a old : Fixed) → Among old v.still → old.entry ≡ e → a ≡ record { entry = e; state = old.state; value = Some value } → IsStill f.role k.states values' w a
    written a old among same is_new =
        let g = f.still id v at old among in
        let role_one : g.it ≡ r = let z : Some g.it ≡ Some r = sym g.is ∙ ap (λ (u : ℕ). f.role u) same ∙ is in cc in
        subst (λ (z : Fixed). IsStill f.role k.states values' w z) (sym is_new) (record {
          bearing = c;
          place = i;
          held = ap (λ (z : List (Bearing S)). get_elem? z i) step.bears ∙ at_here v.bears i b c step.has;
          it = r;
          is = is;
          path = path ∙ sym step.path;
          left = ap (λ (z : ℕ). (k.states z).left) (sym same) ∙ g.left;
          given = λ other. ap (λ (z : ℕ). (k.states z).given) (sym same) ∙ g.given (λ op mode strong. other op (ap (λ (u : Role). u.mode) (sym role_one) ∙ mode) (ap (λ (u : Role). u.strong) (sym role_one) ∙ strong));
          value = λ z h. value_is ∙ (let u : Some value ≡ Some z = h in cc);
        })

    pub value_field : FieldAt P main first is_job n f.net f.gave f.role (record k { states = k.states; counts = k.counts; cells = k.cells; values = values' }) sights'
    value_field =
        job_field P main first is_job n k sights f id v w at i b c step m0.0 t0 k.states k.counts k.cells values' f.gave (record {
          went = m0.1;
          body = sym now;
          before = λ o q. now ∙ before_creation P f.state b.path b.body x o run q;
          behind = λ q. now ∙ behind_end P f.state b.path b.body x run q;
          cells = m0.2 ∙ f.cells;
          left = λ z q zs l.
              let ne : z ≢ e = λ same. clash (ap (λ (y : ℕ). (k.states y).left) (sym same) ∙ l) unleft in
              let old = left_still P main first is_job n k sights f id v w at i b c step m0.0 t0 m0.1 (sym now) (λ y. now ∙ behind_end P f.state b.path b.body x run y) z q zs l in
              record { cell = old.cell; site = old.site; op = old.op; task = old.task; at_ = old.at_; right = old.right; ended = old.ended; wait = old.wait; value = other_values z ne ∙ old.value };
          words = subst (λ (z : List View). Kept n f.net f.gave k.states k.infos z) (sym (words_same sights id v w at words)) f.words;
          gave_hangs = f.gave_hangs;
          given = given_here;
          counts = counts_here m0.0 m0.1.continues k.states f.counts;
          alone = λ d z op y ne borne pending. refl;
          loaded = loaded;
          joined = joined_now;
          seen = seen_now;
          still = λ j y sits a among. elim (at_set sights id j w y sits) [
            | inl h ↦ subst (λ (z : Sight S). IsStill f.role k.states values' z a) h.1 (elim (still a (subst (λ (z : Sight S). Among a z.still) (sym h.1) among)) [
              | inl g ↦ mine_other k.states values' (λ j ne. refl) other_values a g.0 g.1
              | inr g ↦ written a g.0 g.1 g.2 g.3
            ])
            | inr h ↦ others_still k.states values' (λ j ne. refl) other_values j y h.0 h.1 a among
          ];
        })
      where
        given_here : AreGiven P m0.0 f.net f.role f.gave (IsJoined sights')
        given_here = gave_same P main first is_job n k sights f id v w at i b c step m0.0 t0 m0.1 refl

        seen_now : (j : ℕ) (y : Sight S) → Sits sights' j y → (a : Seen) → Among a y.seen → Grown a.state (k.states a.entry)
        seen_now j y sits a among = elim (at_set sights id j w y sits) [
          | inl h ↦ f.seen id v at a (subst (λ (z : List Seen). Among a z) seen (subst (λ (z : Sight S). Among a z.seen) (sym h.1) among))
          | inr h ↦ f.seen j y h.1 a among
        ]

  -- the bit is set
  module _ (hangs : f.net.place e ≢ apart) (states' : ℕ → EntryState) (d : Leaves k.states states' k.infos e v.words w.words) (cell : ℕ) (site : r.site ≡ on cell) (op : Op)
      (right : right_of b.body.start.context cell ≡ Holds (Fold op) true) (ended : is_ended P x ≡ true) (wait : WaitClause P f.state b.path t0) (value_is : k.values e ≡ slot_of P x.start cell op x.found)
      (still : (a : Fixed) → Among a w.still → Among a v.still × (a.entry ≢ e)) where
    start : x.start ≡ b.body.start
    start = m0.3 ∙ ap (λ (z : Body S). z.start) mine.body

    left_now : IsLeft P m0.0 k.values e r
    left_now =
        record {
          cell = cell;
          site = site;
          op = op;
          task = t0;
          at_ = subst (λ (z : List ℕ). At m0.0 z t0) (sym path) m0.1.turned.own;
          right = subst (λ (z : Start S). right_of z.context cell ≡ Holds (Fold op) true) (sym start) right;
          ended = ended;
          wait = subst (λ (z : List ℕ). WaitClause P m0.0 z t0) (sym path) (clause_on P f.state m0.0 m0.1.continues b.path t0 t0 refl wait);
          value = value_is;
        }

    each : (R : EntryState → EntryState → Type 0) → ((a : EntryState) → R a a) → R (k.states e) (states' e) → (j : ℕ) → R (k.states j) (states' j)
    each R self one j = elim (same_number j e) [
      | inl q ↦ subst (λ (z : ℕ). R (k.states z) (states' z)) (sym q) one
      | inr ne ↦ subst (λ (z : EntryState). R (k.states j) z) (sym (d.others j ne)) (self (k.states j))
    ]

    pub leave_field : FieldAt P main first is_job n f.net f.gave f.role (record k { states = states'; counts = k.counts; cells = k.cells; values = k.values }) sights'
    leave_field =
        job_field P main first is_job n k sights f id v w at i b c step m0.0 t0 states' k.counts k.cells k.values f.gave (record {
          went = m0.1;
          body = sym now;
          before = λ o q. now ∙ before_creation P f.state b.path b.body x o run q;
          behind = λ q. now ∙ behind_end P f.state b.path b.body x run q;
          cells = m0.2 ∙ f.cells;
          left = λ z q zs l. elim (same_number z e) [
            | inl same ↦
                let one : r ≡ q = let u : Some r ≡ Some q = sym is ∙ ap (λ (y : ℕ). f.role y) (sym same) ∙ zs in cc in
                subst (λ (y : ℕ). IsLeft P m0.0 k.values y q) (sym same) (subst (λ (y : Role). IsLeft P m0.0 k.values e y) one left_now)
            | inr ne ↦ left_still P main first is_job n k sights f id v w at i b c step m0.0 t0 m0.1 (sym now) (λ y. now ∙ behind_end P f.state b.path b.body x run y) z q zs (ap (λ (y : EntryState). y.left) (sym (d.others z ne)) ∙ l)
          ];
          words = subst (λ (z : List View). Kept n f.net f.gave states' k.infos z) (sym (words_set sights id w))
              (leaves_kept n f.net f.gave k.states states' k.infos (words_of sights) id v.words w.words f.words (at_words sights id v at) e (f.words.flow.words.inside e hangs) hangs d);
          gave_hangs = f.gave_hangs;
          given = gave_same P main first is_job n k sights f id v w at i b c step m0.0 t0 m0.1 refl;
          counts = counts_here m0.0 m0.1.continues states'
              (counting.same_counts f.state n f.net k.infos f.role k.states states' f.opened (owed_by_all sights) k.counts f.roles f.counts
              (each (λ (a z : EntryState). (z.reads ≡ a.reads) × (z.writes ≡ a.writes)) (λ a. (refl, refl)) (ap (λ (z : EntryState). z.reads) d.sets, ap (λ (z : EntryState). z.writes) d.sets)));
          alone = λ d z op y ne borne pending. refl;
          loaded = loaded;
          joined = joined_now;
          seen = λ j y sits a among. elim (at_set sights id j w y sits) [
            | inl h ↦ grown_on a.state (k.states a.entry) (states' a.entry) (f.seen id v at a (subst (λ (z : List Seen). Among a z) seen (subst (λ (z : Sight S). Among a z.seen) (sym h.1) among))) (grown a.entry)
            | inr h ↦ grown_on a.state (k.states a.entry) (states' a.entry) (f.seen j y h.1 a among) (grown a.entry)
          ];
          still = λ j y sits a among. elim (at_set sights id j w y sits) [
            | inl h ↦ let g = still a (subst (λ (z : Sight S). Among a z.still) (sym h.1) among) in subst (λ (z : Sight S). IsStill f.role states' k.values z a) h.1 (mine_other states' k.values d.others (λ j ne. refl) a g.0 g.1)
            | inr h ↦ others_still states' k.values d.others (λ j ne. refl) j y h.0 h.1 a among
          ];
        })
      where
        grown : (z : ℕ) → Grown (k.states z) (states' z)
        grown = each Grown (λ a. grown_same a a refl) (subst (λ (z : EntryState). Grown (k.states e) z) (sym d.sets) (left_grown (k.states e)))
