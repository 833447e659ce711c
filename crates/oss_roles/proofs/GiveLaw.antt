-- The give of an entry by the seat that holds its job: the machine lets the cell go; of a task's own entry no move.
use Rattle.std.proofs.Common.{◌≡◌, ◌≢◌, ◌⊎◌, inl, inr, sym, subst, refl, ◌∙◌, ap, ℕ, Bool, true, false, List, [], ◌∷◌, set, Some}
use mathlib.Core.Option as maybe
use lib.ListN.{get_elem?}
use Rattle.atomic_table.proofs.Lists.{at_set, set_else}
use Rattle.oss_syntax.specs.declared.access.Mode.{Mode}
use Rattle.oss_syntax.specs.declared.access.Mode.TheVariants.{Fold}
use Rattle.oss_syntax.specs.declared.access.Op.{Op}
use Rattle.oss_model.specs.Bodies.{Program, Start, Body}
use Rattle.oss_model.specs.Context.{right_of}
use Rattle.oss_model.specs.Machine.{Task, State, At, HasGiven}
use Rattle.oss_model.specs.Moves.{after_giving, CanLet, IsGone, IsClosed}
use Rattle.oss_model.specs.Order.{IsIn, here}
use Rattle.oss_model.specs.Rights.{Holds}
use Rattle.oss_model.proofs.MoveLemmas.{which_path, in_cons}
use Rattle.oss_model.proofs.TreeLemmas.{at_same}
use Rattle.oss_words.specs.declared.entry.EntryState.{EntryState}
use Rattle.oss_words.specs.Grown.{Grown}
use Rattle.oss_words.specs.Members.{Has}
use Rattle.oss_words.specs.Net.{apart}
use Rattle.oss_words.specs.Rule.{Kept}
use Rattle.oss_words.specs.Steps.{GivesUp}
use Rattle.oss_words.specs.Views.{Seen, Among}
use Rattle.oss_words.proofs.CauseLemmas.{clash}
use Rattle.oss_words.proofs.KeptLaw.{at_here}
use Rattle.oss_words.proofs.StillLemmas.{grown_on}
use Rattle.oss_words.proofs.SumLemmas.{same_number}
use Rattle.oss_roles.specs.Alone.{GoesAlone}
use Rattle.oss_roles.specs.Counting.{AreCounts}
use Rattle.oss_roles.specs.Field.{Field, FieldAt, Parts, Sits, words_of, owed_by_all, IsJoined, is_joined, IsBorne, IsPending, IsStill}
use Rattle.oss_roles.proofs.Going.{Continues, Went, with_task}
use Rattle.oss_roles.specs.Roles.{Role, itself, on, AreGiven}
use Rattle.oss_roles.specs.Sights.{Bearing, Noted, Fixed, Sight, Telling}
use Rattle.oss_roles.specs.Steps.{JobGoes}
use Rattle.oss_roles.proofs.AloneLaw.{went_on}
use Rattle.oss_roles.proofs.CountLaw.{same_counts}
use Rattle.oss_roles.proofs.FoldLaw.{join_left}
use Rattle.oss_roles.proofs.GoesLaw.{one_holder}
use Rattle.oss_roles.proofs.JobLaw.{before_creation, behind_end, counts_on, counts_owed, owed_same, joined_forth, left_still, job_field, caught_up}
use Rattle.oss_roles.proofs.MoveLaw.{let_once}
use Rattle.oss_roles.proofs.StateLemmas.{given_on, clause_on}

-- What a give changes of a word: given, and perhaps done.
pub record GivesWord (a c : EntryState) : Type 0 where
  pub reads : c.reads ≡ a.reads
  pub writes : c.writes ≡ a.writes
  pub left : c.left ≡ a.left
  pub grown : Grown a c

module _ {S J : Type 0} (P : Program S) (main : Start S) (first : List ℕ) (is_job : Telling S J) (n : ℕ) (k : Parts J) (sights : List (Sight S)) (f : Field P main first is_job n k sights)
    (id : ℕ) (v w : Sight S) (at : Sits sights id v) (i : ℕ) (b c : Bearing S) (step : JobGoes v w i b c)
    (x : Body S) (run : GoesAlone P f.state b.path b.body x) (now : c.body ≡ x)
    (e : ℕ) (r : Role) (is : f.role e ≡ Some r) (path : r.path ≡ b.path) (hangs : f.net.place e ≢ apart)
    (states' : ℕ → EntryState) (gave' : ℕ → Bool) (gives : GivesUp f.gave gave' e) (word : GivesWord (k.states e) (states' e)) (others : (j : ℕ) → j ≢ e → states' j ≡ k.states j) (ungiven : (k.states e).given ≡ false)
    (words : Kept n f.net gave' states' k.infos (words_of (set sights id w)))
    (owes : w.owes ≡ v.owes) (none : v.joined ≡ []) (seen : w.seen ≡ v.seen) (still : (y : Fixed) → Among y w.still → Among y v.still × (y.entry ≢ e)) where
  abbrev sights' : List (Sight S)
  sights' = set sights id w

  abbrev mine : IsBorne f.state sights f.net f.role b
  mine = f.borne id v at i b step.has

  m0 : (m : State S) × Went P main first f.state b.path m (record { body = x; given = mine.task.given }) × (m.cells ≡ f.state.cells) × (x.start ≡ mine.task.body.start)
  m0 = caught_up P main first is_job n k sights f id v w at i b c step x run

  abbrev t0 : Task S
  t0 = record { body = x; given = mine.task.given }

  each : (R : EntryState → EntryState → Type 0) → ((a : EntryState) → R a a) → R (k.states e) (states' e) → (j : ℕ) → R (k.states j) (states' j)
  each R self one j = elim (same_number j e) [
    | inl q ↦ subst (λ (z : ℕ). R (k.states z) (states' z)) (sym q) one
    | inr ne ↦ subst (λ (z : EntryState). R (k.states j) z) (sym (others j ne)) (self (k.states j))
  ]

  counts_now : (m : State S) → Continues P f.state m → AreCounts m n f.net f.role states' f.opened (owed_by_all sights') k.counts
  counts_now m on_ =
      counts_owed m n f.net f.role states' f.opened (owed_by_all sights) (owed_by_all sights') k.counts (owed_same sights id v w at owes)
      (counts_on P f.state m on_ n f.net f.role states' f.opened (owed_by_all sights) k.counts
      (same_counts f.state n f.net k.infos f.role k.states states' f.opened (owed_by_all sights) k.counts f.roles f.counts
      (each (λ (a d : EntryState). (d.reads ≡ a.reads) × (d.writes ≡ a.writes)) (λ a. (refl, refl)) (word.reads, word.writes))))

  -- nobody else has read this entry as one of its jobs
  still_now : (j : ℕ) (y : Sight S) → Sits sights' j y → (a : Fixed) → Among a y.still → IsStill f.role states' k.values y a
  still_now j y sits a among = elim (at_set sights id j w y sits) [
    | inl h ↦ let g = still a (subst (λ (z : Sight S). Among a z.still) (sym h.1) among) in subst (λ (z : Sight S). IsStill f.role states' k.values z a) h.1 (mine_still (f.still id v at a g.0) g.1)
    | inr h ↦ other_still (f.still j y h.1 a among) h.0 h.1
  ]
    where
      mine_still : IsStill f.role k.states k.values v a → a.entry ≢ e → IsStill f.role states' k.values w a
      mine_still g ne = elim (same_number g.place i) [
        | inl q ↦
            let one : g.bearing ≡ b = maybe.some-injective g.bearing b (sym g.held ∙ ap (λ (z : ℕ). get_elem? v.bears z) q ∙ step.has) in
            record {
              bearing = c;
              place = i;
              held = ap (λ (z : List (Bearing S)). get_elem? z i) step.bears ∙ at_here v.bears i b c step.has;
              it = g.it;
              is = g.is;
              path = g.path ∙ ap (λ (z : Bearing S). z.path) one ∙ sym step.path;
              left = ap (λ (z : EntryState). z.left) (others a.entry ne) ∙ g.left;
              given = λ no. ap (λ (z : EntryState). z.given) (others a.entry ne) ∙ g.given no;
              value = g.value;
            }
        | inr np ↦ record {
          bearing = g.bearing;
          place = g.place;
          held = ap (λ (z : List (Bearing S)). get_elem? z g.place) step.bears ∙ set_else v.bears i g.place c np ∙ g.held;
          it = g.it;
          is = g.is;
          path = g.path;
          left = ap (λ (z : EntryState). z.left) (others a.entry ne) ∙ g.left;
          given = λ no. ap (λ (z : EntryState). z.given) (others a.entry ne) ∙ g.given no;
          value = g.value;
        }
      ]

      other_still : IsStill f.role k.states k.values y a → j ≢ id → Sits sights j y → IsStill f.role states' k.values y a
      other_still g nj sits =
          let ne : a.entry ≢ e = λ q.
          let role_one : g.it ≡ r = let z : Some g.it ≡ Some r = sym g.is ∙ ap (λ (u : ℕ). f.role u) q ∙ is in cc in
          nj (sym (one_holder P main first is_job n k sights f id j i g.place v y b g.bearing at step.has sits g.held (sym path ∙ ap (λ (u : Role). u.path) (sym role_one) ∙ g.path)).0) in
          record {
            bearing = g.bearing;
            place = g.place;
            held = g.held;
            it = g.it;
            is = g.is;
            path = g.path;
            left = ap (λ (z : EntryState). z.left) (others a.entry ne) ∙ g.left;
            given = λ no. ap (λ (z : EntryState). z.given) (others a.entry ne) ∙ g.given no;
            value = g.value;
          }

  nothing : {A : Type 0} (z : A) → Among z [] → ⊥
  nothing z h = elim h [ ]

  joined_now : (j : ℕ) (y : Sight S) → Sits sights' j y → (z : ℕ) → Among z y.joined → Has (record { entry = z; flag = 0 }) y.words.held
  joined_now j y sits z among = elim (at_set sights id j w y sits) [
    | inl h ↦ absurd (nothing z (subst (λ (l : List ℕ). Among z l) (step.joined ∙ none) (subst (λ (u : Sight S). Among z u.joined) (sym h.1) among)))
    | inr h ↦ f.joined j y h.1 z among
  ]

  seen_now : (j : ℕ) (y : Sight S) → Sits sights' j y → (a : Seen) → Among a y.seen → Grown a.state (states' a.entry)
  seen_now j y sits a among = elim (at_set sights id j w y sits) [
    | inl h ↦ grown_on a.state (k.states a.entry) (states' a.entry) (f.seen id v at a (subst (λ (z : List Seen). Among a z) seen (subst (λ (z : Sight S). Among a z.seen) (sym h.1) among))) (grown a.entry)
    | inr h ↦ grown_on a.state (k.states a.entry) (states' a.entry) (f.seen j y h.1 a among) (grown a.entry)
  ]
    where
      grown : (z : ℕ) → Grown (k.states z) (states' z)
      grown = each Grown (λ a. record { reads = λ h. h; folds = λ h. h; writes = λ h. h; given = λ h. h; done = λ h. h; clear = λ h. h; left = λ h. h; linked = λ h. h; next = λ h. refl; headed = λ h. h; child = λ h. refl }) word.grown

  left_now : (z : ℕ) → (states' z).left ≡ true → (k.states z).left ≡ true
  left_now z h = sym (each (λ (a d : EntryState). d.left ≡ a.left) (λ a. refl) word.left z) ∙ h

  gave_hangs_now : (z : ℕ) → gave' z ≡ true → f.net.place z ≢ apart
  gave_hangs_now z h = elim (same_number z e) [
    | inl q ↦ subst (λ (y : ℕ). f.net.place y ≢ apart) (sym q) hangs
    | inr ne ↦ f.gave_hangs z (sym (gives.same z ne) ∙ h)
  ]

  still_gave : (z : ℕ) → f.gave z ≡ true → gave' z ≡ true
  still_gave z h = elim (same_number z e) [ inl q ↦ ap gave' q ∙ gives.now | inr ne ↦ gives.same z ne ∙ h ]

  -- a cell is given up
  module _ (cell : ℕ) (site : r.site ≡ on cell) (mode : Mode) (strong : Bool) (right : right_of b.body.start.context cell ≡ Holds mode strong) (no_fold : (op : Op) → right_of b.body.start.context cell ≢ Holds (Fold op) true)
      (gone : IsGone P f.state b.path cell t0) (loaded : (y : Noted) → Among y w.loaded → IsPending P k.cells w y) where
    start : x.start ≡ b.body.start
    start = m0.3 ∙ ap (λ (z : Body S). z.start) mine.body

    not_yet : IsIn cell mine.task.given → ⊥
    not_yet h = elim (f.given.back e cell r is site (record { task = mine.task; at_ = subst (λ (z : List ℕ). At f.state z mine.task) (sym path) mine.at_; given = h })) [
      | inl g ↦ clash (f.words.given e (f.words.flow.words.inside e hangs) ∙ g) ungiven
      | inr j ↦ elim j [
        | is_joined q y sits among ↦
            let l = join_left P main first is_job n k sights f q y sits e (f.joined q y sits e among) r is in
            let cell_is : l.0 ≡ cell = let z : on l.0 ≡ on cell = sym l.1 ∙ site in cc in
            let one = at_same f.state b.path l.3 mine.task (subst (λ (z : List ℕ). At f.state z l.3) path l.4) mine.at_ in
            no_fold l.2 (subst (λ (z : ℕ). right_of b.body.start.context z ≡ Holds (Fold l.2) true) cell_is (subst (λ (z : Body S). right_of z.start.context l.0 ≡ Holds (Fold l.2) true) (ap (λ (z : Task S). z.body) one ∙ mine.body) l.5))
      ]
    ]

    can : CanLet P m0.0 b.path cell t0
    can =
        record {
          at_ = m0.1.turned.own;
          not_main = λ q. let m = f.roles.below_main e r is in let z : m.0 ∷ m.1 ≡ [] = sym m.2 ∙ path ∙ q in cc;
          mode = mode;
          strong = strong;
          right = subst (λ (z : Start S). right_of z.context cell ≡ Holds mode strong) (sym start) right;
          no_fold = λ op. subst (λ (z : Start S). right_of z.context cell ≢ Holds (Fold op) true) (sym start) (no_fold op);
          kept = not_yet;
          gone = elim gone [
            | inl g ↦ inl g
            | inr g ↦ inr (g.0, clause_on P f.state m0.0 m0.1.continues b.path t0 t0 refl g.1)
          ];
        }

    abbrev given_state : State S
    given_state = with_task (after_giving cell t0) m0.0.cells m0.0

    let_went : Went P main first m0.0 b.path given_state (after_giving cell t0)
    let_went = let_once P main first m0.0 b.path cell t0 m0.1.reached can

    whole : Went P main first f.state b.path given_state (after_giving cell t0)
    whole = went_on P main first f.state m0.0 given_state b.path t0 (after_giving cell t0) m0.1 let_went

    given_now : AreGiven P given_state f.net f.role gave' (IsJoined sights')
    given_now =
        given_on P f.state given_state whole.continues f.net f.role f.gave gave' (IsJoined sights) (IsJoined sights') f.given
        (λ z q zs h. elim (same_number z e) [
          | inl g ↦
              let one : q ≡ r = let u : Some q ≡ Some r = sym zs ∙ ap (λ (y : ℕ). f.role y) g ∙ is in cc in
              inr (
                (λ d at_d.
                    let same : d ≡ cell = let u : on d ≡ on cell = sym at_d ∙ ap (λ (y : Role). y.site) one ∙ site in cc in
                    record { task = after_giving cell t0; at_ = subst (λ (y : List ℕ). At given_state y (after_giving cell t0)) (sym (ap (λ (y : Role). y.path) one ∙ path)) whole.turned.own; given = subst (λ (y : ℕ). IsIn y (cell ∷ mine.task.given)) (sym same) here }),
                (λ at_own. absurd (let u : on cell ≡ itself = sym site ∙ ap (λ (y : Role). y.site) (sym one) ∙ at_own in let bad : ⊥ = cc in bad)),
              )
          | inr ne ↦ inl (sym (gives.same z ne) ∙ h)
        ])
        (λ z d q zs at_d h. back z d q zs at_d h (which_path q.path b.path))
        still_gave
        (λ z h. inr (joined_forth sights id v w at step.joined z h))
      where
        back : (z d : ℕ) (q : Role) → f.role z ≡ Some q → q.site ≡ on d → HasGiven given_state d q.path → (q.path ≡ b.path) ⊎ (q.path ≢ b.path) → HasGiven f.state d q.path ⊎ ((gave' z ≡ true) ⊎ IsJoined sights' z)
        back z d q zs at_d h (inl p) =
            let one : h.task ≡ after_giving cell t0 = at_same given_state b.path h.task (after_giving cell t0) (subst (λ (y : List ℕ). At given_state y h.task) p h.at_) whole.turned.own in
            elim (in_cons (subst (λ (y : Task S). IsIn d y.given) one h.given)) [
              | inl same ↦
                  let entry : z ≡ e = f.roles.one z e q r zs is (p ∙ sym path) (at_d ∙ ap (λ (y : ℕ). on y) same ∙ sym site) in
                  inr (inl (ap gave' entry ∙ gives.now))
              | inr old ↦ inl (record { task = mine.task; at_ = subst (λ (y : List ℕ). At f.state y mine.task) (sym p) mine.at_; given = old })
            ]
        back z d q zs at_d h (inr np) = inl (record { task = h.task; at_ = sym (whole.turned.others q.path np) ∙ h.at_; given = h.given })

    -- the machine lets it go
    pub give_field : FieldAt P main first is_job n f.net gave' f.role (record k { states = states'; counts = k.counts; cells = k.cells }) sights'
    give_field =
        job_field P main first is_job n k sights f id v w at i b c step given_state (after_giving cell t0) states' k.counts k.cells k.values gave' (record {
          went = whole;
          body = sym now;
          before = λ o q. now ∙ before_creation P f.state b.path b.body x o run q;
          behind = λ q. now ∙ behind_end P f.state b.path b.body x run q;
          cells = m0.2 ∙ f.cells;
          left = λ z q zs l. left_still P main first is_job n k sights f id v w at i b c step given_state (after_giving cell t0) whole (sym now) (λ y. now ∙ behind_end P f.state b.path b.body x run y) z q zs (left_now z l);
          words = words;
          gave_hangs = gave_hangs_now;
          given = given_now;
          counts = counts_now given_state whole.continues;
          alone = λ d z op y ne borne pending. refl;
          loaded = loaded;
          joined = joined_now;
          seen = seen_now;
          still = still_now;
        })

  -- a task's own entry: no move
  module _ (site : r.site ≡ itself) (closed : IsClosed P b.path t0) (loaded : (y : Noted) → Among y w.loaded → IsPending P k.cells w y) where
    own_given : AreGiven P m0.0 f.net f.role gave' (IsJoined sights')
    own_given =
        given_on P f.state m0.0 m0.1.continues f.net f.role f.gave gave' (IsJoined sights) (IsJoined sights') f.given
        (λ z q zs h. elim (same_number z e) [
          | inl g ↦
              let one : q ≡ r = let u : Some q ≡ Some r = sym zs ∙ ap (λ (y : ℕ). f.role y) g ∙ is in cc in
              let where_ : q.path ≡ b.path = ap (λ (y : Role). y.path) one ∙ path in
              inr (
                (λ d at_d. absurd (let u : on d ≡ itself = sym at_d ∙ ap (λ (y : Role). y.site) one ∙ site in let bad : ⊥ = cc in bad)),
                (λ at_own. (t0, subst (λ (y : List ℕ). At m0.0 y t0) (sym where_) m0.1.turned.own, subst (λ (y : List ℕ). IsClosed P y t0) (sym where_) closed)),
              )
          | inr ne ↦ inl (sym (gives.same z ne) ∙ h)
        ])
        (λ z d q zs at_d h. inl (back d q.path h (which_path q.path b.path)))
        still_gave
        (λ z h. inr (joined_forth sights id v w at step.joined z h))
      where
        back : (d : ℕ) (p : List ℕ) → HasGiven m0.0 d p → (p ≡ b.path) ⊎ (p ≢ b.path) → HasGiven f.state d p
        back d p h (inl q) =
            let one : h.task ≡ t0 = at_same m0.0 b.path h.task t0 (subst (λ (y : List ℕ). At m0.0 y h.task) q h.at_) m0.1.turned.own in
            record { task = mine.task; at_ = subst (λ (y : List ℕ). At f.state y mine.task) (sym q) mine.at_; given = subst (λ (y : Task S). IsIn d y.given) one h.given }
        back d p h (inr np) = record { task = h.task; at_ = sym (m0.1.turned.others p np) ∙ h.at_; given = h.given }

    pub give_own_field : FieldAt P main first is_job n f.net gave' f.role (record k { states = states'; counts = k.counts; cells = k.cells }) sights'
    give_own_field =
        job_field P main first is_job n k sights f id v w at i b c step m0.0 t0 states' k.counts k.cells k.values gave' (record {
          went = m0.1;
          body = sym now;
          before = λ o q. now ∙ before_creation P f.state b.path b.body x o run q;
          behind = λ q. now ∙ behind_end P f.state b.path b.body x run q;
          cells = m0.2 ∙ f.cells;
          left = λ z q zs l. left_still P main first is_job n k sights f id v w at i b c step m0.0 t0 m0.1 (sym now) (λ y. now ∙ behind_end P f.state b.path b.body x run y) z q zs (left_now z l);
          words = words;
          gave_hangs = gave_hangs_now;
          given = own_given;
          counts = counts_now m0.0 m0.1.continues;
          alone = λ d z op y ne borne pending. refl;
          loaded = loaded;
          joined = joined_now;
          seen = seen_now;
          still = still_now;
        })
