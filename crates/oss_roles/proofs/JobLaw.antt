-- The rule after a step that was given a job: put together from what each kind of step tells, and its instances for the load and the store of a
-- cell.
use Rattle.std.proofs.Common.{◌≡◌, ◌≢◌, ◌⊎◌, inl, inr, sym, subst, refl, ◌∙◌, ap, ℕ, ◌+◌, arith, Bool, true, false, List, set, Option, Some}
use Rattle.std.specs.Prelude.{slice_index, slice_set, not}
use mathlib.Core.Option as maybe
use lib.ListN.{get_elem?}
use Rattle.std.proofs.Math.Seq.{map-set}
use Rattle.atomic_table.proofs.Lists.{at_set, at_map, set_again, set_else}
use Rattle.oss_syntax.specs.declared.access.Op.{Op}
use Rattle.oss_model.specs.Bodies.{Order, Program, Act, Start, Body, IsHalt}
use Rattle.oss_model.specs.Bodies.Act.{Load, Store, Created, Folded, Over}
use Rattle.oss_model.specs.Machine.{Task, State, At, HasGiven, IsReady, IsWaitMet}
use Rattle.oss_model.specs.Moves.{act_now, created_now, is_ended, cells_after, found_by, combine, after_answer, CanStep}
use Rattle.oss_model.specs.Order.{IsIn}
use Rattle.oss_model.proofs.MoveLemmas.{which_path}
use Rattle.oss_model.proofs.TreeLemmas.{at_same, over_stops}
use Rattle.oss_words.specs.declared.entry.EntryState.{EntryState}
use Rattle.oss_words.specs.Grown.{Grown}
use Rattle.oss_words.specs.Members.{Has}
use Rattle.oss_words.specs.Net.{Net, apart}
use Rattle.oss_words.specs.Rule.{Kept}
use Rattle.oss_words.specs.Sums.{below, num}
use Rattle.oss_words.specs.Views.{View, Seen, Among}
use Rattle.oss_words.proofs.KeptLaw.{at_here}
use Rattle.oss_words.proofs.SumLemmas.{total_set, same_number}
use Rattle.oss_roles.specs.Alone.{IsOwnAct, with_answer, GoesAlone, rests, acts_on}
use Rattle.oss_roles.specs.Counting.{weight, AreCounts}
use Rattle.oss_roles.specs.Field.{Field, FieldAt, Parts, Sits, words_of, times, owed_by_all, IsJoined, is_joined, IsBorne, IsLeft, IsPending, IsStill, IsTaken}
use Rattle.oss_roles.proofs.Going.{Continues, with_task, Went}
use Rattle.oss_roles.specs.Roles.{Role, AreGiven}
use Rattle.oss_roles.specs.Sights.{Bearing, Noted, Fixed, Sight, Telling}
use Rattle.oss_roles.specs.Steps.{JobGoes}
use Rattle.oss_roles.proofs.AloneLaw.{alone_goes, step_once, went_on}
use Rattle.oss_roles.proofs.GoesLaw.{goes_filed, goes_somewhere, goes_borne, goes_made, goes_left, goes_loaded, goes_ready, making_on}
use Rattle.oss_roles.proofs.MoveLaw.{fold_is_alone}
use Rattle.oss_roles.proofs.StateLemmas.{given_on, given_forth, ready_on}
use Rattle.oss_roles.specs.JobSteps.{Writes, stores, folds}

-- a body that stands before an act which is none of its own has not gone on
pub stands_still : {S : Type 0} (P : Program S) (s : State S) (p : List ℕ) (b x : Body S) → GoesAlone P s p b x → (IsOwnAct (act_now P b) → ⊥) → x ≡ b
stands_still P s p b x rests no_own = refl
stands_still P s p b x (acts_on {x = y} run own met) no_own =
    let same : y ≡ b = stands_still P s p b y run no_own in
    absurd (no_own (subst (λ (z : Body _). IsOwnAct (act_now P z)) same own))

pub before_creation : {S : Type 0} (P : Program S) (s : State S) (p : List ℕ) (b x : Body S) (o : Order S) → GoesAlone P s p b x → act_now P b ≡ Created o false → x ≡ b
before_creation P s p b x o run act = stands_still P s p b x run (λ own. subst IsOwnAct act own)

pub behind_end : {S : Type 0} (P : Program S) (s : State S) (p : List ℕ) (b x : Body S) → GoesAlone P s p b x → is_ended P b ≡ true → x ≡ b
behind_end P s p b x run over = stands_still P s p b x run (λ own. subst IsOwnAct (over_stops P b.start b.found over) own)

-- counts speak of the state by which tasks are there
pub counts_on : {S : Type 0} (P : Program S) (s m : State S) → Continues P s m → (n : ℕ) (net : Net) (role : ℕ → Option Role) (states : ℕ → EntryState) (opened : ℕ → Bool) (owed count : ℕ → ℕ) → AreCounts s n net role states opened owed count → AreCounts m n net role states opened owed count
counts_on P s m c n net role states opened owed count k =
    record {
      sum = k.sum;
      blank = k.blank;
      main = k.main;
      opened_is = λ t q is at.
          let o = k.opened_is t q is at in
          ((λ h. let u = o.0 h in let y = c.forth q.path u.0 u.1 in (y.0, y.1)), (λ h. let y = c.back q.path h.0 h.1 in o.1 (y.0, y.1)));
      open_start = k.open_start;
      strong = k.strong;
    }

-- the same counts, if as much is owed
pub counts_owed : {S : Type 0} (s : State S) (n : ℕ) (net : Net) (role : ℕ → Option Role) (states : ℕ → EntryState) (opened : ℕ → Bool) (owed owed' count : ℕ → ℕ) → ((t : ℕ) → owed' t ≡ owed t) → AreCounts s n net role states opened owed count → AreCounts s n net role states opened owed' count
counts_owed s n net role states opened owed owed' count same k =
    record {
      sum = λ t q is at. k.sum t q is at ∙ ap (λ (z : ℕ). num (not (opened t)) + below (λ e. weight t (role e) (states e)) n + z) (sym (same t));
      blank = λ t ne low none. let b = k.blank t ne low none in (b.0, same t ∙ b.1);
      main = k.main;
      opened_is = k.opened_is;
      open_start = k.open_start;
      strong = k.strong;
    }

pub owed_same : {S : Type 0} (sights : List (Sight S)) (id : ℕ) (v w : Sight S) → Sits sights id v → w.owes ≡ v.owes → (t : ℕ) → owed_by_all (set sights id w) t ≡ owed_by_all sights t
owed_same sights id v w at same t =
    let a = total_set (λ (x : Sight _). times t x.owes) sights id v w at in
    let b : times t w.owes ≡ times t v.owes = ap (λ (x : List ℕ). times t x) same in
    omega (arith, a, b)

pub words_same : {S : Type 0} (sights : List (Sight S)) (id : ℕ) (v w : Sight S) → Sits sights id v → w.words ≡ v.words → words_of (set sights id w) ≡ words_of sights
words_same sights id v w at same = map-set (λ (x : Sight _). x.words) sights id w ∙ ap (λ (x : View). set (words_of sights) id x) same ∙ set_again (words_of sights) id v.words (at_map (λ (x : Sight _). x.words) sights id v at)

pub joined_forth : {S : Type 0} (sights : List (Sight S)) (id : ℕ) (v w : Sight S) → Sits sights id v → w.joined ≡ v.joined → (e : ℕ) → IsJoined sights e → IsJoined (set sights id w) e
joined_forth sights id v w at same e (is_joined j x sits among) = elim (same_number j id) [
  | inl q ↦
      let here : x ≡ v = maybe.some-injective x v (sym sits ∙ ap (λ (z : ℕ). get_elem? sights z) q ∙ at) in
      is_joined id w (at_here sights id v w at) (subst (λ (l : List ℕ). Among e l) (sym same) (subst (λ (z : Sight _). Among e z.joined) here among))
  | inr ne ↦ is_joined j x (set_else sights id j w ne ∙ sits) among
]

module _ {S J : Type 0} (P : Program S) (main : Start S) (first : List ℕ) (is_job : Telling S J) (n : ℕ) (k : Parts J) (sights : List (Sight S)) (f : Field P main first is_job n k sights)
    (id : ℕ) (v w : Sight S) (at : Sits sights id v) (i : ℕ) (b c : Bearing S) (step : JobGoes v w i b c) where
  abbrev pub mine : IsBorne f.state sights f.net f.role b
  mine = f.borne id v at i b step.has

  abbrev sights' : List (Sight S)
  sights' = set sights id w

  abbrev valued : (ℕ → EntryState) → (ℕ → ℕ) → List ℕ → (ℕ → ℕ) → Parts J
  valued states' counts' cells' values' = record k { states = states'; counts = counts'; cells = cells'; values = values' }

  abbrev changed : (ℕ → EntryState) → (ℕ → ℕ) → List ℕ → Parts J
  changed states' counts' cells' = valued states' counts' cells' k.values

  -- what a step that is given a job tells
  pub record Tells (m : State S) (t : Task S) (states' : ℕ → EntryState) (counts' : ℕ → ℕ) (cells' : List ℕ) (values' : ℕ → ℕ) (gave' : ℕ → Bool) : Type 0 where
    pub went : Went P main first f.state b.path m t
    pub body : t.body ≡ c.body
    pub before : (o : Order S) → act_now P b.body ≡ Created o false → c.body ≡ b.body
    pub behind : is_ended P b.body ≡ true → c.body ≡ b.body
    pub cells : m.cells ≡ cells'
    pub left : (e : ℕ) (r : Role) → f.role e ≡ Some r → (states' e).left ≡ true → IsLeft P m values' e r
    pub words : Kept n f.net gave' states' k.infos (words_of sights')
    pub gave_hangs : (e : ℕ) → gave' e ≡ true → f.net.place e ≢ apart
    pub given : AreGiven P m f.net f.role gave' (IsJoined sights')
    pub counts : AreCounts m n f.net f.role states' f.opened (owed_by_all sights') counts'
    pub alone : (d : Bearing S) (cell : ℕ) (op : Op) (x : ℕ) → d.path ≢ b.path → IsBorne f.state sights f.net f.role d → act_now P d.body ≡ Folded cell op x false → slice_index cells' cell ≡ slice_index k.cells cell
    pub loaded : (x : Noted) → Among x w.loaded → IsPending P cells' w x
    pub joined : (j : ℕ) (x : Sight S) → Sits sights' j x → (e : ℕ) → Among e x.joined → Has (record { entry = e; flag = 0 }) x.words.held
    pub seen : (j : ℕ) (x : Sight S) → Sits sights' j x → (y : Seen) → Among y x.seen → Grown y.state (states' y.entry)
    pub still : (j : ℕ) (x : Sight S) → Sits sights' j x → (y : Fixed) → Among y x.still → IsStill f.role states' values' x y

  taken_on : (m : State S) → Continues P f.state m → (e : ℕ) → IsTaken f.state f.role e → IsTaken m f.role e
  taken_on m on_ e g = record { it = g.it; is = g.is; cell = g.cell; site = g.site; given = given_forth P f.state m on_ g.cell g.it.path g.given }

  -- what was left before is left after a run of the machine
  pub left_still : (m : State S) (t : Task S) → Went P main first f.state b.path m t → t.body ≡ c.body → (is_ended P b.body ≡ true → c.body ≡ b.body) → (e : ℕ) (r : Role) → f.role e ≡ Some r → (k.states e).left ≡ true → IsLeft P m k.values e r
  left_still m t went body behind e r is l = goes_left P main first is_job n k sights f id v w at i b c step m t went body k refl refl behind e r (f.left e r is l)

  pub job_field : (m : State S) (t : Task S) (states' : ℕ → EntryState) (counts' : ℕ → ℕ) (cells' : List ℕ) (values' : ℕ → ℕ) (gave' : ℕ → Bool) → Tells m t states' counts' cells' values' gave' → FieldAt P main first is_job n f.net gave' f.role (valued states' counts' cells' values') sights'
  job_field m t states' counts' cells' values' gave' x =
      record {
        field = record {
          net = f.net;
          gave = gave';
          role = f.role;
          opened = f.opened;
          state = m;
          words = x.words;
          gave_hangs = x.gave_hangs;
          unused = f.unused;
          roles = f.roles;
          filed = goes_filed P main first is_job n k sights f id v w at i b c step m t x.went x.body (valued states' counts' cells' values') refl refl;
          given = x.given;
          counts = x.counts;
          cells = x.cells;
          planned = λ e r is. elim (f.planned e r is) [
            | inl u ↦ let y = x.went.continues.forth r.path u.0 u.1 in inl (y.0, y.1)
            | inr u ↦ inr (making_on sights id v w at step.makes r.task u)
          ];
          somewhere = goes_somewhere P main first is_job n k sights f id v w at i b c step m t x.went x.body (valued states' counts' cells' values') refl refl;
          borne = goes_borne P main first is_job n k sights f id v w at i b c step m t x.went x.body (valued states' counts' cells' values') refl refl;
          made = goes_made P main first is_job n k sights f id v w at i b c step m t x.went x.body (valued states' counts' cells' values') refl refl x.before;
          left = x.left;
          numbered = f.numbered;
          loaded = goes_loaded P main first is_job n k sights f id v w at i b c step m t x.went x.body (valued states' counts' cells' values') refl refl x.alone x.loaded;
          joined = x.joined;
          joined_given = λ j y sits e among. elim (at_set sights id j w y sits) [
            | inl h ↦ taken_on m x.went.continues e (f.joined_given id v at e (subst (λ (z : List ℕ). Among e z) step.joined (subst (λ (z : Sight S). Among e z.joined) (sym h.1) among)))
            | inr h ↦ taken_on m x.went.continues e (f.joined_given j y h.1 e among)
          ];
          ready = goes_ready P main first is_job n k sights f id v w at i b c step m t x.went x.body (valued states' counts' cells' values') refl refl;
          seen = x.seen;
          still = x.still;
          setting = f.setting;
          reached = x.went.reached;
        };
        same_net = refl;
        same_gave = refl;
        same_role = refl;
      }

  -- nothing more is given up
  pub gave_same : (m : State S) (t : Task S) → Went P main first f.state b.path m t → t.given ≡ mine.task.given → AreGiven P m f.net f.role f.gave (IsJoined sights')
  gave_same m t went same =
      given_on P f.state m went.continues f.net f.role f.gave f.gave (IsJoined sights) (IsJoined sights') f.given
      (λ e r is h. inl h)
      (λ e d r is site h. inl (back r.path d h (which_path r.path b.path)))
      (λ e h. h)
      (λ e h. inr (joined_forth sights id v w at step.joined e h))
    where
      back : (p : List ℕ) (d : ℕ) → HasGiven m d p → (p ≡ b.path) ⊎ (p ≢ b.path) → HasGiven f.state d p
      back p d h (inl e) =
          let one : h.task ≡ t = at_same m b.path h.task t (subst (λ (z : List ℕ). At m z h.task) e h.at_) went.turned.own in
          record { task = mine.task; at_ = subst (λ (z : List ℕ). At f.state z mine.task) (sym e) mine.at_; given = subst (λ (z : List ℕ). IsIn d z) (ap (λ (z : Task S). z.given) one ∙ same) h.given }
      back p d h (inr ne) = record { task = h.task; at_ = sym (went.turned.others p ne) ∙ h.at_; given = h.given }

  module _ (x : Body S) (run : GoesAlone P f.state b.path b.body x) where
    -- the state after the own acts of the job
    pub caught_up : (m : State S) × Went P main first f.state b.path m (record { body = x; given = mine.task.given }) × (m.cells ≡ f.state.cells) × (x.start ≡ mine.task.body.start)
    caught_up = alone_goes P main first f.state b.path mine.task x f.reached mine.at_ (subst (λ (z : Body S). IsReady f.state b.path z.start.context) (sym mine.body) mine.ready)
        (subst (λ (z : Body S). GoesAlone P f.state b.path z x) (sym mine.body) run)

    -- the job's next act may be made, if it waits for nothing
    pub may_step : (IsHalt (act_now P x) → ⊥) → IsWaitMet P caught_up.0 b.path (created_now P x) (act_now P x) → CanStep P caught_up.0 b.path (record { body = x; given = mine.task.given })
    may_step on_ waits =
        let start : x.start ≡ b.body.start = caught_up.3 ∙ ap (λ (z : Body S). z.start) mine.body in
        record {
          at_ = caught_up.1.turned.own;
          goes = on_;
          ready = λ e. subst (λ (z : Start S). IsReady caught_up.0 b.path z.context) (sym start) (ready_on P f.state caught_up.0 caught_up.1.continues b.path b.body.start.context mine.ready);
          waits = waits;
        }

    -- a fold that stands next in another task may be made too
    can_fold : (d : Bearing S) (cell : ℕ) (op : Op) (z : ℕ) → d.path ≢ b.path → (y : IsBorne f.state sights f.net f.role d) → act_now P d.body ≡ Folded cell op z false → CanStep P caught_up.0 d.path y.task × (act_now P y.task.body ≡ Folded cell op z false)
    can_fold d cell op z ne y act =
        let pending : act_now P y.task.body ≡ Folded cell op z false = subst (λ (u : Body S). act_now P u ≡ Folded cell op z false) (sym y.body) act in (
          record {
            at_ = caught_up.1.turned.others d.path ne ∙ y.at_;
            goes = λ h. subst IsHalt pending h;
            ready = λ e. subst (λ (u : Body S). IsReady caught_up.0 d.path u.start.context) (sym y.body) (ready_on P f.state caught_up.0 caught_up.1.continues d.path d.body.start.context y.ready);
            waits = subst (λ (a : Act S). IsWaitMet P caught_up.0 d.path (created_now P y.task.body) a) (sym pending) tt;
          },
          pending,
        )

    -- what is so of both
    record Written (cells' : List ℕ) : Type 0 where
      on_ : IsHalt (act_now P x) → ⊥
      waits : IsWaitMet P caught_up.0 b.path (created_now P x) (act_now P x)
      none : (o : Order S) → act_now P x ≢ Created o false
      alive : act_now P x ≢ Over
      cells : cells_after (act_now P x) caught_up.0.cells ≡ cells'
      found : found_by (act_now P x) caught_up.0.cells ≡ 0

    written : (cells' : List ℕ) → Writes P k.cells x cells' → Written cells'
    written cells' (stores cell value act now) =
        record {
          on_ = λ h. subst IsHalt act h;
          waits = subst (λ (a : Act S). IsWaitMet P caught_up.0 b.path (created_now P x) a) (sym act) tt;
          none = λ o e. let z : Store cell value ≡ Created o false = sym act ∙ e in cc;
          alive = λ e. let z : Store cell value ≡ Over = sym act ∙ e in cc;
          cells = ap (λ (a : Act S). cells_after a caught_up.0.cells) act ∙ ap (λ (z : List ℕ). slice_set z cell value) (caught_up.2 ∙ f.cells) ∙ sym now;
          found = ap (λ (a : Act S). found_by a caught_up.0.cells) act;
        }
    written cells' (folds cell op operand act now) =
        record {
          on_ = λ h. subst IsHalt act h;
          waits = subst (λ (a : Act S). IsWaitMet P caught_up.0 b.path (created_now P x) a) (sym act) tt;
          none = λ o e. let z : Folded cell op operand false ≡ Created o false = sym act ∙ e in cc;
          alive = λ e. let z : Folded cell op operand false ≡ Over = sym act ∙ e in cc;
          cells = ap (λ (a : Act S). cells_after a caught_up.0.cells) act ∙ ap (λ (z : List ℕ). slice_set z cell (combine op (slice_index z cell) operand)) (caught_up.2 ∙ f.cells) ∙ sym now;
          found = ap (λ (a : Act S). found_by a caught_up.0.cells) act;
        }

    -- what it writes is no cell into which another task folds next
    pub write_alone : (cells' : List ℕ) → Writes P k.cells x cells' → (d : Bearing S) (cell : ℕ) (op : Op) (z : ℕ) → d.path ≢ b.path → IsBorne f.state sights f.net f.role d → act_now P d.body ≡ Folded cell op z false
        → slice_index cells' cell ≡ slice_index k.cells cell
    write_alone cells' writes d cell op z ne borne pending =
        let t0 : Task S = record { body = x; given = mine.task.given } in
        let act = written cells' writes in
        let can = may_step act.on_ act.waits in
        let cf = can_fold d cell op z ne borne pending in
        ap (λ (l : List ℕ). slice_index l cell) (sym act.cells) ∙ fold_is_alone P main first caught_up.0 d.path b.path borne.task t0 cell z op f.setting caught_up.1.reached ne cf.0 cf.1 can ∙ ap (λ (l : List ℕ). slice_index l cell) (caught_up.2 ∙ f.cells)

  -- nothing but the job and the cells is new: the parts that such a step tells
  module _ (words : w.words ≡ v.words) (owes : w.owes ≡ v.owes) (seen : w.seen ≡ v.seen) (still : w.still ≡ v.still) where
    same_words : Kept n f.net f.gave k.states k.infos (words_of sights')
    same_words = subst (λ (z : List View). Kept n f.net f.gave k.states k.infos z) (sym (words_same sights id v w at words)) f.words

    same_counts : (m : State S) → Continues P f.state m → AreCounts m n f.net f.role k.states f.opened (owed_by_all sights') k.counts
    same_counts m on_ =
        counts_owed m n f.net f.role k.states f.opened (owed_by_all sights) (owed_by_all sights') k.counts (owed_same sights id v w at owes) (counts_on P f.state m on_ n f.net f.role k.states f.opened (owed_by_all sights) k.counts f.counts)

    same_joined : (j : ℕ) (x : Sight S) → Sits sights' j x → (e : ℕ) → Among e x.joined → Has (record { entry = e; flag = 0 }) x.words.held
    same_joined j x sits e among = elim (at_set sights id j w x sits) [
      | inl h ↦
          let old = f.joined id v at e (subst (λ (z : List ℕ). Among e z) step.joined (subst (λ (z : Sight S). Among e z.joined) (sym h.1) among)) in
          subst (λ (z : Sight S). Has (record { entry = e; flag = 0 }) z.words.held) h.1 (subst (λ (z : View). Has (record { entry = e; flag = 0 }) z.held) (sym words) old)
      | inr h ↦ f.joined j x h.1 e among
    ]

    same_seen : (j : ℕ) (x : Sight S) → Sits sights' j x → (y : Seen) → Among y x.seen → Grown y.state (k.states y.entry)
    same_seen j x sits y among = elim (at_set sights id j w x sits) [
      | inl h ↦ f.seen id v at y (subst (λ (z : List Seen). Among y z) seen (subst (λ (z : Sight S). Among y z.seen) (sym h.1) among))
      | inr h ↦ f.seen j x h.1 y among
    ]

    same_still : (j : ℕ) (x : Sight S) → Sits sights' j x → (y : Fixed) → Among y x.still → IsStill f.role k.states k.values x y
    same_still j x sits y among = elim (at_set sights id j w x sits) [
      | inl h ↦ subst (λ (z : Sight S). IsStill f.role k.states k.values z y) h.1 (mine_still (f.still id v at y (subst (λ (z : List Fixed). Among y z) still (subst (λ (z : Sight S). Among y z.still) (sym h.1) among))))
      | inr h ↦ f.still j x h.1 y among
    ]
      where
        mine_still : IsStill f.role k.states k.values v y → IsStill f.role k.states k.values w y
        mine_still g = elim (same_number g.place i) [
          | inl e ↦
              let one : g.bearing ≡ b = maybe.some-injective g.bearing b (sym g.held ∙ ap (λ (z : ℕ). get_elem? v.bears z) e ∙ step.has) in
              record {
                bearing = c;
                place = i;
                held = ap (λ (z : List (Bearing S)). get_elem? z i) step.bears ∙ at_here v.bears i b c step.has;
                it = g.it;
                is = g.is;
                path = g.path ∙ ap (λ (z : Bearing S). z.path) one ∙ sym step.path;
                left = g.left;
                given = g.given;
                value = g.value;
              }
          | inr ne ↦ record {
            bearing = g.bearing;
            place = g.place;
            held = ap (λ (z : List (Bearing S)). get_elem? z g.place) step.bears ∙ set_else v.bears i g.place c ne ∙ g.held;
            it = g.it;
            is = g.is;
            path = g.path;
            left = g.left;
            given = g.given;
            value = g.value;
          }
        ]

    module _ (x : Body S) (run : GoesAlone P f.state b.path b.body x) where
      -- the load of a cell: the machine's step
      pub load_field : (cell : ℕ) → act_now P x ≡ Load cell → c.body ≡ with_answer (slice_index k.cells cell) x → ((y : Noted) → Among y w.loaded → IsPending P k.cells w y) → FieldAt P main first is_job n f.net f.gave f.role k sights'
      load_field cell act now loaded =
          let m0 = (caught_up x run).0 in
          let t0 : Task S = record { body = x; given = mine.task.given } in
          let can = may_step x run (λ h. subst IsHalt act h) (subst (λ (a : Act S). IsWaitMet P m0 b.path (created_now P x) a) (sym act) tt) in
          let stepped = step_once P main first m0 b.path t0 (caught_up x run).1.reached can (λ o e. let z : Load cell ≡ Created o false = sym act ∙ e in cc) in
          let u = found_by (act_now P x) m0.cells in
          let value : u ≡ slice_index k.cells cell = ap (λ (a : Act S). found_by a m0.cells) act ∙ ap (λ (z : List ℕ). slice_index z cell) ((caught_up x run).2 ∙ f.cells) in
          let m = with_task (after_answer u t0) (cells_after (act_now P x) m0.cells) m0 in
          let went = went_on P main first f.state m0 m b.path t0 (after_answer u t0) (caught_up x run).1 stepped in
          job_field m (after_answer u t0) k.states k.counts k.cells k.values f.gave (record {
            went = went;
            body = ap (λ (z : ℕ). with_answer z x) value ∙ sym now;
            before = λ o e. absurd (let same = before_creation P f.state b.path b.body x o run e in let z : Load cell ≡ Created o false = sym act ∙ ap (λ (y : Body S). act_now P y) same ∙ e in let bad : ⊥ = cc in bad);
            behind = λ over. absurd (let same = behind_end P f.state b.path b.body x run over in let z : Load cell ≡ Over = sym act ∙ ap (λ (y : Body S). act_now P y) same ∙ over_stops P b.body.start b.body.found over in let bad : ⊥ = cc in bad);
            cells = ap (λ (a : Act S). cells_after a m0.cells) act ∙ (caught_up x run).2 ∙ f.cells;
            left = left_still m (after_answer u t0) went (ap (λ (z : ℕ). with_answer z x) value ∙ sym now) (λ over. absurd (let same = behind_end P f.state b.path b.body x run over in let z : Load cell ≡ Over = sym act ∙ ap (λ (y : Body S). act_now P y) same ∙ over_stops P b.body.start b.body.found over in let bad : ⊥ = cc in bad));
            words = same_words;
            gave_hangs = f.gave_hangs;
            given = gave_same m (after_answer u t0) went refl;
            counts = same_counts m went.continues;
            alone = λ d e op z ne borne pending. refl;
            loaded = loaded;
            joined = same_joined;
            seen = same_seen;
            still = same_still;
          })

      -- the store of a cell: the machine's step of the store, or of the fold into the cell
      pub write_field : (cells' : List ℕ) → Writes P k.cells x cells' → c.body ≡ with_answer 0 x → ((y : Noted) → Among y w.loaded → IsPending P cells' w y) → FieldAt P main first is_job n f.net f.gave f.role (changed k.states k.counts cells') sights'
      write_field cells' writes now loaded =
          let m0 = (caught_up x run).0 in
          let t0 : Task S = record { body = x; given = mine.task.given } in
          let act = written x run cells' writes in
          let can = may_step x run act.on_ act.waits in
          let stepped = step_once P main first m0 b.path t0 (caught_up x run).1.reached can act.none in
          let u = found_by (act_now P x) m0.cells in
          let m = with_task (after_answer u t0) (cells_after (act_now P x) m0.cells) m0 in
          let went = went_on P main first f.state m0 m b.path t0 (after_answer u t0) (caught_up x run).1 stepped in
          job_field m (after_answer u t0) k.states k.counts cells' k.values f.gave (record {
            went = went;
            body = ap (λ (z : ℕ). with_answer z x) act.found ∙ sym now;
            before = λ o e. absurd (act.none o (ap (λ (y : Body S). act_now P y) (before_creation P f.state b.path b.body x o run e) ∙ e));
            behind = λ over. absurd (act.alive (ap (λ (y : Body S). act_now P y) (behind_end P f.state b.path b.body x run over) ∙ over_stops P b.body.start b.body.found over));
            cells = act.cells;
            left = left_still m (after_answer u t0) went (ap (λ (z : ℕ). with_answer z x) act.found ∙ sym now) (λ over. absurd (act.alive (ap (λ (y : Body S). act_now P y) (behind_end P f.state b.path b.body x run over) ∙ over_stops P b.body.start b.body.found over)));
            words = same_words;
            gave_hangs = f.gave_hangs;
            given = gave_same m (after_answer u t0) went refl;
            counts = same_counts m went.continues;
            alone = write_alone x run cells' writes;
            loaded = loaded;
            joined = same_joined;
            seen = same_seen;
            still = same_still;
          })

      -- a load for a pending fold, a put's catching up, and all else that is no act of the job: the run alone
      pub run_field : c.body ≡ x → ((y : Noted) → Among y w.loaded → IsPending P k.cells w y) → FieldAt P main first is_job n f.net f.gave f.role (changed k.states k.counts k.cells) sights'
      run_field now loaded =
          job_field (caught_up x run).0 (record { body = x; given = mine.task.given }) k.states k.counts k.cells k.values f.gave (record {
            went = (caught_up x run).1;
            body = sym now;
            before = λ o e. now ∙ before_creation P f.state b.path b.body x o run e;
            behind = λ over. now ∙ behind_end P f.state b.path b.body x run over;
            cells = (caught_up x run).2 ∙ f.cells;
            left = left_still (caught_up x run).0 (record { body = x; given = mine.task.given }) (caught_up x run).1 (sym now) (λ over. now ∙ behind_end P f.state b.path b.body x run over);
            words = same_words;
            gave_hangs = f.gave_hangs;
            given = gave_same (caught_up x run).0 (record { body = x; given = mine.task.given }) (caught_up x run).1 refl;
            counts = same_counts (caught_up x run).0 (caught_up x run).1.continues;
            alone = λ d e op z ne borne pending. refl;
            loaded = loaded;
            joined = same_joined;
            seen = same_seen;
            still = same_still;
          })
