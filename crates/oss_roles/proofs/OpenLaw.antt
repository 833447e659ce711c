-- The opening of a new task: the creation is made, and its entries stand for its accesses.
use Rattle.std.proofs.Common.{◌≡◌, ◌≢◌, inl, inr, sym, subst, refl, ◌∙◌, ap, ℕ, ◌+◌, arith, Bool, true, false, List, [], ◌∷◌, Option, Some}
use Rattle.std.specs.Prelude.{not}
use Rattle.oss_syntax.specs.declared.access.Mode.{Mode}
use Rattle.oss_model.specs.Bodies.{Order, Program, Act, Start, IsHalt}
use Rattle.oss_model.specs.Bodies.Act.{Created}
use Rattle.oss_model.specs.Context.{right_of}
use Rattle.oss_model.specs.History.{IsMade, IsStarted}
use Rattle.oss_model.specs.Machine.{Task, State, At, find, HasGiven, IsReady, IsWaitMet, Owes}
use Rattle.oss_model.specs.Moves.{act_now, created_now, is_ended, cells_after, found_by, new_task, CanStep, TaskStep, Stepped, Reached, moves, steps}
use Rattle.oss_model.specs.Order.{IsIn}
use Rattle.oss_model.specs.Rights.{Holds}
use Rattle.oss_model.proofs.GrowLemmas.{Grown}
use Rattle.oss_model.proofs.MoveLemmas.{StepView, own as mine, new as made_now, old as another, step_view, step_grown, step_still, fresh_child}
use Rattle.oss_model.proofs.RunLemmas.{next}
use Rattle.oss_model.proofs.TreeLemmas.{at_same}
use Rattle.oss_words.specs.declared.entry.EntryState.{EntryState}
use Rattle.oss_words.specs.Net.{Net}
use Rattle.oss_words.specs.Sums.{below, num}
use Rattle.oss_words.proofs.SumLemmas.{same_number}
use Rattle.oss_roles.specs.Counting.{weight, AreCounts}
use Rattle.oss_roles.specs.Numbers.{entry_number}
use Rattle.oss_roles.specs.Roles.{Role, itself, on, Filed, AreFiled, AreGiven}

module _ {S : Type 0} (P : Program S) (main : Start S) (first : List ℕ) (s : State S) (p : List ℕ) (t : Task S) (made : IsMade P main s) (started : IsStarted P s)
    (at_ : At s p t) (order : Order S) (act : act_now P t.body ≡ Created order false) where
  pub goes : IsHalt (act_now P t.body) → ⊥
  goes h = subst IsHalt act h

  abbrev v : ℕ
  v = found_by (act_now P t.body) s.cells

  -- the state after the creation
  abbrev pub opened_state : State S
  opened_state = record { cells = cells_after (act_now P t.body) s.cells; tasks = (next P (record { state = s; active = p; printed = [] }) t at_ goes).stage.state.tasks }

  pub made_step : TaskStep P s p t v opened_state
  made_step =
      let k = (next P (record { state = s; active = p; printed = [] }) t at_ goes).runs in
      let x = next P (record { state = s; active = p; printed = [] }) t at_ goes in
      record {
        own = x.own;
        made = x.made;
        others = λ q ne f. others q ne f;
      }
    where
      others : (q : List ℕ) → q ≢ p → ((o : Order S) → act_now P t.body ≡ Created o false → q ≢ created_now P t.body ∷ p) → find opened_state.tasks q ≡ find s.tasks q
      others q ne f =
          let x = next P (record { state = s; active = p; printed = [] }) t at_ goes in
          let e : x.runs.task ≡ t = at_same s p x.runs.task t x.runs.at_ at_ in
          x.runs.tasks.others q ne (λ o a. subst (λ (z : Task S). q ≢ created_now P z.body ∷ p) (sym e) (f o (subst (λ (z : Task S). act_now P z.body ≡ Created o false) e a)))

  pub opened_step : Stepped P s p t opened_state
  opened_step = record { cells = refl; tasks = made_step }

  pub can_open : IsReady s p t.body.start.context → CanStep P s p t
  can_open ready = record { at_ = at_; goes = goes; ready = λ e. ready; waits = subst (λ (a : Act S). IsWaitMet P s p (created_now P t.body) a) (sym act) tt }

  pub opened_reached : Reached P main first s → IsReady s p t.body.start.context → Reached P main first opened_state
  opened_reached r ready = moves r (steps (can_open ready) opened_step)

  abbrev path : List ℕ
  path = created_now P t.body ∷ p

  pub not_there : (u : Task S) → At s path u → ⊥
  not_there u h = fresh_child P main s p t u made at_ h

  pub view : (q : List ℕ) (u : Task S) → At opened_state q u → StepView P s p t v q u
  view q u h = step_view P main s opened_state p t v made at_ goes made_step q u h

  pub grown : Grown P s opened_state
  grown = step_grown P main s opened_state p t v made at_ goes made_step

  pub still : (q : List ℕ) (u w : Task S) → At s q u → At opened_state q w → is_ended P u.body ≡ true → is_ended P w.body ≡ true
  still = step_still P main s opened_state p t v made at_ goes made_step

  -- its accesses have linked entries
  pub record HasEntries (net : Net) (role : ℕ → Option Role) : Type 0 where
    pub access : (c : ℕ) (m : Mode) (strong : Bool) → right_of (new_task P t.body order).body.start.context c ≡ Holds m strong → (x : Filed net role path (on c)) × (x.it.mode ≡ m) × (x.it.strong ≡ strong)
        × (x.entry ≡ entry_number x.it.task (right_of (new_task P t.body order).body.start.context) c)
    pub task : Filed net role path itself

  module _ (net : Net) (role : ℕ → Option Role) (filed : AreFiled s net role) (entries : HasEntries net role) where
    same_order : (o : Order S) → act_now P t.body ≡ Created o false → o ≡ order
    same_order o a = let z : Created o false ≡ Created order false = sym a ∙ act in cc

    access_view : (q : List ℕ) (u : Task S) → StepView P s p t v q u → (j c : ℕ) (a : List ℕ) → q ≡ j ∷ a → (m : Mode) (strong : Bool) → right_of u.body.start.context c ≡ Holds m strong
        → (x : Filed net role q (on c)) × (x.it.mode ≡ m) × (x.it.strong ≡ strong) × (x.entry ≡ entry_number x.it.task (right_of u.body.start.context) c)
    access_view q u mine j c a e m strong right =
        let here : At s (j ∷ a) t = subst (λ (z : List ℕ). At s z t) e at_ in
        let x = filed.access j c a (record { task = t; at_ = here; mode = m; strong = strong; right = right }) in
        subst (λ (z : List ℕ). (y : Filed net role z (on c)) × (y.it.mode ≡ m) × (y.it.strong ≡ strong) × (y.entry ≡ entry_number y.it.task (right_of t.body.start.context) c)) (sym e) x
    access_view q u (made_now o b) j c a e m strong right =
        let x = entries.access c m strong (subst (λ (z : Order S). right_of (new_task P t.body z).body.start.context c ≡ Holds m strong) (same_order o b) right) in
        (x.0, x.1, x.2, subst (λ (z : Order S). x.0.entry ≡ entry_number x.0.it.task (right_of (new_task P t.body z).body.start.context) c) (sym (same_order o b)) x.3)
    access_view q u (another ne h) j c a e m strong right =
        let here : At s (j ∷ a) u = subst (λ (z : List ℕ). At s z u) e h in
        let x = filed.access j c a (record { task = u; at_ = here; mode = m; strong = strong; right = right }) in
        subst (λ (z : List ℕ). (y : Filed net role z (on c)) × (y.it.mode ≡ m) × (y.it.strong ≡ strong) × (y.entry ≡ entry_number y.it.task (right_of u.body.start.context) c)) (sym e) x

    task_view : (q : List ℕ) (u : Task S) → StepView P s p t v q u → (j : ℕ) (a : List ℕ) → q ≡ j ∷ a → Filed net role q itself
    task_view q u mine j a e = subst (λ (z : List ℕ). Filed net role z itself) (sym e) (filed.task j a t (subst (λ (z : List ℕ). At s z t) e at_))
    task_view q u (made_now o b) j a e = entries.task
    task_view q u (another ne h) j a e = subst (λ (z : List ℕ). Filed net role z itself) (sym e) (filed.task j a u (subst (λ (z : List ℕ). At s z u) e h))

    pub opened_filed : AreFiled opened_state net role
    opened_filed =
        record {
          access = λ j c a b. access_view (j ∷ a) b.task (view (j ∷ a) b.task b.at_) j c a refl b.mode b.strong b.right;
          task = λ j a u h. task_view (j ∷ a) u (view (j ∷ a) u h) j a refl;
        }

    pub opened_given : (gave : ℕ → Bool) (joined : ℕ → Type 0) → AreGiven P s net role gave joined → AreGiven P opened_state net role gave joined
    opened_given gave joined g =
        record {
          cell = λ e c r is at h. let k = g.cell e c r is at h in let y = grown.keeps r.path k.task k.at_ in record { task = y.0; at_ = y.1; given = y.2.given c k.given };
          own = λ e r is at h. let k = g.own e r is at h in let y = grown.keeps r.path k.0 k.1 in
              (y.0, y.1, record { ended = still r.path k.0 y.0 k.1 y.1 k.2.ended; given = λ d o. y.2.given d (k.2.given d (subst (λ (z : Start S). Owes r.path z.context d) y.2.start o)) });
          back = λ e c r is at k. g.back e c r is at (given_back r.path k.task (view r.path k.task k.at_) c k.given);
        }
      where
        given_back : (q : List ℕ) (u : Task S) → StepView P s p t v q u → (c : ℕ) → IsIn c u.given → HasGiven s c q
        given_back q u mine c h = record { task = t; at_ = at_; given = h }
        given_back q u (made_now o b) c h = elim h [ ]
        given_back q u (another ne k) c h = record { task = u; at_ = k; given = h }

    abbrev own_entry : ℕ
    own_entry = entries.task.entry

    -- its count falls by one as it is opened
    pub opened_counts : (n : ℕ) (states : ℕ → EntryState) (opened opened' : ℕ → Bool) (owed count count' : ℕ → ℕ) (own : (q : Role) × (role entries.task.entry ≡ Some q)) → AreCounts s n net role states opened owed count
        → opened entries.task.entry ≡ false → opened' entries.task.entry ≡ true → count' entries.task.entry + 1 ≡ count entries.task.entry
        → ((j : ℕ) → j ≢ entries.task.entry → (opened' j ≡ opened j) × (count' j ≡ count j)) → entries.task.entry ≢ 0
        → ((e f : ℕ) (r q : Role) → role e ≡ Some r → role f ≡ Some q → r.path ≡ q.path → r.site ≡ q.site → e ≡ f)
        → AreCounts opened_state n net role states opened' owed count'
    opened_counts n states opened opened' owed count count' own counts closed now down others pos one =
        record {
          sum = λ j q is at. elim (same_number j own_entry) [
            | inl z ↦ subst (λ (x : ℕ). count' x ≡ num (not (opened' x)) + below (λ y. weight x (role y) (states y)) n + owed x) (sym z)
                (let old = counts.sum own_entry entries.task.it entries.task.is entries.task.site in let a : num (not (opened own_entry)) ≡ 1 = rw closed refl in let b : num (not (opened' own_entry)) ≡ 0 = rw now refl in omega (arith, old, a, b, down))
            | inr ne ↦ let o = others j ne in o.1 ∙ counts.sum j q is at ∙ ap (λ (x : Bool). num (not x) + below (λ y. weight j (role y) (states y)) n + owed j) (sym o.0)
          ];
          blank = λ j nj low none. elim (same_number j own_entry) [
            | inl z ↦ absurd (none entries.task.it (ap role z ∙ entries.task.is) entries.task.site)
            | inr ne ↦ let b = counts.blank j nj low none in ((others j ne).1 ∙ b.0, b.1)
          ];
          main = (others 0 (λ z. pos (sym z))).1 ∙ counts.main;
          opened_is = λ j q is at. elim (same_number j own_entry) [
            | inl z ↦
                let same : q ≡ entries.task.it = let u : Some q ≡ Some entries.task.it = sym is ∙ ap role z ∙ entries.task.is in cc in
                let there : At opened_state q.path (new_task P t.body order) = subst (λ (x : List ℕ). At opened_state x (new_task P t.body order)) (sym (ap (λ (x : Role). x.path) same ∙ entries.task.path)) (made_step.made order act) in
                ((λ h. (new_task P t.body order, there)), (λ h. ap opened' z ∙ now))
            | inr ne ↦
                let o = others j ne in
                let old = counts.opened_is j q is at in (
                  (λ h. let k = old.0 (sym o.0 ∙ h) in let y = grown.keeps q.path k.0 k.1 in (y.0, y.1)),
                  (λ h. o.0 ∙ old.1 (there_before q.path h.0 (view q.path h.0 h.1) (λ k. ne (one j own_entry q entries.task.it is entries.task.is (k ∙ sym entries.task.path) (at ∙ sym entries.task.site))))),
                )
          ];
          open_start = counts.open_start;
          strong = counts.strong;
        }
      where
        there_before : (q : List ℕ) (u : Task S) → StepView P s p t v q u → q ≢ path → (w : Task S) × At s q w
        there_before q u mine ne = (t, at_)
        there_before q u (made_now o b) ne = absurd (ne refl)
        there_before q u (another k h) ne = (u, h)
