-- What the sequential run keeps.
use Rattle.oss_model.specs.Agreement.{MainStarts}
use Rattle.std.proofs.Common.{◌≡◌, ◌≢◌, ℕ, ◌+◌, ◌<◌, ◌≤◌, ◌⊎◌, inl, inr, refl, sym, subst, ap, ◌∙◌, List, [], ◌∷◌, length, reverse, arith, Bool, true, false}
use Rattle.std.specs.Prelude.{if◌then◌else◌}
use Rattle.oss_model.specs.Order.{IsSuffix, whole, longer, IsBefore}
use Rattle.oss_model.specs.Bodies.{Order, Program, Act, Start, Body, stage_created}
use Rattle.oss_model.specs.Bodies.Act.{Created, Awaited, Waited, WaitedOn, Over, Ticked, Load, Store, Folded, Releases, Printed, Ended, Fault}
use Rattle.oss_model.specs.Machine.{same_path, Task, At, find}
use Rattle.oss_model.specs.History.{IsMade}
use Rattle.oss_model.specs.Moves.{act_now, created_now, is_ended, after_answer, new_task, found_by}
use Rattle.oss_model.specs.Memory.{Event, Happened}
use Rattle.oss_model.specs.Sequence.{Running, path_above, active_after, RunsOn, Sequential, opens, runs_on}
use Rattle.oss_model.proofs.Places.{place, IsEarlierPlace}
use Rattle.oss_model.proofs.StageLemmas.{created_goes_on, start_goes_on, created_grows, creation_counts}
use Rattle.oss_model.proofs.OrderLemmas.{suffix_drop, suffix_length, suffix_full, before_number, before_child, before_up}
use Rattle.oss_model.proofs.TreeLemmas.{at_same, path_found, next_of, same_path_is}
use Rattle.oss_model.proofs.MoveLemmas.{StepView, own, new, old, step_view, step_made, fresh_child}
use Rattle.oss_model.proofs.SortLemmas.{event_trans}
use Rattle.oss_model.proofs.MemoryLemmas.{answer_cases}

-- the stage at which a body stands, as an event that is still to come
abbrev pub stage_of : {S : Type 0} → Body S → Event S
stage_of b = record { start = b.start; past = b.found; answer = 0 }

-- where the run stands
pub record Stands {S : Type 0} (P : Program S) (main : Start S) (z : Running S) : Type 0 where
  pub made : IsMade P main z.state
  -- the tasks above the one that runs wait for the child on the way to it, which they made last
  pub chain : (q : List ℕ) (j : ℕ) (u : Task S) → IsSuffix (j ∷ q) z.active → At z.state q u → created_now P u.body ≡ j + 1
  -- they have not ended, nor has the one that runs, unless it is main
  pub waiting : (q : List ℕ) (j : ℕ) (u : Task S) → IsSuffix (j ∷ q) z.active → At z.state q u → is_ended P u.body ≡ false
  pub alive : (u : Task S) → At z.state z.active u → z.active ≢ [] → is_ended P u.body ≡ false
  -- each other task has ended
  pub others : (q : List ℕ) (u : Task S) → At z.state q u → IsSuffix q z.active ⊎ (is_ended P u.body ≡ true)
  -- what is done is before what the tasks on the way do next
  pub ahead : (q : List ℕ) (u : Task S) → At z.state q u → IsSuffix q z.active → (e : Event S) → Happened z.state e → IsEarlierPlace P e (stage_of u.body)

-- a later stage of a body stands later
pub stage_later : {S : Type 0} (P : Program S) (b : Start S) (past more : List ℕ) (v w : ℕ) → IsSuffix past more → length past < length more → IsEarlierPlace P (record { start = b; past = past; answer = v }) (record { start = b; past = more; answer = w })
stage_later P b past more v w h l = go (which (stage_created P b past) (stage_created P b more))
  where
    which : (m n : ℕ) → (m < n) ⊎ (m ≡ n) ⊎ (n < m)
    which m n = grind arith

    go : (stage_created P b past < stage_created P b more) ⊎ (stage_created P b past ≡ stage_created P b more) ⊎ (stage_created P b more < stage_created P b past) → IsEarlierPlace P (record { start = b; past = past; answer = v }) (record { start = b; past = more; answer = w })
    go (inl k) = inl (before_number (stage_created P b past) (stage_created P b more) b.path k)
    go (inr (inl k)) = inr (ap (λ (z : ℕ). z ∷ b.path) k, l)
    go (inr (inr k)) = let g = created_grows P b h in absurd (omega arith)

pub on_way : {q p : List ℕ} → IsSuffix q p → q ≢ p → (j : ℕ) × IsSuffix (j ∷ q) p
on_way {q = q} {p = p} h ne = next_of h (go (le_or (length q) (length p)))
  where
    le_or : (m n : ℕ) → (m < n) ⊎ (n ≤ m)
    le_or m n = grind arith

    go : (length q < length p) ⊎ (length p ≤ length q) → length q < length p
    go (inl l) = l
    go (inr l) = absurd (ne (suffix_full h l))

pub not_itself : {q p : List ℕ} {j : ℕ} → IsSuffix (j ∷ q) p → q ≡ p → ⊥
not_itself {q = q} {p = p} h e = let l = suffix_length h in let f : length q ≡ length p = ap (λ (z : List ℕ). length z) e in omega arith

suffix_above : {q p : List ℕ} → IsSuffix q (path_above p) → IsSuffix q p
suffix_above {p = []} h = h
suffix_above {p = k ∷ p} h = longer h

suffix_rest : {q p : List ℕ} → IsSuffix q p → q ≢ p → IsSuffix q (path_above p)
suffix_rest {p = []} whole ne = absurd (ne refl)
suffix_rest {p = k ∷ p} whole ne = absurd (ne refl)
suffix_rest {p = k ∷ p} (longer h) ne = h

suffix_split : {q p : List ℕ} {k : ℕ} → IsSuffix q (k ∷ p) → (q ≡ k ∷ p) ⊎ IsSuffix q p
suffix_split whole = inl refl
suffix_split (longer h) = inr h

-- which task runs after an act
pub data Turn {S : Type 0} (P : Program S) (t : Task S) (p : List ℕ) (v : ℕ) : List ℕ → Type 0 where
  down : (o : Order S) → act_now P t.body ≡ Created o false → Turn P t p v (created_now P t.body ∷ p)
  up : ((o : Order S) → act_now P t.body ≢ Created o false) → is_ended P (after_answer v t).body ≡ true → Turn P t p v (path_above p)
  stay : ((o : Order S) → act_now P t.body ≢ Created o false) → is_ended P (after_answer v t).body ≡ false → Turn P t p v p

pub turn : {S : Type 0} (P : Program S) (t : Task S) (p : List ℕ) (v : ℕ) → Turn P t p v (active_after P t p v (act_now P t.body))
turn {S = S} P t p v = go (act_now P t.body) refl
  where
    rest : (a : Act S) → act_now P t.body ≡ a → ((o : Order S) → a ≢ Created o false) → (b : Bool) → is_ended P (after_answer v t).body ≡ b → Turn P t p v (if b then path_above p else p)
    rest a e ne true o = up (λ o' e'. ne o' (sym e ∙ e')) o
    rest a e ne false o = stay (λ o' e'. ne o' (sym e ∙ e')) o

    go : (a : Act S) → act_now P t.body ≡ a → Turn P t p v (active_after P t p v a)
    go (Created o false) e = down o e
    go (Created o true) e = rest (Created o true) e (λ o' e'. cc) (is_ended P (after_answer v t).body) refl
    go Ticked e = rest Ticked e (λ o' e'. cc) (is_ended P (after_answer v t).body) refl
    go (Load c) e = rest (Load c) e (λ o' e'. cc) (is_ended P (after_answer v t).body) refl
    go (Store c w) e = rest (Store c w) e (λ o' e'. cc) (is_ended P (after_answer v t).body) refl
    go (Folded c op w b) e = rest (Folded c op w b) e (λ o' e'. cc) (is_ended P (after_answer v t).body) refl
    go Awaited e = rest Awaited e (λ o' e'. cc) (is_ended P (after_answer v t).body) refl
    go Waited e = rest Waited e (λ o' e'. cc) (is_ended P (after_answer v t).body) refl
    go (WaitedOn named) e = rest (WaitedOn named) e (λ o' e'. cc) (is_ended P (after_answer v t).body) refl
    go (Releases cl b) e = rest (Releases cl b) e (λ o' e'. cc) (is_ended P (after_answer v t).body) refl
    go (Printed key text) e = rest (Printed key text) e (λ o' e'. cc) (is_ended P (after_answer v t).body) refl
    go Ended e = rest Ended e (λ o' e'. cc) (is_ended P (after_answer v t).body) refl
    go (Fault kind line key) e = rest (Fault kind line key) e (λ o' e'. cc) (is_ended P (after_answer v t).body) refl
    go Over e = rest Over e (λ o' e'. cc) (is_ended P (after_answer v t).body) refl

module _ {S : Type 0} (P : Program S) (main : Start S) (z y : Running S) (ms : MainStarts main) (st : Stands P main z) (r : RunsOn P z y) where
  seq_view : (q : List ℕ) (u : Task S) → At y.state q u → StepView P z.state z.active r.task (found_by (act_now P r.task.body) z.state.cells) q u
  seq_view q u h = step_view P main z.state y.state z.active r.task (found_by (act_now P r.task.body) z.state.cells) st.made r.at_ r.goes r.tasks q u h

  pub seq_made : IsMade P main y.state
  seq_made = step_made P main z.state y.state z.active r.task (found_by (act_now P r.task.body) z.state.cells) st.made r.at_ r.goes r.tasks

  -- the act of this turn
  abbrev pub seq_event : Event S
  seq_event = record { start = r.task.body.start; past = r.task.body.found; answer = found_by (act_now P r.task.body) z.state.cells }

  event_view : (q : List ℕ) (u : Task S) → StepView P z.state z.active r.task (found_by (act_now P r.task.body) z.state.cells) q u → (e : Event S) → q ≡ e.start.path → u.body.start ≡ e.start → IsSuffix (e.answer ∷ e.past) u.body.found → Happened z.state e ⊎ (e ≡ seq_event)
  event_view q u own e re se f = go (answer_cases f)
    where
      go : ((e.answer ≡ found_by (act_now P r.task.body) z.state.cells) × (e.past ≡ r.task.body.found)) ⊎ IsSuffix (e.answer ∷ e.past) r.task.body.found → Happened z.state e ⊎ (e ≡ seq_event)
      go (inl q1) = inr (λ i. record { start = sym se i; past = q1.1 i; answer = q1.0 i })
      go (inr g) = inl (record { task = r.task; at_ = subst (λ (w : List ℕ). At z.state w r.task) re r.at_; start = se; found = g })
  event_view q u (new o a) e re se f = elim f [ ]
  event_view q u (old ne h) e re se f = inl (record { task = u; at_ = subst (λ (w : List ℕ). At z.state w u) re h; start = se; found = f })

  pub event_back : (e : Event S) → Happened y.state e → Happened z.state e ⊎ (e ≡ seq_event)
  event_back e h = event_view e.start.path h.task (seq_view e.start.path h.task h.at_) e refl h.start h.found

  path_t : r.task.body.start.path ≡ z.active
  path_t = path_found z.state.tasks z.active r.task r.at_

  -- a task above the one that ran is as it was
  above_same : (q : List ℕ) (u : Task S) (j : ℕ) → IsSuffix (j ∷ q) z.active → StepView P z.state z.active r.task (found_by (act_now P r.task.body) z.state.cells) q u → At z.state q u
  above_same q u j h own = absurd (not_itself h refl)
  above_same q u j h (new o a) = absurd (not_itself (suffix_drop h) refl)
  above_same q u j h (old ne k) = k

  chain_same : (q : List ℕ) (j : ℕ) (u : Task S) → IsSuffix (j ∷ q) z.active → At y.state q u → created_now P u.body ≡ j + 1
  chain_same q j u h k = st.chain q j u h (above_same q u j h (seq_view q u k))

  seq_chain : (a : List ℕ) → Turn P r.task z.active (found_by (act_now P r.task.body) z.state.cells) a → (q : List ℕ) (j : ℕ) (u : Task S) → IsSuffix (j ∷ q) a → At y.state q u → created_now P u.body ≡ j + 1
  seq_chain a (stay n b) q j u h k = chain_same q j u h k
  seq_chain a (up n o) q j u h k = chain_same q j u (suffix_above h) k
  seq_chain a (down o e) q j u whole k =
      let w = at_same y.state z.active u (after_answer (found_by (act_now P r.task.body) z.state.cells) r.task) k r.tasks.own in
      ap (λ (x : Task S). created_now P x.body) w ∙ creation_counts P r.task.body.start (found_by (act_now P r.task.body) z.state.cells) r.task.body.found o e
  seq_chain a (down o e) q j u (longer h) k = chain_same q j u h k

  waiting_same : (q : List ℕ) (j : ℕ) (u : Task S) → IsSuffix (j ∷ q) z.active → At y.state q u → is_ended P u.body ≡ false
  waiting_same q j u h k = st.waiting q j u h (above_same q u j h (seq_view q u k))

  own_goes_on : (o : Order S) → act_now P r.task.body ≡ Created o false → is_ended P (after_answer (found_by (act_now P r.task.body) z.state.cells) r.task).body ≡ false
  own_goes_on o e = created_goes_on P r.task.body.start (found_by (act_now P r.task.body) z.state.cells) r.task.body.found o e

  seq_waiting : (a : List ℕ) → Turn P r.task z.active (found_by (act_now P r.task.body) z.state.cells) a → (q : List ℕ) (j : ℕ) (u : Task S) → IsSuffix (j ∷ q) a → At y.state q u → is_ended P u.body ≡ false
  seq_waiting a (stay n b) q j u h k = waiting_same q j u h k
  seq_waiting a (up n o) q j u h k = waiting_same q j u (suffix_above h) k
  seq_waiting a (down o e) q j u whole k =
      let w = at_same y.state z.active u (after_answer (found_by (act_now P r.task.body) z.state.cells) r.task) k r.tasks.own in
      ap (λ (x : Task S). is_ended P x.body) w ∙ own_goes_on o e
  seq_waiting a (down o e) q j u (longer h) k = waiting_same q j u h k

  above_way : (p : List ℕ) → path_above p ≢ [] → (j : ℕ) × IsSuffix (j ∷ path_above p) p
  above_way [] ne = absurd (ne refl)
  above_way (k ∷ p) ne = (k, whole)

  seq_alive : (a : List ℕ) → Turn P r.task z.active (found_by (act_now P r.task.body) z.state.cells) a → (u : Task S) → At y.state a u → a ≢ [] → is_ended P u.body ≡ false
  seq_alive a (stay n b) u k ne =
      let w = at_same y.state z.active u (after_answer (found_by (act_now P r.task.body) z.state.cells) r.task) k r.tasks.own in
      ap (λ (x : Task S). is_ended P x.body) w ∙ b
  seq_alive a (up n o) u k ne = let w = above_way z.active ne in waiting_same (path_above z.active) w.0 u w.1 k
  seq_alive a (down o e) u k ne =
      let w = at_same y.state (created_now P r.task.body ∷ z.active) u (new_task P r.task.body o) k (r.tasks.made o e) in
      ap (λ (x : Task S). is_ended P x.body) w ∙ start_goes_on P (new_task P r.task.body o).body.start

  seq_others : (a : List ℕ) → Turn P r.task z.active (found_by (act_now P r.task.body) z.state.cells) a → (q : List ℕ) (u : Task S) → StepView P z.state z.active r.task (found_by (act_now P r.task.body) z.state.cells) q u → IsSuffix q a ⊎ (is_ended P u.body ≡ true)
  seq_others a (down o e) q u own = inl (longer whole)
  seq_others a (up n o) q u own = inr o
  seq_others a (stay n b) q u own = inl whole
  seq_others a (down o e) q u (new o' e') = inl whole
  seq_others a (up n o) q u (new o' e') = absurd (n o' e')
  seq_others a (stay n b) q u (new o' e') = absurd (n o' e')
  seq_others a t q u (old ne h) = go a t (st.others q u h)
    where
      go : (a : List ℕ) → Turn P r.task z.active (found_by (act_now P r.task.body) z.state.cells) a → IsSuffix q z.active ⊎ (is_ended P u.body ≡ true) → IsSuffix q a ⊎ (is_ended P u.body ≡ true)
      go a t (inr o) = inr o
      go a (down o e) (inl k) = inl (longer k)
      go a (up n o) (inl k) = inl (suffix_rest k ne)
      go a (stay n b) (inl k) = inl k

  -- the new event is before what a task above does next
  event_before_above : (q : List ℕ) (u : Task S) → At z.state q u → (j : ℕ) → IsSuffix (j ∷ q) z.active → IsEarlierPlace P seq_event (stage_of u.body)
  event_before_above q u h j k =
      let c = st.chain q j u k h in
      let pu = path_found z.state.tasks q u h in
      let b = before_up j (created_now P u.body) (created_now P r.task.body) q k (omega arith) in
      inl (subst (λ (x : List ℕ). IsBefore (reverse (created_now P r.task.body ∷ x)) (reverse (created_now P u.body ∷ u.body.start.path))) (sym path_t)
      (subst (λ (x : List ℕ). IsBefore (reverse (created_now P r.task.body ∷ z.active)) (reverse (created_now P u.body ∷ x))) (sym pu) b))

  own_later : (e : Event S) → IsEarlierPlace P (stage_of r.task.body) (stage_of (after_answer (found_by (act_now P r.task.body) z.state.cells) r.task).body)
  own_later e = stage_later P r.task.body.start r.task.body.found (found_by (act_now P r.task.body) z.state.cells ∷ r.task.body.found) 0 0 (longer whole) (omega arith)

  new_later : (o : Order S) → act_now P r.task.body ≡ Created o false → IsEarlierPlace P (stage_of r.task.body) (stage_of (new_task P r.task.body o).body)
  new_later o e =
      let pn = path_found y.state.tasks (created_now P r.task.body ∷ z.active) (new_task P r.task.body o) (r.tasks.made o e) in
      let b = before_child (stage_created P (new_task P r.task.body o).body.start []) (created_now P r.task.body) z.active in
      inl (subst (λ (x : List ℕ). IsBefore (reverse (created_now P r.task.body ∷ x)) (reverse (place P (stage_of (new_task P r.task.body o).body)))) (sym path_t)
      (subst (λ (x : List ℕ). IsBefore (reverse (created_now P r.task.body ∷ z.active)) (reverse (stage_created P (new_task P r.task.body o).body.start [] ∷ x))) (sym pn) b))

  pub old_ahead : (e : Event S) → Happened z.state e → IsEarlierPlace P e (stage_of r.task.body)
  old_ahead e h = st.ahead z.active r.task r.at_ whole e h

  -- all events of y are before what a task on the way does next
  event_ahead : (f : Event S) → ((e : Event S) → Happened z.state e → IsEarlierPlace P e f) → IsEarlierPlace P seq_event f → (e : Event S) → Happened y.state e → IsEarlierPlace P e f
  event_ahead f a b e h = go (event_back e h)
    where
      go : Happened z.state e ⊎ (e ≡ seq_event) → IsEarlierPlace P e f
      go (inl k) = a e k
      go (inr k) = subst (λ (x : Event S). IsEarlierPlace P x f) (sym k) b

  seq_ahead : (a : List ℕ) → Turn P r.task z.active (found_by (act_now P r.task.body) z.state.cells) a → (q : List ℕ) (u : Task S) → StepView P z.state z.active r.task (found_by (act_now P r.task.body) z.state.cells) q u → IsSuffix q a → (e : Event S) → Happened y.state e → IsEarlierPlace P e (stage_of u.body)
  seq_ahead a t q u own k e h =
      event_ahead (stage_of (after_answer (found_by (act_now P r.task.body) z.state.cells) r.task).body)
      (λ e' h'. event_trans P e' (stage_of r.task.body) (stage_of (after_answer (found_by (act_now P r.task.body) z.state.cells) r.task).body) (old_ahead e' h') (own_later e'))
      (stage_later P r.task.body.start r.task.body.found (found_by (act_now P r.task.body) z.state.cells ∷ r.task.body.found) (found_by (act_now P r.task.body) z.state.cells) 0 (longer whole) (omega arith)) e h
  seq_ahead a t q u (new o e') k e h =
      event_ahead (stage_of (new_task P r.task.body o).body)
      (λ f g. event_trans P f (stage_of r.task.body) (stage_of (new_task P r.task.body o).body) (old_ahead f g) (new_later o e'))
      (seq_new o e') e h
    where
      seq_new : (o : Order S) → act_now P r.task.body ≡ Created o false → IsEarlierPlace P seq_event (stage_of (new_task P r.task.body o).body)
      seq_new o e1 = go (new_later o e1)
        where
          go : IsEarlierPlace P (stage_of r.task.body) (stage_of (new_task P r.task.body o).body) → IsEarlierPlace P seq_event (stage_of (new_task P r.task.body o).body)
          go (inl x) = inl x
          go (inr x) = inr x
  seq_ahead a t q u (old ne g) k e h =
      let w = way a t k in
      event_ahead (stage_of u.body) (λ f i. st.ahead q u g (suffix_drop w.1) f i) (event_before_above q u g w.0 w.1) e h
    where
      way : (a : List ℕ) → Turn P r.task z.active (found_by (act_now P r.task.body) z.state.cells) a → IsSuffix q a → (j : ℕ) × IsSuffix (j ∷ q) z.active
      way a (stay n b) i = on_way i ne
      way a (up n o) i = on_way (suffix_above i) ne
      way a (down o e1) i = split (suffix_split i)
        where
          split : (q ≡ created_now P r.task.body ∷ z.active) ⊎ IsSuffix q z.active → (j : ℕ) × IsSuffix (j ∷ q) z.active
          split (inl x) = absurd (fresh_child P main z.state z.active r.task u st.made r.at_ (subst (λ (w : List ℕ). At z.state w u) x g))
          split (inr x) = on_way x ne

  pub stands_on : Stands P main y
  stands_on =
      let t = turn P r.task z.active (found_by (act_now P r.task.body) z.state.cells) in
      record {
        made = seq_made;
        chain = λ q j u h k. seq_chain _ t q j u (subst (λ (x : List ℕ). IsSuffix (j ∷ q) x) r.active h) k;
        waiting = λ q j u h k. seq_waiting _ t q j u (subst (λ (x : List ℕ). IsSuffix (j ∷ q) x) r.active h) k;
        alive = λ u h ne. seq_alive _ t u (subst (λ (x : List ℕ). At y.state x u) r.active h) (λ e. ne (r.active ∙ e));
        others = λ q u h. subst (λ (x : List ℕ). IsSuffix q x ⊎ (is_ended P u.body ≡ true)) (sym r.active) (seq_others _ t q u (seq_view q u h));
        ahead = λ q u h k e g. seq_ahead _ t q u (seq_view q u h) (subst (λ (x : List ℕ). IsSuffix q x) r.active k) e g;
      }

-- where the run begins
pub opening_at : {S : Type 0} (main : Start S) (cells : List ℕ) (p : List ℕ) (t : Task S) → main.path ≡ [] → At (record { cells = cells; tasks = record { body = record { start = main; found = [] }; given = [] } ∷ [] }) p t → (p ≡ []) × (t ≡ record { body = record { start = main; found = [] }; given = [] })
unfolding find
opening_at {S = S} main cells p t e h = go (same_path main.path p) refl
  where
    go : (b : Bool) → same_path main.path p ≡ b → (p ≡ []) × (t ≡ record { body = record { start = main; found = [] }; given = [] })
    go true k = (sym (same_path_is main.path p k) ∙ e, cc (rw k at h))
    go false k = absurd (cc (rw k at h))

pub opening_main : {S : Type 0} (main : Start S) (cells : List ℕ) → main.path ≡ [] → At (record { cells = cells; tasks = record { body = record { start = main; found = [] }; given = [] } ∷ [] }) [] (record { body = record { start = main; found = [] }; given = [] })
unfolding find
opening_main main cells e = rw e refl

pub opening_made : {S : Type 0} (P : Program S) (main : Start S) (cells : List ℕ) → main.path ≡ [] → IsMade P main (record { cells = cells; tasks = record { body = record { start = main; found = [] }; given = [] } ∷ [] })
opening_made {S = S} P main cells e =
    record {
      main_task = record { body = record { start = main; found = [] }; given = [] };
      main_at = opening_main main cells e;
      main_start = refl;
      child = λ k p t h. let f = (opening_at main cells (k ∷ p) t e h).0 in absurd (cc (f));
      made = λ p u past v o h g a. absurd (nothing past v u (opening_at main cells p u e h).1 g);
      goes = λ p u past v h g x. nothing past v u (opening_at main cells p u e h).1 g;
    }
  where
    nothing : (past : List ℕ) (v : ℕ) (u : Task S) → u ≡ record { body = record { start = main; found = [] }; given = [] } → IsSuffix (v ∷ past) u.body.found → ⊥
    nothing past v u f g = none (subst (λ (x : Task S). IsSuffix (v ∷ past) x.body.found) f g)
      where
        none : IsSuffix (v ∷ past) [] → ⊥
        none h = elim h [ ]

pub stands : {S : Type 0} (P : Program S) (main : Start S) (cells : List ℕ) → MainStarts main → (z : Running S) → Sequential P main cells z → Stands P main z
stands {S = S} P main cells ms z opens =
    record {
      made = opening_made P main cells ms.path;
      chain = λ q j u h k. elim h [ ];
      waiting = λ q j u h k. elim h [ ];
      alive = λ u h ne. absurd (ne refl);
      others = λ q u h. inl (subst (λ (x : List ℕ). IsSuffix x []) (sym (opening_at main cells q u ms.path h).0) whole);
      ahead = λ q u h k e g. absurd (nothing e g);
    }
  where
    nothing : (e : Event S) → Happened (record { cells = cells; tasks = record { body = record { start = main; found = [] }; given = [] } ∷ [] }) e → ⊥
    nothing e g = none (subst (λ (x : Task S). IsSuffix (e.answer ∷ e.past) x.body.found) (opening_at main cells e.start.path g.task ms.path g.at_).1 g.found)
      where
        none : IsSuffix (e.answer ∷ e.past) [] → ⊥
        none h = elim h [ ]
stands P main cells ms z (runs_on {z = w} run step) = stands_on P main w z ms (stands P main cells ms w run) step
