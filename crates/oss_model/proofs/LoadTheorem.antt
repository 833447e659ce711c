-- Every move keeps that a state agrees with the sequential run.
use Rattle.oss_model.specs.Agreement.{MainStarts, InMemory, Compatible}
use Rattle.std.proofs.Common.{◌≡◌, ◌≢◌, ℕ, ◌<◌, ◌≤◌, ◌⊎◌, inl, inr, refl, sym, subst, ap, ◌∙◌, List, [], ◌∷◌, length, reverse, arith, true, false, Option, Some, None}
use Rattle.std.specs.Prelude.{slice_index}
use Rattle.oss_model.specs.Order.{IsSuffix, whole, longer, IsIn, IsBefore}
use Rattle.oss_model.specs.Rights.{Reads}
use Rattle.oss_model.specs.Bodies.{Order, Program, Act, Start, stack_from, stage_act, stage_created, child_start, Touches, IsHalt}
use Rattle.oss_model.specs.Bodies.Act.{Created, Awaited, Waited, WaitedOn, Over, Ticked, Load, Store, Folded, Releases, Printed, Ended, Fault}
use Rattle.oss_model.specs.Machine.{Task, State, At, find, IsReady}
use Rattle.oss_model.specs.History.{MadeBy, IsMade, IsStarted, IsComparable}
use Rattle.oss_model.specs.Moves.{act_now, created_now, is_ended, after_answer, new_task, found_by, CanStep, Stepped}
use Rattle.oss_model.specs.Memory.{Event, Happened, DoneChange, replay}
use Rattle.oss_model.specs.Sequence.{Running, Sequential}
use Rattle.oss_model.proofs.Places.{place, IsEarlierPlace, PlacedValue}
use Rattle.oss_model.proofs.StageLemmas.{created_grows, creation_counts}
use Rattle.oss_model.proofs.OrderLemmas.{suffix_trans, suffix_drop, suffix_length, suffix_linear, suffix_full, before_child}
use Rattle.oss_model.proofs.TreeLemmas.{at_same, over_stops, path_found, next_of}
use Rattle.oss_model.proofs.MoveLemmas.{StepView, own, new, old, step_view}
use Rattle.oss_model.proofs.SortLemmas.{event_trans, event_not, sorted_one}
use Rattle.oss_model.proofs.OrderTheorem.{TouchIn, Granted, Concluded, in_order}
use Rattle.oss_model.proofs.MemoryLemmas.{change_touch, after_all}
use Rattle.oss_model.proofs.SequenceLemmas.{Stands, stands, stage_of, stage_later}
use Rattle.oss_model.proofs.RecallLemmas.{RunChange, LoadFound, recalls, touch_in_memory, suffix_nil, no_load}

le_or : (m n : ℕ) → (m < n) ⊎ (n ≤ m)
le_or m n = grind arith

lt_or : (m n : ℕ) → n ≤ m → (n < m) ⊎ (m ≡ n)
lt_or m n h = grind arith

module _ {S : Type 0} (P : Program S) (main : Start S) (cells : List ℕ) (z : Running S) (s : State S) (ms : MainStarts main) (mem : InMemory main cells) (run : Sequential P main cells z) (made : IsMade P main s) (comp : Compatible z.state s) where
  st : Stands P main z
  st = stands P main cells ms z run

  -- the task of z at the path, with what s has done of it
  past_in_z : (q : List ℕ) (u : Task S) (g : Event S) (h : Happened s g) → g.start.path ≡ q → At z.state q u → Happened z.state g ⊎ ((e : Event S) → Happened z.state e → IsEarlierPlace P e g)
  past_in_z q u g h path at_ = go (comp q u h.task at_ (subst (λ (x : List ℕ). At s x h.task) path h.at_))
    where
      into : IsComparable u.body h.task.body → IsSuffix (g.answer ∷ g.past) u.body.found → Happened z.state g
      into c f = record { task = u; at_ = subst (λ (x : List ℕ). At z.state x u) (sym path) at_; start = c.start ∙ h.start; found = f }

      going : IsComparable u.body h.task.body → IsSuffix u.body.found h.task.body.found → length u.body.found < length h.task.body.found → is_ended P u.body ≡ true → ⊥
      going c k l o =
          let n = next_of k l in
          let o' : IsHalt (stage_act P u.body.start u.body.found) = subst IsHalt (sym (over_stops P u.body.start u.body.found o)) tt in
          made.goes g.start.path h.task u.body.found n.0 h.at_ n.1 (subst (λ (x : Start S). IsHalt (stage_act P x u.body.found)) c.start o')

      passed : IsComparable u.body h.task.body → IsSuffix u.body.found g.past → IsSuffix q z.active ⊎ (is_ended P u.body ≡ true) → IsSuffix u.body.found h.task.body.found → (e : Event S) → Happened z.state e → IsEarlierPlace P e g
      passed c k (inr o) f e i = absurd (going c f (let a = suffix_length h.found in let b = suffix_length k in omega arith) o)
      passed c k (inl w) f e i = later (lt_or (length g.past) (length u.body.found) (suffix_length k))
        where
          first : IsEarlierPlace P e (stage_of u.body)
          first = st.ahead q u at_ w e i

          same : u.body.start ≡ g.start
          same = c.start ∙ h.start

          later : (length u.body.found < length g.past) ⊎ (length g.past ≡ length u.body.found) → IsEarlierPlace P e g
          later (inl l) =
              let m : IsEarlierPlace P (record { start = g.start; past = u.body.found; answer = 0 }) g = stage_later P g.start u.body.found g.past 0 g.answer k l in
              event_trans P e (stage_of u.body) g first (subst (λ (x : Start S). IsEarlierPlace P (record { start = x; past = u.body.found; answer = 0 }) g) (sym same) m)
          later (inr l) = answer_free (subst (λ (x : Start S). IsEarlierPlace P e (record { start = x; past = g.past; answer = 0 })) same
              (subst (λ (x : List ℕ). IsEarlierPlace P e (record { start = u.body.start; past = x; answer = 0 })) (suffix_full k (omega arith)) first))
            where
              answer_free : IsEarlierPlace P e (record { start = g.start; past = g.past; answer = 0 }) → IsEarlierPlace P e g
              answer_free (inl x) = inl x
              answer_free (inr x) = inr x

      go : IsComparable u.body h.task.body → Happened z.state g ⊎ ((e : Event S) → Happened z.state e → IsEarlierPlace P e g)
      go c = split c.found
        where
          long : IsSuffix u.body.found h.task.body.found → (length g.past < length u.body.found) ⊎ (length u.body.found ≤ length g.past) → Happened z.state g ⊎ ((e : Event S) → Happened z.state e → IsEarlierPlace P e g)
          long k (inl l) = inl (into c (suffix_linear h.found k (omega arith)))
          long k (inr l) = inr (passed c (suffix_linear k (suffix_drop h.found) l) (st.others q u at_) k)

          split : IsSuffix u.body.found h.task.body.found ⊎ IsSuffix h.task.body.found u.body.found → Happened z.state g ⊎ ((e : Event S) → Happened z.state e → IsEarlierPlace P e g)
          split (inl k) = long k (le_or (length g.past) (length u.body.found))
          split (inr k) = inl (into c (suffix_trans h.found k))

  -- what is done in s is done in the sequential run, or it stands after all that is done there
  pub in_or_beyond : (q : List ℕ) (g : Event S) → g.start.path ≡ q → Happened s g → Happened z.state g ⊎ ((e : Event S) → Happened z.state e → IsEarlierPlace P e g)
  in_or_beyond [] g path h = past_in_z [] st.made.main_task g h path st.made.main_at
  in_or_beyond (k ∷ q) g path h =
      let b = made.child k q h.task (subst (λ (x : List ℕ). At s x h.task) path h.at_) in
      go (find z.state.tasks (k ∷ q)) refl b
      (let pb = path_found s.tasks q b.creator b.at_ in
      in_or_beyond q (record { start = b.creator.body.start; past = b.past; answer = b.answer }) pb
      (record { task = b.creator; at_ = subst (λ (x : List ℕ). At s x b.creator) (sym pb) b.at_; start = refl; found = b.happened }))
    where
      go : (o : Option (Task S)) → find z.state.tasks (k ∷ q) ≡ o → (b : MadeBy P s k q h.task)
          → Happened z.state (record { start = b.creator.body.start; past = b.past; answer = b.answer }) ⊎ ((e : Event S) → Happened z.state e → IsEarlierPlace P e (record { start = b.creator.body.start; past = b.past; answer = b.answer }))
          → Happened z.state g ⊎ ((e : Event S) → Happened z.state e → IsEarlierPlace P e g)
      go (Some u) e b r = past_in_z (k ∷ q) u g h path e
      go None e b (inl r) =
          let pb = path_found s.tasks q b.creator b.at_ in
          let at2 : At z.state q r.task = subst (λ (x : List ℕ). At z.state x r.task) pb r.at_ in
          let a : stage_act P r.task.body.start b.past ≡ Created b.order false = subst (λ (x : Start S). stage_act P x b.past ≡ Created b.order false) (sym r.start) b.act in
          let m = st.made.made q r.task b.past b.answer b.order at2 r.found a in
          let num : stage_created P r.task.body.start b.past ≡ k = subst (λ (x : Start S). stage_created P x b.past ≡ k) (sym r.start) b.number in
          let f : find z.state.tasks (k ∷ q) ≡ Some m.0 = subst (λ (x : ℕ). At z.state (x ∷ q) m.0) num m.1 in
          absurd (cc (sym e ∙ f))
      go None e b (inr r) = inr (λ f i. event_trans P f (record { start = b.creator.body.start; past = b.past; answer = b.answer }) g (r f i) (inl before))
        where
          before : IsBefore (reverse (stage_created P b.creator.body.start b.past ∷ b.creator.body.start.path)) (reverse (place P g))
          before =
              let pb = path_found s.tasks q b.creator b.at_ in
              subst (λ (x : List ℕ). IsBefore (reverse (stage_created P b.creator.body.start b.past ∷ x)) (reverse (place P g))) (sym pb)
              (subst (λ (x : ℕ). IsBefore (reverse (x ∷ q)) (reverse (place P g))) (sym b.number)
              (subst (λ (x : List ℕ). IsBefore (reverse (k ∷ q)) (reverse (stage_created P g.start g.past ∷ x))) (sym path) (before_child (stage_created P g.start g.past) k q)))

is_load : {S : Type 0} (a : Act S) → ((c : ℕ) × (a ≡ Load c)) ⊎ ((c : ℕ) → a ≢ Load c)
is_load (Load c) = inl (c, refl)
is_load Ticked = inr (λ c e. cc)
is_load (Store d v) = inr (λ c e. cc)
is_load (Folded d op v b) = inr (λ c e. cc)
is_load (Created o i) = inr (λ c e. cc)
is_load Awaited = inr (λ c e. cc)
is_load Waited = inr (λ c e. cc)
is_load (WaitedOn named) = inr (λ c e. cc)
is_load (Releases cl b) = inr (λ c e. cc)
is_load (Printed key text) = inr (λ c e. cc)
is_load Ended = inr (λ c e. cc)
is_load (Fault kind line key) = inr (λ c e. cc)
is_load Over = inr (λ c e. cc)

module _ {S : Type 0} (P : Program S) (main : Start S) (cells : List ℕ) (z : Running S) (s n : State S) (p : List ℕ) (t : Task S) (ms : MainStarts main) (mem : InMemory main cells) (run : Sequential P main cells z)
    (made : IsMade P main s) (started : IsStarted P s) (comp : Compatible z.state s) (value : (c : ℕ) → c < length cells → PlacedValue P s cells c) (can : CanStep P s p t) (step : Stepped P s p t n) where
  zst : Stands P main z
  zst = stands P main cells ms z run

  path_t : t.body.start.path ≡ p
  path_t = path_found s.tasks p t can.at_

  -- the act of the step, where the sequential run has it with the answer w
  abbrev their : Task S → ℕ → Event S
  their u w = record { start = u.body.start; past = t.body.found; answer = w }

  ready_now : IsReady s p t.body.start.context
  ready_now = go t.body.found refl
    where
      go : (f : List ℕ) → t.body.found ≡ f → IsReady s p t.body.start.context
      go [] e = can.ready e
      go (w ∷ ws) e = started.ready p t w ws can.at_ (subst (λ (x : List ℕ). IsSuffix (w ∷ ws) x) (sym e) whole)

  load_same : (u : Task S) (w c : ℕ) → At z.state p u → u.body.start ≡ t.body.start → IsSuffix (w ∷ t.body.found) u.body.found → act_now P t.body ≡ Load c → w ≡ slice_index s.cells c
  load_same u w c at_ same found a =
      let path_u = path_found z.state.tasks p u at_ in
      let at2 : At z.state u.body.start.path u = subst (λ (x : List ℕ). At z.state x u) (sym path_u) at_ in
      let act_u : stage_act P u.body.start t.body.found ≡ Load c = subst (λ (x : Start S). stage_act P x t.body.found ≡ Load c) (sym same) a in
      let load_t : Touches (act_now P t.body) c Reads false = subst (λ (x : Act S). Touches x c Reads false) (sym a) Touches.load in
      let l = touch_in_memory P main s cells ms p t t.body.found c Reads false made mem can.at_ load_t in
      let v = value c l in
      let f = (recalls P main cells ms mem z run).loads (their u w) c (record { task = u; at_ = at2; start = refl; found = found }) act_u in
      f.value ∙ (ap (λ (x : List (Event S)). replay P x (slice_index cells c)) (sym (lists load_t v f)) ∙ sym v.value)
    where
      to_theirs : (g : Event S) → IsEarlierPlace P g (record { start = t.body.start; past = t.body.found; answer = found_by (act_now P t.body) s.cells }) → IsEarlierPlace P g (their u w)
      to_theirs g h = subst (λ (x : Start S). IsEarlierPlace P g (record { start = x; past = t.body.found; answer = w })) (sym same) (again h)
        where
          again : IsEarlierPlace P g (record { start = t.body.start; past = t.body.found; answer = found_by (act_now P t.body) s.cells }) → IsEarlierPlace P g (record { start = t.body.start; past = t.body.found; answer = w })
          again (inl x) = inl x
          again (inr x) = inr x

      lists : Touches (act_now P t.body) c Reads false → (v : PlacedValue P s cells c) (f : LoadFound P z cells c (their u w)) → v.list ≡ f.list
      lists load_t v f = sorted_one P v.list f.list v.sorted f.sorted (λ g i. forth g (v.only g i)) (λ g i. back g (f.only g i))
        where
          mine : Happened z.state (their u w)
          mine = record { task = u; at_ = subst (λ (x : List ℕ). At z.state x u) (sym (path_found z.state.tasks p u at_)) at_; start = refl; found = found }

          forth : (g : Event S) → DoneChange P s c g → IsIn g f.list
          forth g d = go (in_or_beyond P main cells z s ms mem run made comp g.start.path g refl d.happened)
            where
              before : IsEarlierPlace P g (their u w)
              before = to_theirs g (after_all P main s n p t ms made started can step path_t c Reads load_t g d)

              go : Happened z.state g ⊎ ((e : Event S) → Happened z.state e → IsEarlierPlace P e g) → IsIn g f.list
              go (inl h) = f.all g (record { slot = d.slot; changes = d.changes; happened = h }) before
              go (inr b) = absurd (event_not P g (their u w) before (b (their u w) mine))

          back : (g : Event S) → RunChange P z c g × IsEarlierPlace P g (their u w) → IsIn g v.list
          back g k =
              let ct = change_touch k.0.changes in
              let h = k.0.happened in
              let ours : Event S = record { start = t.body.start; past = t.body.found; answer = w } in
              let early : IsEarlierPlace P g ours = subst (λ (x : Start S). IsEarlierPlace P g (record { start = x; past = t.body.found; answer = w })) same k.1 in
              let tin : TouchIn P main z.state s ms zst.made made started comp g c ct.touch k.0.slot = record { task = h.task; at_ = h.at_; start = h.start; found = h.found; touches = ct.touches } in
              let gr : Granted P main z.state s ms zst.made made started comp ours c Reads false =
              record { task = t; at_ = subst (λ (x : List ℕ). At s x t) (sym path_t) can.at_; start = refl; stage = whole; touches = load_t; direct = λ e. subst (λ (x : List ℕ). IsReady s x t.body.start.context) (sym path_t) ready_now; joined = λ op e e2. absurd (cc (e2)) } in
              let r = in_order P main z.state s ms zst.made made started comp g ours c ct.touch Reads k.0.slot false tin gr ct.clash_read early in
              v.all g (record { slot = k.0.slot; changes = k.0.changes; happened = r.happened; joined = λ e. given_here r e })
            where
              given_here : (r : Concluded P main z.state s ms zst.made made started comp g c k.0.slot) → k.0.slot ≡ true → IsIn c r.happened.task.given
              given_here r e =
                  let q = r.given e in
                  subst (λ (x : Task S). IsIn c x.given) (at_same s g.start.path q.task r.happened.task q.at_ r.happened.at_) q.given

  same_answer : (u : Task S) (w : ℕ) → At z.state p u → u.body.start ≡ t.body.start → IsSuffix (w ∷ t.body.found) u.body.found → w ≡ found_by (act_now P t.body) s.cells
  same_answer u w at_ same found = go (is_load (act_now P t.body))
    where
      path_u : u.body.start.path ≡ p
      path_u = path_found z.state.tasks p u at_

      go : ((c : ℕ) × (act_now P t.body ≡ Load c)) ⊎ ((c : ℕ) → act_now P t.body ≢ Load c) → w ≡ found_by (act_now P t.body) s.cells
      go (inl a) = load_same u w a.0 at_ same found a.1 ∙ ap (λ (x : Act S). found_by x s.cells) (sym a.1)
      go (inr a) =
          (recalls P main cells ms mem z run).plain (their u w) (record { task = u; at_ = subst (λ (x : List ℕ). At z.state x u) (sym path_u) at_; start = refl; found = found })
          (λ c e. a c (subst (λ (x : Start S). stage_act P x t.body.found ≡ Load c) same e)) ∙ sym (no_load (act_now P t.body) s.cells a)

  -- the tasks of the state after the step are those of the sequential run still
  created_same : (k : ℕ) (u : Task S) → At z.state (k ∷ p) u → k ≡ created_now P t.body → (o : Order S) → act_now P t.body ≡ Created o false → u.body.start ≡ (new_task P t.body o).body.start
  created_same k u at_ e o a =
      let b = zst.made.child k p u at_ in
      let c = comp p b.creator t b.at_ can.at_ in
      let act_b : stage_act P t.body.start b.past ≡ Created b.order false = subst (λ (x : Start S). stage_act P x b.past ≡ Created b.order false) c.start b.act in
      let num_b : stage_created P t.body.start b.past ≡ created_now P t.body = subst (λ (x : Start S). stage_created P x b.past ≡ created_now P t.body) c.start (b.number ∙ e) in
      let one_past = pasts b c.found act_b num_b in
      let act2 : act_now P t.body ≡ Created b.order false = subst (λ (x : List ℕ). stage_act P t.body.start x ≡ Created b.order false) one_past act_b in
      let order : b.order ≡ o = cc (act2, a) in
      b.start ∙ (λ i. child_start (stack_from P (c.start i) (one_past i)).base (order i))
    where
      pasts : (b : MadeBy P z.state k p u) → IsSuffix b.creator.body.found t.body.found ⊎ IsSuffix t.body.found b.creator.body.found → stage_act P t.body.start b.past ≡ Created b.order false → stage_created P t.body.start b.past ≡ created_now P t.body → b.past ≡ t.body.found
      pasts b f ab nb = joint f
        where
          which : (m n : ℕ) → (m < n) ⊎ (m ≡ n) ⊎ (n < m)
          which m n = grind arith

          at : {zs : List ℕ} → IsSuffix (b.answer ∷ b.past) zs → IsSuffix t.body.found zs → (length b.past < length t.body.found) ⊎ (length b.past ≡ length t.body.found) ⊎ (length t.body.found < length b.past) → b.past ≡ t.body.found
          at f1 f2 (inl l) =
              let g = created_grows P t.body.start (suffix_linear f1 f2 (omega arith)) in
              let one = creation_counts P t.body.start b.answer b.past b.order ab in
              absurd (omega arith)
          at f1 f2 (inr (inl l)) = suffix_full (suffix_linear (suffix_drop f1) f2 (omega arith)) (omega arith)
          at f1 f2 (inr (inr l)) =
              let m = suffix_linear f2 (suffix_drop f1) (omega arith) in
              let w = next_of m l in
              let g = created_grows P t.body.start w.1 in
              let one = creation_counts P t.body.start w.0 t.body.found o a in
              absurd (omega arith)

          joint : IsSuffix b.creator.body.found t.body.found ⊎ IsSuffix t.body.found b.creator.body.found → b.past ≡ t.body.found
          joint (inl g) = at (suffix_trans b.happened g) whole (which (length b.past) (length t.body.found))
          joint (inr g) = at b.happened g (which (length b.past) (length t.body.found))

  own_same : (u : Task S) → At z.state p u → IsComparable u.body (after_answer (found_by (act_now P t.body) s.cells) t).body
  own_same u at_ = go (comp p u t at_ can.at_)
    where
      go : IsComparable u.body t.body → IsComparable u.body (after_answer (found_by (act_now P t.body) s.cells) t).body
      go c = record { start = c.start; found = split c.found }
        where
          more : IsSuffix t.body.found u.body.found → (length t.body.found < length u.body.found) ⊎ (length u.body.found ≤ length t.body.found) → IsSuffix u.body.found (found_by (act_now P t.body) s.cells ∷ t.body.found) ⊎ IsSuffix (found_by (act_now P t.body) s.cells ∷ t.body.found) u.body.found
          more g (inl l) =
              let w = next_of g l in
              inr (subst (λ (x : ℕ). IsSuffix (x ∷ t.body.found) u.body.found) (same_answer u w.0 at_ c.start w.1) w.1)
          more g (inr l) = inl (subst (λ (x : List ℕ). IsSuffix x (found_by (act_now P t.body) s.cells ∷ t.body.found)) (suffix_full g l) (longer whole))

          split : IsSuffix u.body.found t.body.found ⊎ IsSuffix t.body.found u.body.found → IsSuffix u.body.found (found_by (act_now P t.body) s.cells ∷ t.body.found) ⊎ IsSuffix (found_by (act_now P t.body) s.cells ∷ t.body.found) u.body.found
          split (inl g) = inl (longer g)
          split (inr g) = more g (le_or (length t.body.found) (length u.body.found))

  same_view : (q : List ℕ) (v : Task S) → StepView P s p t (found_by (act_now P t.body) s.cells) q v → (u : Task S) → At z.state q u → IsComparable u.body v.body
  same_view q v own u h = own_same u h
  same_view q v (new o a) u h = record { start = created_same (created_now P t.body) u h refl o a; found = inr (suffix_nil u.body.found) }
  same_view q v (old ne g) u h = comp q u v h g

  -- a step keeps that each task does what it does in the sequential run
  pub step_same : Compatible z.state n
  step_same q u v h k = same_view q v (step_view P main s n p t (found_by (act_now P t.body) s.cells) made can.at_ can.goes step.tasks q v k) u h
