-- What a task does once: one event creates the task at a path, and one releases a cell.
use Rattle.std.proofs.Common.{◌≡◌, ◌≢◌, ℕ, zero, suc, ◌+◌, ◌<◌, ◌≤◌, ◌⊎◌, inl, inr, refl, sym, subst, ap, ◌∙◌, List, [], ◌∷◌, length, reverse, arith, Bool, true, false, Option, Some, None}
use Rattle.std.specs.Prelude.{◌||◌, if◌then◌else◌}
use Rattle.oss_syntax.specs.declared.access.Access.{Access}
use Rattle.oss_syntax.specs.declared.fault.FaultKind.{FaultKind}
use Rattle.oss_syntax.specs.declared.fault.FaultKind.TheVariants as fault
use Rattle.oss_model.specs.Bodies.{Act, Ask, Frame, Order, Program, Start, act_of, act_of_ask, ask_of, child_frame, frame_act, frame_after, including_frame, inner_after, key_of, settled_frame, settled_parts, stack_act, stack_after, base_after, stack_from, stage_act, stage_key, top_frame}
use Rattle.oss_model.specs.Bodies.Act.{Awaited, Created, Ended, Fault, Folded, Load, Over, Printed, Releases, Store, Ticked, Waited, WaitedOn}
use Rattle.oss_model.specs.Context.{Context, Entry, child_context, create_fault, creation_fault, in_clauses, lent_of, mark_of, release, release_fault, right_of, tick_fault, wait_on_fault}
use Rattle.oss_model.specs.History.{IsMade}
use Rattle.oss_model.specs.Machine.{At, State, Task}
use Rattle.oss_model.specs.Memory.{Event, Happened}
use Rattle.oss_model.specs.Order.{IsBefore, IsEarlierKey, IsIn, IsSuffix, here, longer, there, whole}
use Rattle.oss_model.specs.Rights.{Folds, Reads, Released, Right, Touch, Writes, any_cell, holds_uncovered, is_released, right_from, touch_fault}
use Rattle.oss_model.proofs.BodyLemmas.{FrameKept, frame_after_kept, judged_goes, nothing_lost, settle_kept, settle_same, stack_ok}
use Rattle.oss_model.proofs.JudgeLemmas.{any_cell_none}
use Rattle.oss_model.proofs.KeyLemmas.{IsUpTo, key_form, key_grows}
use Rattle.oss_model.proofs.OrderLemmas.{before_child, before_not, before_number, before_trans, suffix_drop, suffix_full, suffix_length, suffix_linear}
use Rattle.oss_model.proofs.StageLemmas.{creating, frame_after_created, no_inner_of_open}
use Rattle.oss_model.proofs.TreeLemmas.{at_same, next_of, path_found, task_above}
use Rattle.oss_body.specs.Acting.{acting}
use Rattle.oss_explanation.specs.Lives.{IsCreated, IsEventOf, IsHolder, IsReleased, act_at, actor, born_with, line_at}

suffix_split : {q r : List ℕ} → IsSuffix q r → (q ≡ r) ⊎ ((j : ℕ) × IsSuffix (j ∷ q) r)
suffix_split whole = inl refl
suffix_split {q = q} (longer {y = y} {ys = ys} h) = go (suffix_split h)
  where
    go : (q ≡ ys) ⊎ ((j : ℕ) × IsSuffix (j ∷ q) ys) → (q ≡ y ∷ ys) ⊎ ((j : ℕ) × IsSuffix (j ∷ q) (y ∷ ys))
    go (inl e) = inr (y, subst (λ (x : List ℕ). IsSuffix (y ∷ q) (y ∷ x)) e whole)
    go (inr (j, k)) = inr (j, longer k)

pub rest_same : (j k : ℕ) (p q : List ℕ) → j ∷ p ≡ k ∷ q → p ≡ q
rest_same j k p q e = cc

pub which : (m n : ℕ) → (m < n) ⊎ (m ≡ n) ⊎ (n < m)
which m n = grind arith

-- Keys

pub then_up : (k l m : List ℕ) → IsEarlierKey k l → IsUpTo l m → IsEarlierKey k m
then_up k l m a (inl b) = before_trans a b
then_up k l m a (inr e) = subst (λ (x : List ℕ). IsEarlierKey k x) e a

pub not_before : (k l : List ℕ) → k ≡ l → IsEarlierKey k l → ⊥
not_before k l e h = before_not h (ap (λ (x : List ℕ). reverse x) e)

module _ {S : Type 0} where
  -- a creation leads to a later key
  made_base : (o : Order S) (i : Bool) (v : ℕ) (base : Frame S) → IsEarlierKey (key_of base) (key_of (top_frame (base_after (Created o i) v base).base (base_after (Created o i) v base).inner))
  made_base o true v base = before_child 0 base.context.created base.path
  made_base o false v base =
      let n = frame_after_created (Created o false) v base in
      before_number base.context.created (frame_after (Created o false) v base).context.created base.path (omega (arith, n))

  made_step : (o : Order S) (i : Bool) (v : ℕ) (base : Frame S) (inner : List (Frame S))
      → IsEarlierKey (key_of (top_frame base inner)) (key_of (top_frame (stack_after (Created o i) v base inner).base (stack_after (Created o i) v base inner).inner))
  made_step o i v base [] = made_base o i v base
  made_step o i v base (f ∷ fs) = before_child 0 f.context.created f.path

  settled_key : (P : Program S) (base : Frame S) (inner : List (Frame S)) (over : Bool) → key_of (top_frame (settled_parts P base inner over).base (settled_parts P base inner over).inner) ≡ key_of (top_frame base inner)
  settled_key P base [] over = let k = settle_same P base in λ i. (k.context i).created ∷ k.path i
  settled_key P base (f ∷ fs) over = let k = settle_same P f in λ i. (k.context i).created ∷ k.path i

  made_later : (P : Program S) (b : Start S) (v : ℕ) (vs : List ℕ) (o : Order S) (i : Bool) → stage_act P b vs ≡ Created o i → IsEarlierKey (stage_key P b vs) (stage_key P b (v ∷ vs))
  unfolding stage_key stack_from stage_act act_of
  made_later P b v vs o i a =
      let s = stack_from P b vs in
      let n = stack_after (stage_act P b vs) v s.base s.inner in
      subst (λ (k : List ℕ). IsEarlierKey (key_of (top_frame s.base s.inner)) k) (sym (settled_key P n.base n.inner n.ended))
      (subst (λ (x : Act S). IsEarlierKey (key_of (top_frame s.base s.inner)) (key_of (top_frame (stack_after x v s.base s.inner).base (stack_after x v s.base s.inner).inner))) (sym a) (made_step o i v s.base s.inner))

  -- from a creation on all keys are later
  made_before : (P : Program S) (b : Start S) (past more : List ℕ) (o : Order S) (i : Bool) → stage_act P b past ≡ Created o i → IsSuffix past more → length past < length more → IsEarlierKey (stage_key P b past) (stage_key P b more)
  made_before P b past more o i a h l =
      let n = next_of h l in
      then_up (stage_key P b past) (stage_key P b (n.0 ∷ past)) (stage_key P b more) (made_later P b n.0 past o i a) (key_grows P b n.1)

-- One body

module _ {S : Type 0} (P : Program S) (main : Start S) (s : State S) (made : IsMade P main s) where
  pub acting_below : (b : Start S) (past : List ℕ) → IsSuffix b.path (acting P b past).path
  unfolding stage_key
  acting_below b past =
      let k = key_form P b past in
      subst (λ (q : List ℕ). IsSuffix b.path q) (sym (rest_same (acting P b past).context.created k.number (acting P b past).path k.path k.key)) k.below

  pub acting_path : (b : Start S) (past : List ℕ) → b.context.final ≡ false → (acting P b past).path ≡ b.path
  acting_path b past open_ =
      let x = stack_from P b past in
      ap (λ (z : List (Frame S)). (top_frame x.base z).path) (no_inner_of_open b.context b.path x.base x.inner (stack_ok P b past) open_) ∙ (stack_ok P b past).path

  -- a body in which a task acts that lies below another body's own stands no higher than that
  no_lower : (t u : Task S) (past : List ℕ) → At s t.body.start.path t → At s u.body.start.path u → IsSuffix u.body.start.path (acting P t.body.start past).path → (j : ℕ) → IsSuffix (j ∷ t.body.start.path) u.body.start.path → ⊥
  no_lower t u past h k below j i =
      let w = task_above P main s (j ∷ t.body.start.path) u made i k in
      let b = made.child j t.body.start.path w.0 w.1 in
      let o = (creating P b.creator.body.start b.past b.order b.act).open_ in
      let e : t.body.start.context.final ≡ false = ap (λ (x : Task S). x.body.start.context.final) (at_same s t.body.start.path t b.creator h b.at_) ∙ o in
      let m = suffix_length i in
      let n = suffix_length below in
      let p : length (acting P t.body.start past).path ≡ length t.body.start.path = ap (λ (x : List ℕ). length x) (acting_path t.body.start past e) in
      omega (arith, m, n, p)

  lower_one : (t u : Task S) (past other : List ℕ) → At s t.body.start.path t → At s u.body.start.path u → (acting P t.body.start past).path ≡ (acting P u.body.start other).path
      → length t.body.start.path ≤ length u.body.start.path → t.body.start.path ≡ u.body.start.path
  lower_one t u past other h k e l =
      let below : IsSuffix u.body.start.path (acting P t.body.start past).path = subst (λ (q : List ℕ). IsSuffix u.body.start.path q) (sym e) (acting_below u.body.start other) in
      go below (suffix_split (suffix_linear (acting_below t.body.start past) below l))
    where
      go : IsSuffix u.body.start.path (acting P t.body.start past).path → (t.body.start.path ≡ u.body.start.path) ⊎ ((j : ℕ) × IsSuffix (j ∷ t.body.start.path) u.body.start.path) → t.body.start.path ≡ u.body.start.path
      go below (inl p) = p
      go below (inr (j, i)) = absurd (no_lower t u past h k below j i)

  pub one_place : (t u : Task S) (past other : List ℕ) → At s t.body.start.path t → At s u.body.start.path u → (acting P t.body.start past).path ≡ (acting P u.body.start other).path → t ≡ u
  one_place t u past other h k e = at_same s u.body.start.path t u (subst (λ (q : List ℕ). At s q t) (go (which (length t.body.start.path) (length u.body.start.path))) h) k
    where
      go : (length t.body.start.path < length u.body.start.path) ⊎ (length t.body.start.path ≡ length u.body.start.path) ⊎ (length u.body.start.path < length t.body.start.path) → t.body.start.path ≡ u.body.start.path
      go (inl l) = lower_one t u past other h k e (omega (arith, l))
      go (inr (inl l)) = lower_one t u past other h k e (omega (arith, l))
      go (inr (inr l)) = sym (lower_one u t other past k h (sym e) (omega (arith, l)))

  pub own_at : (e : Event S) (h : Happened s e) → At s h.task.body.start.path h.task
  own_at e h = subst (λ (b : Start S). At s b.path h.task) (sym h.start) h.at_

  -- the acts of a task lie in one body
  pub one_body : (e g : Event S) (h : Happened s e) (k : Happened s g) → (actor P e).path ≡ (actor P g).path → h.task ≡ k.task
  one_body e g h k p =
      one_place h.task k.task e.past g.past (own_at e h) (own_at g k)
      (ap (λ (b : Start S). (acting P b e.past).path) h.start ∙ p ∙ sym (ap (λ (b : Start S). (acting P b g.past).path) k.start))

  -- Two events of one task, one of them earlier, or they are one.
  pub data Compared (e g : Event S) : Type 0 where
    one : e.start ≡ g.start → e.past ≡ g.past → Compared e g
    before : e.start ≡ g.start → IsSuffix (e.answer ∷ e.past) g.past → Compared e g
    after : e.start ≡ g.start → IsSuffix (g.answer ∷ g.past) e.past → Compared e g

  pub compared : (e g : Event S) → Happened s e → Happened s g → (actor P e).path ≡ (actor P g).path → Compared e g
  compared e g h k p = go (which (length e.past) (length g.past))
    where
      same : h.task ≡ k.task
      same = one_body e g h k p

      start : e.start ≡ g.start
      start = sym h.start ∙ ap (λ (t : Task S). t.body.start) same ∙ k.start

      left : IsSuffix (e.answer ∷ e.past) k.task.body.found
      left = subst (λ (t : Task S). IsSuffix (e.answer ∷ e.past) t.body.found) same h.found

      go : (length e.past < length g.past) ⊎ (length e.past ≡ length g.past) ⊎ (length g.past < length e.past) → Compared e g
      go (inl l) = before start (suffix_linear left (suffix_drop k.found) (omega (arith, l)))
      go (inr (inl l)) = one start (suffix_full (suffix_linear (suffix_drop left) (suffix_drop k.found) (omega (arith, l))) (omega (arith, l)))
      go (inr (inr l)) = after start (suffix_linear k.found (suffix_drop left) (omega (arith, l)))

  pub key_is : (e : Event S) → stage_key P e.start e.past ≡ (actor P e).context.created ∷ (actor P e).path
  unfolding stage_key
  key_is e = refl

  -- where two creations make the task at one path, they are one
  pub one_creation : (e g : Event S) → Happened s e → Happened s g → (o u : Order S) (i j : Bool) → act_at P e ≡ Created o i → act_at P g ≡ Created u j
      → (actor P e).context.created ∷ (actor P e).path ≡ (actor P g).context.created ∷ (actor P g).path → (e.start ≡ g.start) × (e.past ≡ g.past)
  one_creation e g h k o u i j a b p = go (compared e g h k (rest_same (actor P e).context.created (actor P g).context.created (actor P e).path (actor P g).path p))
    where
      keys : stage_key P e.start e.past ≡ stage_key P g.start g.past
      keys = key_is e ∙ p ∙ sym (key_is g)

      go : Compared e g → (e.start ≡ g.start) × (e.past ≡ g.past)
      go (one x y) = (x, y)
      go (before x y) =
          let l = suffix_length y in
          absurd (not_before (stage_key P e.start e.past) (stage_key P e.start g.past) (keys ∙ ap (λ (z : Start S). stage_key P z g.past) (sym x)) (made_before P e.start e.past g.past o i a (suffix_drop y) (omega (arith, l))))
      go (after x y) =
          let l = suffix_length y in
          absurd (not_before (stage_key P g.start g.past) (stage_key P g.start e.past) (sym keys ∙ ap (λ (z : Start S). stage_key P z e.past) x) (made_before P g.start g.past e.past u j b (suffix_drop y) (omega (arith, l))))

  created_one : (o u : Order S) (i j : Bool) → Created o i ≡ Created u j → (o ≡ u) × (i ≡ j)
  created_one o u i j e = (cc, cc)

  -- a task was created in one way
  pub one_created : (q : List ℕ) (i j : Bool) (line other : ℕ) (x y : Context) → IsCreated P s q i line x → IsCreated P s q j other y → (i ≡ j) × (line ≡ other) × (x ≡ y)
  one_created q i j line other x y h k =
      let same = one_creation h.event k.event h.happened k.happened h.order k.order i j h.creates k.creates (sym h.path ∙ k.path) in
      let orders = created_one h.order k.order i j (sym h.creates ∙ (λ n. stage_act P (same.0 n) (same.1 n)) ∙ k.creates) in (
        orders.1,
        h.on_line ∙ (λ n. (ask_of P (acting P (same.0 n) (same.1 n))).line) ∙ sym k.on_line,
        h.context ∙ (λ n. child_context (acting P (same.0 n) (same.1 n)).context (orders.0 n).clauses (orders.0 n).last) ∙ sym k.context,
      )

  -- and by one order
  pub one_order : (q : List ℕ) (i j : Bool) (line other : ℕ) (x y : Context) (h : IsCreated P s q i line x) (k : IsCreated P s q j other y) → h.order ≡ k.order
  one_order q i j line other x y h k =
      let same = one_creation h.event k.event h.happened k.happened h.order k.order i j h.creates k.creates (sym h.path ∙ k.path) in
      (created_one h.order k.order i j (sym h.creates ∙ (λ n. stage_act P (same.0 n) (same.1 n)) ∙ k.creates)).0

  -- and so was the child that holds a cell
  pub one_holder : (q : List ℕ) (c : ℕ) (touch : Touch) (k line other : ℕ) (x y : Context) → IsHolder P s q c touch k line x → IsHolder P s q c touch k other y → (line ≡ other) × (x ≡ y)
  one_holder q c touch k line other x y h g =
      let path : (actor P h.event).context.created ∷ (actor P h.event).path ≡ (actor P g.event).context.created ∷ (actor P g.event).path = λ n. (sym h.number ∙ g.number) n ∷ (h.own.path ∙ sym g.own.path) n in
      let same = one_creation h.event g.event h.own.happened g.own.happened h.order g.order false false h.creates g.creates path in
      let orders = created_one h.order g.order false false (sym h.creates ∙ (λ n. stage_act P (same.0 n) (same.1 n)) ∙ g.creates) in (
        h.on_line ∙ (λ n. (ask_of P (acting P (same.0 n) (same.1 n))).line) ∙ sym g.on_line,
        h.context ∙ (λ n. child_context (acting P (same.0 n) (same.1 n)).context (orders.0 n).clauses (orders.0 n).last) ∙ sym g.context,
      )

  -- whatever cell it holds
  pub one_held_order : (q : List ℕ) (c d : ℕ) (touch other : Touch) (k j line n : ℕ) (x y : Context) → k ≡ j → (h : IsHolder P s q c touch k line x) (g : IsHolder P s q d other j n y) → h.order ≡ g.order
  one_held_order q c d touch other k j line n x y e h g =
      let path : (actor P h.event).context.created ∷ (actor P h.event).path ≡ (actor P g.event).context.created ∷ (actor P g.event).path = λ i. (sym h.number ∙ e ∙ g.number) i ∷ (h.own.path ∙ sym g.own.path) i in
      let same = one_creation h.event g.event h.own.happened g.own.happened h.order g.order false false h.creates g.creates path in
      (created_one h.order g.order false false (sym h.creates ∙ (λ i. stage_act P (same.0 i) (same.1 i)) ∙ g.creates)).0
