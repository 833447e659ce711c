-- A body after its next act is that of the definitions.
use Rattle.std.proofs.Common.{◌≡◌, ℕ, refl, sym, ap, ◌∙◌, subst, List, [], ◌∷◌, Bool, true, false, Some}
use Rattle.oss_syntax.specs.declared.access.Mode.TheVariants.{Fold}
use Rattle.oss_syntax.specs.declared.access.Op.{Op}
use Rattle.oss_model.specs.Order.{written}
use Rattle.oss_model.specs.Rights.{Holds}
use Rattle.oss_model.specs.Moves.{slot_more, slot_of}
use Rattle.oss_model.specs.Context.{Context, child_context, right_of}
use Rattle.oss_model.specs.Bodies.{Order, Program, Act as MeantAct, Created, Start, Frame as Meant, Stack, act_of, child_frame, child_start, frame_act, settled_frame, settled_parts, settled_stack, stack_after, stack_from, stage_act, start_frame, top_frame}
use Rattle.oss_model.proofs.BodyLemmas.{settle_same, stack_ok}
use Rattle.oss_model.proofs.StageLemmas.{creating}
use Rattle.oss_code.specs.declared.code.CodeParts.{CodeParts}
use Rattle.oss_code.specs.declared.order.TaskOrder.{TaskOrder}
use Rattle.oss_machine.specs.Asks.{meant_order, script_of}
use Rattle.oss_machine.specs.Frames.{CodeScript}
use Rattle.oss_machine.specs.Machines.{asks, machine_start}
use Rattle.oss_slots.specs.Slots.{fresh, slot_at}
use Rattle.oss_body.specs.declared.act.Act.{Act}
use Rattle.oss_body.specs.declared.act.Act.TheVariants as acts
use Rattle.oss_body.specs.declared.act.Creation.{Creation}
use Rattle.oss_body.specs.declared.body.Body.{Body}
use Rattle.oss_body.specs.Places.{Framed as Frame}
use Rattle.oss_body.specs.declared.own.Own.{Own}
use Rattle.oss_body.specs.declared.tasks.Tasks.{Tasks}
use Rattle.oss_body.specs.Acts.{HasContext, act_seen}
use Rattle.oss_body.specs.Kept.{kept}
use Rattle.oss_body.specs.Places.{Placed, place_of}
use Rattle.oss_body.specs.Stacks.{IsFollowed, kept_stack, own_place}
use Rattle.oss_body.specs.Relation.{HasStarted, IsBody}
use Rattle.oss_body.proofs.StackLemmas.{own_place_is}

abbrev pub tasks_with : Frame → List Frame → Tasks
tasks_with top below = record { top = top; below = below; ended = false }

-- where the task of a body stands
pub point_is : (code : CodeParts) (start : Start CodeScript) (found : List ℕ) (b : Body) → IsBody code start found b → (own_place b.tasks).path ≡ written start.path
point_is code start found b is = ap (λ (p : Placed). p.path) is.place ∙ ap written (stack_ok (asks code) start found).path

-- the body's own task stands where it stood
settled_place : (P : Program CodeScript) (base : Meant CodeScript) (inner : List (Meant CodeScript)) (ended : Bool) → place_of (settled_parts P base inner ended).base ≡ place_of base
settled_place P base [] ended = let k = settle_same P base in λ i. record { context = k.context i; path = written (k.path i) }
settled_place P base (f ∷ fs) ended = refl

-- a task that has done nothing
pub starts_as : (code : CodeParts) (order : TaskOrder) (context : Context) (point path : List ℕ) → point ≡ written path → (p : Placed) → p ≡ record { context = context; path = point } → (x : Frame)
    → x ≡ record { machine = machine_start code (script_of order); place = p; awaits = false } → x ≡ kept code (start_frame (asks code) (record { order = meant_order order; context = context; path = path }))
starts_as code order context point path e p h x k = rw k (rw h (rw e refl))

-- a body that has done nothing
pub begins : (code : CodeParts) (start : Start CodeScript) (b : Body) (top : Frame) → HasStarted start b.own → b.begun ≡ false → top ≡ kept code (settled_frame (asks code) (start_frame (asks code) start))
    → b.tasks ≡ record { top = top; below = []; ended = false }
    → act_seen b.act ≡ frame_act (asks code) (right_of b.own.context) false (settled_frame (asks code) (start_frame (asks code) start)) (settled_frame (asks code) (start_frame (asks code) start)).awaits
    → HasContext top.place.context b.act → IsBody code start [] b
unfolding stack_from stage_act act_of slot_of
begins code start b top own begun settled tasks acts child =
    let all : b.tasks ≡ kept_stack code (stack_from (asks code) start []) = tasks ∙ rw settled refl in
    record {
      context = own.context;
      wait = own.wait;
      priority = own.priority;
      slots = own.slots;
      begun = begun;
      place = ap own_place all ∙ own_place_is code (stack_from (asks code) start []);
      ended = ap (λ (t : Tasks). t.ended) all;
      tasks = λ e. all;
      act = λ e. acts ∙ ap (λ (x : Context). act_of (asks code) (right_of x) (stack_from (asks code) start [])) own.context;
      child = λ e. subst (λ (x : Context). HasContext x b.act) (ap (λ (t : Frame). t.place.context) settled) child;
    }

-- The task that the pending creation makes
module _ (code : CodeParts) (start : Start CodeScript) (found : List ℕ) (b : Body) (is : IsBody code start found b) (running : b.tasks.ended ≡ false) (creation : Creation) (included : Bool) (e : b.act ≡ acts.Create creation included)
    (order : Order CodeScript) (h : stage_act (asks code) start found ≡ Created order false) where
  abbrev creator : Meant CodeScript
  creator = (stack_from (asks code) start found).base

  pub order_is : meant_order creation.order ≡ order
  order_is =
      let k : Created (meant_order creation.order) included ≡ Created order false = sym (ap act_seen e) ∙ is.act running ∙ h in cc (k)

  -- the creator is the body's own task
  alone : (stack_from (asks code) start found).inner ≡ []
  alone = (creating (asks code) start found order h).alone

  pub top_is : b.tasks.top ≡ kept code creator
  top_is = ap (λ (t : Tasks). t.top) (is.tasks running) ∙ ap (λ (inner : List (Meant CodeScript)). kept code (top_frame creator inner)) alone

  pub context_is : creation.context ≡ child_context creator.context creation.order.accesses creation.order.last
  context_is =
      let k : HasContext (top_frame creator (stack_from (asks code) start found).inner).context (acts.Create creation included) = subst (HasContext (top_frame creator (stack_from (asks code) start found).inner).context) e (is.child running) in
      subst (λ (inner : List (Meant CodeScript)). creation.context ≡ child_context (top_frame creator inner).context creation.order.accesses creation.order.last) alone k

  -- the context in which the new task starts
  started_context : creation.context ≡ (child_start creator order).context
  unfolding child_start
  started_context = context_is ∙ ap (λ (o : Order CodeScript). child_context creator.context o.clauses o.last) order_is

  started_order : order ≡ (child_start creator order).order
  unfolding child_start
  started_order = refl

  pub child_has_started : (own : Own) → own.context ≡ creation.context → own.wait ≡ creation.order.wait → own.priority ≡ creation.order.priority
      → ((c : ℕ) (op : Op) → right_of creation.context c ≡ Holds (Fold op) true → slot_at own.slots c ≡ Some (fresh op)) → HasStarted (child_start creator order) own
  child_has_started own context wait priority slots = record {
    context = context ∙ started_context;
    wait = wait ∙ ap (λ (o : Order CodeScript). o.wait) (order_is ∙ started_order);
    priority = priority ∙ ap (λ (o : Order CodeScript). o.priority) (order_is ∙ started_order);
    slots = λ c op right. slots c op (ap (λ (x : Context). right_of x c) started_context ∙ right);
  }

  -- the task that a creation makes begins as its body
  pub child_begins : (top : Frame) → top ≡ kept code (child_frame creator (meant_order creation.order)) → top ≡ kept code (start_frame (asks code) (child_start creator order))
  unfolding child_start
  child_begins top k = k ∙ ap (λ (o : Order CodeScript). kept code (child_frame creator o)) order_is

-- what is kept of the start, after an act
pub record OwnAfter (old : Own) (act : MeantAct CodeScript) (own : Own) : Type 0 where
  pub context : own.context ≡ old.context
  pub wait : own.wait ≡ old.wait
  pub priority : own.priority ≡ old.priority
  pub slots : (c : ℕ) (op : Op) (held : ℕ) → slot_at old.slots c ≡ Some (record { op = op; value = held }) → slot_at own.slots c ≡ Some (record { op = op; value = slot_more act c op held })

-- a body of which all that tells anything is as it was
pub stays : (code : CodeParts) (start : Start CodeScript) (found : List ℕ) (old new : Body) → new.own ≡ old.own → new.begun ≡ old.begun → new.tasks ≡ old.tasks → new.act ≡ old.act → IsBody code start found old → IsBody code start found new
stays code start found old new own begun tasks act is = record {
  context = ap (λ (o : Own). o.context) own ∙ is.context;
  wait = ap (λ (o : Own). o.wait) own ∙ is.wait;
  priority = ap (λ (o : Own). o.priority) own ∙ is.priority;
  slots = λ c op h. ap (λ (o : Own). slot_at o.slots c) own ∙ is.slots c op h;
  begun = begun ∙ is.begun;
  place = ap own_place tasks ∙ is.place;
  ended = ap (λ (t : Tasks). t.ended) tasks ∙ is.ended;
  tasks = λ e. tasks ∙ is.tasks (ap (λ (t : Tasks). t.ended) (sym tasks) ∙ e);
  act = λ e. ap act_seen act ∙ is.act (ap (λ (t : Tasks). t.ended) (sym tasks) ∙ e);
  child = λ e. subst (HasContext (top_frame (stack_from (asks code) start found).base (stack_from (asks code) start found).inner).context) (sym act) (is.child (ap (λ (t : Tasks). t.ended) (sym tasks) ∙ e));
}

-- A body after its next act
module _ (code : CodeParts) (start : Start CodeScript) (found : List ℕ) (old : Body) (v : ℕ) (is : IsBody code start found old) (running : old.tasks.ended ≡ false) where
  abbrev P : Program CodeScript
  P = asks code

  abbrev now : Stack CodeScript
  now = stack_from P start found

  slots_after : (own : Own) → OwnAfter old.own (act_seen old.act) own → (c : ℕ) (op : Op) → right_of start.context c ≡ Holds (Fold op) true → slot_at own.slots c ≡ Some (record { op = op; value = slot_of P start c op (v ∷ found) })
  unfolding slot_of
  slots_after own more c op h =
      more.slots c op (slot_of P start c op found) (is.slots c op h)
      ∙ ap (λ (a : MeantAct CodeScript). Some (record { op = op; value = slot_more a c op (slot_of P start c op found) })) (is.act running)

  abbrev next : Stack CodeScript
  next = stack_after (act_seen old.act) v now.base now.inner

  -- the body of the definitions after the act
  after_act : stack_from P start (v ∷ found) ≡ settled_stack P next
  unfolding stack_from stage_act act_of
  after_act = ap (λ (a : MeantAct CodeScript). settled_stack P (stack_after a v now.base now.inner)) (sym (is.act running))

  settled_ended : (base : Meant CodeScript) (inner : List (Meant CodeScript)) (ended : Bool) → ended ≡ (settled_parts P base inner ended).ended
  settled_ended base [] ended = refl
  settled_ended base (f ∷ fs) ended = refl

  -- the body's own task, and whether it has ended
  place_after : (t : Tasks) (a : Act) → IsFollowed code (right_of old.own.context) next t a → (e : Bool) → t.ended ≡ e → (own_place t ≡ place_of (stack_from P start (v ∷ found)).base) × (t.ended ≡ (stack_from P start (v ∷ found)).ended)
  place_after t a f true e = (
    ap own_place (f.over e) ∙ own_place_is code next ∙ sym (settled_place P next.base next.inner next.ended) ∙ ap (λ (s : Stack CodeScript). place_of s.base) (sym after_act),
    ap (λ (x : Tasks). x.ended) (f.over e) ∙ settled_ended next.base next.inner next.ended ∙ ap (λ (s : Stack CodeScript). s.ended) (sym after_act),
  )
  place_after t a f false e =
      (ap own_place (f.on e) ∙ own_place_is code (settled_stack P next) ∙ ap (λ (s : Stack CodeScript). place_of s.base) (sym after_act), ap (λ (x : Tasks). x.ended) (f.on e) ∙ ap (λ (s : Stack CodeScript). s.ended) (sym after_act))

  -- the body goes on, or has ended
  pub advanced : (b : Body) → IsFollowed code (right_of old.own.context) next b.tasks b.act → HasContext b.tasks.top.place.context b.act → OwnAfter old.own (act_seen old.act) b.own → b.begun ≡ true → IsBody code start (v ∷ found) b
  unfolding stage_act
  advanced b f child own begun =
      let all = λ (e : b.tasks.ended ≡ false). f.on e ∙ ap (kept_stack code) (sym after_act) in
      let where_it_stands = place_after b.tasks b.act f b.tasks.ended refl in
      record {
        context = own.context ∙ is.context;
        wait = own.wait ∙ is.wait;
        priority = own.priority ∙ is.priority;
        slots = slots_after b.own own;
        begun = begun;
        place = where_it_stands.0;
        ended = where_it_stands.1;
        tasks = all;
        act = λ e. f.act e ∙ ap (act_of P (right_of old.own.context)) (sym after_act) ∙ ap (λ (y : Context). act_of P (right_of y) (stack_from P start (v ∷ found))) is.context;
        child = λ e. subst (λ (y : Context). HasContext y b.act) (ap (λ (t : Tasks). t.top.place.context) (all e)) child;
      }
