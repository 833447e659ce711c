-- What is kept of an open task goes on as the task does.
use Rattle.std.proofs.Common.{◌≡◌, ℕ, refl, sym, subst, ap, ◌∙◌, Bool, true, false, Option, Some, None}
use Rattle.std.specs.Prelude.{◌||◌, if◌then◌else◌, length, nat_le, not, Result, Ok, Err, IfOk}
use Rattle.oss_syntax.specs.declared.fault.FaultKind.{FaultKind}
use Rattle.oss_syntax.specs.declared.fault.FaultKind.TheVariants as fault
use Rattle.oss_model.specs.Context.{Context, create_fault}
use Rattle.oss_model.specs.Bodies.{Ask, Frame, Order, answered_frame, ask_of, past_ask, past_silent, settled_frame}
use Rattle.oss_code.specs.declared.code.CodeParts.{CodeParts}
use Rattle.oss_code.specs.declared.order.TaskOrder.{TaskOrder}
use Rattle.oss_machine.specs.Asks.{meant_ask, meant_order, script_of}
use Rattle.oss_machine.specs.declared.ask.Ask.{Ask as CodeAsk}
use Rattle.oss_machine.specs.declared.ask.Ask.TheVariants as asked
use Rattle.oss_machine.specs.Frames.{CodeScript}
use Rattle.oss_machine.specs.Machines.{asks, machine_at, poised}
use Rattle.oss_free_tasks.specs.Deeds.{IsAnswered}
use Rattle.oss_free_tasks.proofs.FreeTurns.{settled_freed}
use Rattle.oss_free_run.specs.declared.task.FreeTask.{FreeTask}
use Rattle.oss_free_run.specs.FreeTasks.{free_program, is_silent, may_create, new_task, past_task, seen, settled_task, went_on}

-- what follows from an answer
pub if_ok : {A E : Type 0} {P Q : A → Type 0} (r : Result A E) → ((a : A) → P a → Q a) → IfOk r P → IfOk r Q
if_ok (Ok a) go h = go a h
if_ok (Err e) go h = tt

module _ (code : CodeParts) where
  begins : (f : Frame CodeScript) (a b : Bool) → seen code (elim (if a then Some fault.TooDeep else if b then Some fault.TooManyTasks else None) [ None ↦ answered_frame 0 f | Some kind ↦ f ]) ≡ (if not (a || b) then went_on code 0 (seen code f) else seen code f)
  begins f true b = refl
  begins f false true = refl
  begins f false false = refl

  awaited : (f : Frame CodeScript) (w : Bool) → seen code (if w then f else answered_frame 0 f) ≡ (if not w then went_on code 0 (seen code f) else seen code f)
  awaited f true = refl
  awaited f false = refl

  past_seen : (f : Frame CodeScript) (q : Ask CodeScript) → seen code (past_ask (asks code) f q) ≡ (if is_silent (may_create f.context.depth f.context.created) f.awaits q then went_on code 0 (seen code f) else seen code f)
  past_seen f Ask.Begin = begins f (nat_le 64 f.context.depth) (nat_le 65535 f.context.created)
  past_seen f Ask.Await = awaited f f.awaits
  past_seen f Ask.Tick = refl
  past_seen f (Ask.Read c) = refl
  past_seen f (Ask.Write c v) = refl
  past_seen f (Ask.Fold c op v) = refl
  past_seen f (Ask.Create o) = refl
  past_seen f Ask.Wait = refl
  past_seen f (Ask.WaitOn named) = refl
  past_seen f (Ask.Release clauses) = refl
  past_seen f (Ask.Print text) = refl
  past_seen f Ask.End = refl
  past_seen f (Ask.Fails kind) = refl

  -- asks that are passed leave the context
  abbrev begun_frame : Frame CodeScript → Option FaultKind → Frame CodeScript
  begun_frame f r = elim r [ None ↦ answered_frame 0 f | Some kind ↦ f ]

  begins_context : (f : Frame CodeScript) (r : Option FaultKind) → (begun_frame f r).context ≡ f.context
  begins_context f None = refl
  begins_context f (Some kind) = refl

  awaited_context : (f : Frame CodeScript) (w : Bool) → (if w then f else answered_frame 0 f).context ≡ f.context
  awaited_context f true = refl
  awaited_context f false = refl

  past_context : (f : Frame CodeScript) (q : Ask CodeScript) → (past_ask (asks code) f q).context ≡ f.context
  past_context f Ask.Begin = begins_context f (create_fault f.context)
  past_context f Ask.Await = awaited_context f f.awaits
  past_context f _ = refl

  past_is : (f : Frame CodeScript) (depth : ℕ) → f.context.depth ≡ depth → seen code (past_silent (asks code) f) ≡ past_task code depth (seen code f)
  past_is f depth e = subst (λ (d : ℕ). seen code (past_silent (asks code) f) ≡ past_task code d (seen code f)) e (past_seen f (ask_of (asks code) f).ask)

  -- a task before its next act
  pub settled_is : (f : Frame CodeScript) (depth : ℕ) (k : FreeTask) → f.context.depth ≡ depth → k ≡ settled_task code depth (seen code f) → k ≡ seen code (settled_frame (free_program code) f)
  settled_is f depth k e h =
      let g = past_silent (asks code) f in
      let d : g.context.depth ≡ depth = ap (λ (x : Context). x.depth) (past_context f (ask_of (asks code) f).ask) ∙ e in
      let a : settled_task code depth (seen code f) ≡ past_task code depth (seen code g) = ap (λ (t : FreeTask). past_task code depth t) (sym (past_is f depth e)) in
      h ∙ a ∙ sym (past_is g depth d) ∙ ap (λ (g : Frame CodeScript). seen code g) (sym (settled_freed (asks code) (length code.first) f))

  -- the task that a creation makes
  pub child_from : (depth : ℕ) (q : Ask CodeScript) (a : CodeAsk) (order got : TaskOrder) (o : Order CodeScript) (mine last : Bool) (child k : FreeTask) → meant_ask a ≡ q → a ≡ asked.Create order → got ≡ order → q ≡ Ask.Create o
      → last ≡ (mine || got.last) → child ≡ new_task code last (script_of got) → k ≡ settled_task code depth child → k ≡ settled_task code depth (new_task code (mine || o.last) o.script)
  child_from depth q a order got o mine last child k m is g e l h w =
      let x : Ask.Create (meant_order order) ≡ Ask.Create o = ap meant_ask (sym is) ∙ m ∙ e in
      let y : meant_order order ≡ o = cc in
      w ∙ ap (λ (t : FreeTask). settled_task code depth t)
      (h ∙ ap (λ (b : Bool). new_task code b (script_of got)) l ∙ ap (λ (t : TaskOrder). new_task code (mine || t.last) (script_of t)) g ∙ ap (λ (p : Order CodeScript). new_task code (mine || p.last) p.script) y)

  -- one more answer
  pub answered_is : (f g : Frame CodeScript) (v : ℕ) → IsAnswered v f g → seen code g ≡ went_on code v (seen code f)
  answered_is f g v h = λ i. record {
    machine = poised (machine_at code (h.script i) (h.answers i));
    ticks = h.ticks i;
    created = h.created i;
    last = h.final i;
    awaits = h.awaits i;
  }
