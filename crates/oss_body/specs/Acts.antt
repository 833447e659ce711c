-- The acts of a body as the definitions have them, and what the judge has made of an act that stands next.
-- Read against: the store of 5 in cell 2 is `Store 2 5`; a print of `x` that main makes after one creation is
-- `Printed (1 ∷ []) (120 ∷ [])`; a creation that passed has the context of the new task beside it.
use Rattle.std.specs.Prelude.{◌≡◌, ℕ, suc, nat_eq, Bool, true, false, ◌&&◌, Option, Some, None}
use Rattle.oss_syntax.specs.declared.fault.FaultKind.{FaultKind}
use Rattle.oss_model.specs.Context.{Context, child_context, create_fault, tick_fault}
use Rattle.oss_model.specs.Bodies.{Act as Meant, word_of}
use Rattle.oss_meaning.specs.Clauses.{waited_for}
use Rattle.oss_meaning.specs.Sections.{declared_on}
use Rattle.oss_machine.specs.Asks.{meant_order}
use Rattle.oss_machine.specs.Frames.{CodeScript}
use Rattle.oss_body.specs.declared.act.Act.{Act}
use Rattle.oss_body.specs.declared.act.Act.TheVariants as acts
use Rattle.oss_body.specs.declared.act.Creation.{Creation}
use Rattle.oss_body.specs.Places.{unwritten}

-- An act of a body, as one of the definitions: `Store 2 5` is the store of 5 in cell 2.
abbrev pub act_seen : Act → Meant CodeScript
act_seen acts.Tick = Meant.Ticked
act_seen (acts.Load c) = Meant.Load c
act_seen (acts.Store c v) = Meant.Store c (word_of v)
act_seen (acts.Fold c op v slot) = Meant.Folded c op (word_of v) slot
act_seen (acts.Create creation included) = Meant.Created (meant_order creation.order) included
act_seen acts.Await = Meant.Awaited
act_seen acts.Wait = Meant.Waited
act_seen (acts.WaitOn ranges) = Meant.WaitedOn (declared_on waited_for ranges)
act_seen (acts.Release clauses included) = Meant.Releases clauses included
act_seen (acts.Print key text) = Meant.Printed (unwritten key) text
act_seen acts.End = Meant.Ended
act_seen (acts.Fault kind line key) = Meant.Fault kind line (unwritten key)

-- The context in which the new task of a creation starts.
abbrev pub context_of : Creation → Context
context_of creation = creation.context

-- Beside a creation stands the context in which the new task starts, which the task with this context creates. Beside
-- no other act stands one.
abbrev pub HasContext : Context → Act → Type 0
HasContext x (acts.Create creation included) = creation.context ≡ child_context x creation.order.accesses creation.order.last
HasContext x _ = Unit {0}

-- There is no fault.
abbrev pub is_none : Option FaultKind → Bool
is_none None = true
is_none (Some kind) = false

-- A task with this context may make the act, as far as its counts tell: a tick has fuel, and a creation is neither too deep
-- nor one too many, and its task stands one deeper.
abbrev pub passed : Act → Context → Bool
passed acts.Tick x = is_none (tick_fault x)
passed (acts.Create creation included) x = is_none (create_fault x) && nat_eq creation.context.depth (suc x.depth)
passed _ x = true

-- The answer to an act, where a load finds this value: that value for a load, and else 0.
abbrev pub answer_to : Meant CodeScript → ℕ → ℕ
answer_to (Meant.Load c) v = v
answer_to _ v = 0

-- The act is no fault: a tick is none.
abbrev pub goes_on : Act → Bool
goes_on (acts.Fault kind line key) = false
goes_on _ = true

-- The act is the creation of a task that is not included.
abbrev pub creates : Act → Bool
creates (acts.Create creation false) = true
creates _ = false
