-- When a kept body is the body of the definitions with a start, after some answers.
-- Read against: a body that has ended is kept with its end alone, and every other with the act that stands next.
use Rattle.std.specs.Prelude.{◌≡◌, ℕ, Bool, true, false, List, [], ◌∷◌, Some}
use Rattle.oss_syntax.specs.declared.access.Mode.TheVariants.{Fold}
use Rattle.oss_syntax.specs.declared.access.Op.{Op}
use Rattle.oss_model.specs.Rights.{Holds, is_released}
use Rattle.oss_model.specs.Context.{right_of}
use Rattle.oss_model.specs.Moves.{slot_of}
use Rattle.oss_model.specs.Bodies.{Start, stack_from, stage_act, top_frame}
use Rattle.oss_slots.specs.Slots.{fresh, slot_at}
use Rattle.oss_code.specs.declared.code.CodeParts.{CodeParts}
use Rattle.oss_machine.specs.Frames.{CodeScript}
use Rattle.oss_machine.specs.Machines.{asks}
use Rattle.oss_body.specs.declared.act.Act.{Act}
use Rattle.oss_body.specs.declared.body.Body.{Body}
use Rattle.oss_body.specs.declared.own.Own.{Own}
use Rattle.oss_body.specs.Acts.{HasContext, act_seen}
use Rattle.oss_body.specs.Places.{place_of}
use Rattle.oss_body.specs.Stacks.{kept_stack, own_place}

-- The act that is kept: the one that stands next, or the fault.
abbrev pub pending_of : Body → Act
pending_of b = b.act

-- The body has ended: its own task has.
abbrev pub is_over : Body → Bool
is_over b = b.tasks.ended

-- An act of the body is done.
abbrev pub has_begun : Body → Bool
has_begun b = b.begun

-- The body's task has the clause wait.
abbrev pub has_wait : Body → Bool
has_wait b = b.own.wait

-- The body's own task has released the cell.
abbrev pub released_by : Body → ℕ → Bool
released_by b c = is_released (right_of (own_place b.tasks).context c)

-- There is an answer: after a tick there is one.
abbrev pub is_some : List ℕ → Bool
is_some [] = false
is_some (v ∷ vs) = true

-- The kept body is that of this start after these answers, in this code. Of the answers nothing else is kept; of a body that has
-- ended nothing is told but that, its start, its slots, and the context of its own task.
pub record IsBody (code : CodeParts) (start : Start CodeScript) (found : List ℕ) (b : Body) : Type 0 where
  pub context : b.own.context ≡ start.context
  pub wait : b.own.wait ≡ start.order.wait
  pub priority : b.own.priority ≡ start.order.priority
  pub slots : (c : ℕ) (op : Op) → right_of start.context c ≡ Holds (Fold op) true → slot_at b.own.slots c ≡ Some (record { op = op; value = slot_of (asks code) start c op found })
  pub begun : b.begun ≡ is_some found
  pub place : own_place b.tasks ≡ place_of (stack_from (asks code) start found).base
  pub ended : b.tasks.ended ≡ (stack_from (asks code) start found).ended
  pub tasks : b.tasks.ended ≡ false → b.tasks ≡ kept_stack code (stack_from (asks code) start found)
  pub act : b.tasks.ended ≡ false → act_seen b.act ≡ stage_act (asks code) start found
  pub child : b.tasks.ended ≡ false → HasContext (top_frame (stack_from (asks code) start found).base (stack_from (asks code) start found).inner).context b.act

-- What is kept of the start of a body that has done nothing.
pub record HasStarted (start : Start CodeScript) (own : Own) : Type 0 where
  pub context : own.context ≡ start.context
  pub wait : own.wait ≡ start.order.wait
  pub priority : own.priority ≡ start.order.priority
  pub slots : (c : ℕ) (op : Op) → right_of start.context c ≡ Holds (Fold op) true → slot_at own.slots c ≡ Some (fresh op)
