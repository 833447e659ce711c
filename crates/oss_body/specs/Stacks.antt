-- What is kept of all tasks of a body.
-- Read against: a final task that runs an included one is kept as the included one, and below it the final one.
use Rattle.std.specs.Prelude.{◌≡◌, ◌&&◌, ◌||◌, ℕ, Bool, true, false, not, List, [], ◌∷◌, ◌++◌}
use Rattle.oss_model.specs.Bodies.{Act as MeantAct, Created, Ended, Order, Frame as Meant, Stack, act_of, child_frame, including_frame, settled_stack, top_frame}
use Rattle.oss_model.specs.Rights.{Right}
use Rattle.oss_code.specs.declared.code.CodeParts.{CodeParts}
use Rattle.oss_machine.specs.Frames.{CodeScript}
use Rattle.oss_machine.specs.Machines.{asks}
use Rattle.oss_body.specs.declared.act.Act.{Act}
use Rattle.oss_body.specs.declared.act.Act.TheVariants as acts
use Rattle.oss_body.specs.Acts.{act_seen}
use Rattle.oss_body.specs.Places.{Framed as Frame}
use Rattle.oss_body.specs.declared.tasks.Tasks.{Tasks}
use Rattle.oss_body.specs.Kept.{kept}
use Rattle.oss_body.specs.Places.{Placed}

-- The body's own task and these above it, the newest last: of a body with two included tasks, three.
abbrev pub all_of : CodeParts → Meant CodeScript → List (Meant CodeScript) → List Frame
all_of code base [] = kept code base ∷ []
all_of code base (f ∷ fs) = all_of code base fs ++ kept code f ∷ []

-- The tasks below the newest: of a body whose own task acts, none.
abbrev pub rest_of : CodeParts → Meant CodeScript → List (Meant CodeScript) → List Frame
rest_of code base [] = []
rest_of code base (f ∷ fs) = all_of code base fs

-- What is kept of a body's tasks: the one that acts, those below it, and whether the body has ended.
abbrev pub kept_stack : CodeParts → Stack CodeScript → Tasks
kept_stack code s = record { top = kept code (top_frame s.base s.inner); below = rest_of code s.base s.inner; ended = s.ended }

-- The tasks of a body, the one that acts having included a new one.
abbrev pub including_parts : Order CodeScript → Meant CodeScript → List (Meant CodeScript) → Stack CodeScript
including_parts o base [] = record { base = including_frame o base; inner = child_frame base o ∷ []; ended = false }
including_parts o base (f ∷ fs) = record { base = base; inner = child_frame f o ∷ including_frame o f ∷ fs; ended = false }

-- A body, the task that acts having included a new one: then that one acts.
abbrev pub including : Order CodeScript → Stack CodeScript → Stack CodeScript
including o s = including_parts o s.base s.inner

-- Where the body's own task stands: of one that runs an included task, below that.
abbrev pub first_place : Frame → List Frame → Placed
first_place top [] = top.place
first_place top (f ∷ fs) = f.place

abbrev pub own_place : Tasks → Placed
own_place t = first_place t.top t.below

-- There is no task: below the one that acts where that is the body's own.
abbrev pub is_nil : List Frame → Bool
is_nil [] = true
is_nil (f ∷ fs) = false

-- The act leaves the task that acts the one that does, where this is alone or not: one that is not includes each task that it creates.
abbrev pub stays_on : MeantAct CodeScript → Bool → Bool
stays_on (Created order included) alone = not included && alone
stays_on Ended alone = false
stays_on _ alone = true

-- The act is a creation, and the new task is included: by a task that is final, or that is included itself.
abbrev pub includes_in : Act → Bool → Bool
includes_in (acts.Create creation included) alone = included || not alone
includes_in _ alone = false

-- The tasks behind an act, and the act that stands next, where the body stands so behind the first: before the next act asks are passed that are none.
-- Of a body that has ended there is no next act.
pub record IsFollowed (code : CodeParts) (slots : ℕ → Right) (s : Stack CodeScript) (t : Tasks) (next : Act) : Type 0 where
  pub over : t.ended ≡ true → t ≡ kept_stack code s
  pub on : t.ended ≡ false → t ≡ kept_stack code (settled_stack (asks code) s)
  pub act : t.ended ≡ false → act_seen next ≡ act_of (asks code) slots (settled_stack (asks code) s)
