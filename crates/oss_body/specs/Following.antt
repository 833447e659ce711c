-- How the tasks of a body go on behind what has happened, and what is told then.
-- Read against: behind the store of main that prints next, main acts still, and the print is told, with main's key; behind the end of an included
-- task the one that has included it acts, and its next act is told; where memory is wanting nothing has changed.
use Rattle.std.specs.Prelude.{◌≡◌, ℕ, true, List, Option, Result, IfOk, OnOk, OnErr}
use Rattle.std.specs.declared.alloc.AllocError.{AllocError}
use Rattle.oss_code.specs.declared.code.CodeParts.{CodeParts}
use Rattle.oss_machine.specs.Asks.{meant_order}
use Rattle.oss_machine.specs.Frames.{CodeScript}
use Rattle.oss_model.specs.Bodies.{Ended, Stack, stack_after, top_frame}
use Rattle.oss_model.specs.Context.{Context, child_context, right_of}
use Rattle.oss_body.specs.declared.act.Act.{Act}
use Rattle.oss_body.specs.declared.act.Creation.{Creation}
use Rattle.oss_body.specs.declared.tasks.Tasks.{Tasks}
use Rattle.oss_body.specs.Acts.{HasContext, act_seen, answer_to, passed}
use Rattle.oss_body.specs.Places.{IsKey}
use Rattle.oss_body.specs.Stacks.{IsFollowed, including, kept_stack}

-- The tasks, and the act that stands next, are those behind this act of a body that stands so, whose answer was this one. A creation has the context
-- that the task that acts gives.
abbrev pub BehindAnswer : Act → ℕ → CodeParts → Context → Stack CodeScript → Tasks → Act → Type 0
BehindAnswer act v code own s t next =
    HasContext (top_frame s.base s.inner).context act → IsFollowed code (right_of own) (stack_after (act_seen act) v s.base s.inner) t next

-- The same where a load found this value.
abbrev pub BehindAct : Act → ℕ → CodeParts → Context → Stack CodeScript → Tasks → Act → Type 0
BehindAct act loaded = BehindAnswer act (answer_to (act_seen act) loaded)

-- The same behind the creation of an included task, which acts next.
abbrev pub BehindCreation : Creation → CodeParts → Context → Stack CodeScript → Tasks → Act → Type 0
BehindCreation creation code own s t next =
    creation.context ≡ child_context (top_frame s.base s.inner).context creation.order.accesses creation.order.last
    → IsFollowed code (right_of own) (including (meant_order creation.order) s) t next

-- The same behind the end of the task that acts.
abbrev pub BehindEnd : CodeParts → Context → Stack CodeScript → Tasks → Act → Type 0
BehindEnd code own s t next = IsFollowed code (right_of own) (stack_after Ended 0 s.base s.inner) t next

-- The tasks of a body go on behind what has happened, and an act is told, or memory is wanting. `own` has the rights with which the body's own task
-- started, and `point` is the key that is kept then.
pub record IsFollowing (Behind : CodeParts → Context → Stack CodeScript → Tasks → Act → Type 0) (code : CodeParts) (own : Context) (old new : Tasks)
    (point : Option (List ℕ)) (result : Result Act AllocError) : Type 0 where
  -- Of each body that stood as the tasks did, the tasks, and the act that is told, are those behind what has happened.
  pub followed : IfOk result (λ next. (s : Stack CodeScript) → old ≡ kept_stack code s → Behind code own s new next)
  -- The task that acts then may make the act that is told, as far as its counts tell.
  pub passed : IfOk result (λ next. passed next new.top.place.context ≡ true)
  -- Beside a creation stands the context in which the new task starts.
  pub child : IfOk result (λ next. HasContext new.top.place.context next)
  -- A key that is kept is that of the task that acts then.
  pub key : OnOk result (IsKey point new.top.place)
  -- Where memory is wanting the tasks stay.
  pub err : OnErr result (new ≡ old)
