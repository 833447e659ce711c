-- The free run, and what is known of its tasks at each stage.
-- Read against: of a main that creates a task without clauses, which stores into x, it is known behind the store that the task, at the path 0, has asked a store of x. That it awaits the end of a task is no ask.
use Rattle.std.specs.Prelude.{◌≡◌, ℕ, if◌then◌else◌, List, [], length}
use Rattle.oss_model.specs.Bodies.{Frame, Program, Start, ask_of, stack_from, top_frame}
use Rattle.oss_model.specs.Machine.{At, Task}
use Rattle.oss_model.specs.Moves.{opening}
use Rattle.oss_model.specs.Sequence.{Running, RunsOn}
use Rattle.oss_freed.specs.Freed.{freed}
use Rattle.oss_lacks.specs.Asking.{Asking, behind_ask, main as main_asking, tell_creator}
use Rattle.oss_lacks.specs.Nests.{Nest, all_closed, alone}

-- The task that acts at a stage, which may be one that is included in another's body.
pub record IsActing {S : Type 0} (P : Program S) (z : Running S) (f : Frame S) : Type 0 where
  pub task : Task S
  pub at_ : At z.state z.active task
  pub acts : top_frame (stack_from P task.body.start task.body.found).base (stack_from P task.body.start task.body.found).inner ≡ f

-- What is known behind the act of this task. The program's own asks count, clauses and all.
abbrev pub behind : {S : Type 0} → Program S → Frame S → Nest Asking → Nest Asking
behind P f n = if f.awaits then n else behind_ask f (ask_of P f).ask (ask_of P f).line n

-- The free run comes to this stage, and this is known of its tasks.
pub data Walks {S : Type 0} (P : Program S) (main : Start S) (first : List ℕ) : Running S → Nest Asking → Type 0 where
  opens : Walks P main first (record { state = opening main first; active = []; printed = [] }) (alone main_asking)
  runs_on : {z y : Running S} {f : Frame S} {n : Nest Asking} → Walks P main first z n → IsActing (freed (length first) P) z f → RunsOn (freed (length first) P) z y → Walks P main first y (behind P f n)

-- Where the run stops, those that are open count as ended there.
abbrev pub at_stop : Nest Asking → Nest Asking
at_stop n = all_closed tell_creator n
