-- A wave as a core makes it: the bodies of the tasks that may act go out, their parts come back, and are put in one after the other, in point order.
-- Read against: tasks 1 and 2, which may both act, and main, which waits. Their bodies go out, others stand in their places meanwhile; the core is as before if each
-- body is thought back into its place. Task 1 has stored 5 in x, and ended: then x is 5, and the tree knows that it has ended; the body of task 2 is still out.
use Rattle.std.specs.Prelude.{◌≡◌, ◌≤◌, ℕ, ◌-◌, ◌^◌, min, List, [], ◌∷◌, ◌++◌, length, map}
use Rattle.oss_model.specs.Order.{IsIn, written}
use Rattle.oss_model.specs.Bodies.{Start}
use Rattle.oss_model.specs.Machine.{State}
use Rattle.oss_model.specs.declared.task_no.TaskNo.{TaskNo}
use Rattle.oss_wave_laws.specs.Alone.{IsInWave}
use Rattle.oss_wave_laws.specs.Waves as waves
use Rattle.oss_wave_laws.specs.Waves.{IsTurn, IsWave, TakeTurns}
use Rattle.oss_code.specs.declared.code.CodeParts.{CodeParts}
use Rattle.oss_machine.specs.Frames.{CodeScript}
use Rattle.oss_machine.specs.Machines.{asks}
use Rattle.oss_body.specs.declared.body.Body.{Body}
use Rattle.oss_body.specs.Relation.{IsBody}
use Rattle.oss_tree.specs.declared.task.Task.{Task as TreeTask}
use Rattle.oss_tree.specs.Tasks.{HasPoint}
use Rattle.oss_segment.specs.declared.segment.Segment.{Segment}
use Rattle.oss_segment.specs.Segments.{IsKnown, IsSegment}
use Rattle.oss_kept_tasks.specs.declared.held.Held.{Held}
use Rattle.oss_core.specs.declared.turns.Turn.{Turn}
use Rattle.oss_core.specs.Kept.{IsCore, Kept}
use Rattle.oss_core.specs.Leaving.{HaveTurned}
use Rattle.oss_core.specs.Putting.{HasBody}
use Rattle.oss_core.specs.Steppers.{AreSteppers}

-- The part is that of the body over this memory, whatever task it is the body of.
abbrev pub IsPartOf : CodeParts → List ℕ → Body → Segment → Type 0
IsPartOf code memory body part = (start : Start CodeScript) (found : List ℕ) → IsBody code start found body → IsSegment code start found memory 4096 body part

-- The same, one by one.
abbrev pub ArePartsOf : CodeParts → List ℕ → List Body → List Segment → Type 0
ArePartsOf code memory [] [] = Unit {0}
ArePartsOf code memory (b ∷ bs) (s ∷ ss) = IsPartOf code memory b s × ArePartsOf code memory bs ss
ArePartsOf code memory [] (s ∷ ss) = ⊥
ArePartsOf code memory (b ∷ bs) [] = ⊥

-- The second list is the first with these bodies thought back into the places of these tasks.
abbrev pub IsFilled : List TaskNo → List Body → List Held → List Held → Type 0
IsFilled [] [] tasks filled = filled ≡ tasks
IsFilled (v ∷ vs) (b ∷ bs) tasks filled = (mid : List Held) × IsFilled vs bs tasks mid × HasBody v.0 b mid filled
IsFilled [] (b ∷ bs) tasks filled = ⊥
IsFilled (v ∷ vs) [] tasks filled = ⊥

-- What a core keeps, with these tasks.
abbrev pub with_held : List Held → Kept → Kept
with_held tasks k = record { tasks = tasks; tree = k.tree; seen = k.seen; cells = k.cells }

-- All but the bodies of its tasks is as it was.
pub record IsBeside (old new : Kept) : Type 0 where
  pub tree : new.tree ≡ old.tree
  pub seen : new.seen ≡ old.seen
  pub cells : new.cells ≡ old.cells

-- The bodies of the tasks that may act have gone out: with these, the core is as it was. Each is a body, after some answers, of a task of the code.
pub record HasLent (code : CodeParts) (old new : Kept) (steppers : List TaskNo) (bodies : List Body) : Type 0 where
  pub are_steppers : AreSteppers old steppers
  pub filled : IsFilled steppers bodies new.tasks old.tasks
  pub beside : IsBeside old new
  pub known : (b : Body) → IsIn b bodies → IsKnown code b

-- What was told of a turn is that turn: the task by its number and by its path, and its acts. The number of acts stays at its greatest value.
pub record IsTold (tasks : List TreeTask) (one : Turn) (turn : waves.Turn) : Type 0 where
  pub point : HasPoint tasks one.task.0 (written turn.path)
  pub acts : one.acts ≡ min turn.acts (2 ^ 64 - 1)

-- The same, one by one.
abbrev pub AreTold : List TreeTask → List Turn → List waves.Turn → Type 0
AreTold tasks [] [] = Unit {0}
AreTold tasks (one ∷ more) (turn ∷ rest) = IsTold tasks one turn × AreTold tasks more rest
AreTold tasks [] (turn ∷ rest) = ⊥
AreTold tasks (one ∷ more) [] = ⊥

-- Each task keeps its point.
abbrev pub KeepsPoints : List TreeTask → List TreeTask → Type 0
KeepsPoints old new = (v : ℕ) (q : List ℕ) → HasPoint old v q → HasPoint new v q

-- The tasks of the tree are there later, with their points.
pub record KeepsTasks (old new : List TreeTask) : Type 0 where
  pub points : KeepsPoints old new
  pub more : length old ≤ length new

-- A wave was made from each state for which the core stood before, to one for which it stands after; and these were its turns.
abbrev pub HasWaved : CodeParts → Kept → Kept → List Turn → Type 0
HasWaved code old new told = (main : Start CodeScript) (first : List ℕ) (s : State CodeScript) → IsCore code main first old s
    → (n : State CodeScript) × (turns : List waves.Turn) × IsWave (asks code) s turns n × AreTold old.tree.tasks told turns × IsCore code main first new n

-- The bodies are out since the core kept what stood before, and these are their parts over its memory.
pub record AwaitsParts (code : CodeParts) (before k : Kept) (steppers : List TaskNo) (parts : List Segment) : Type 0 where
  pub main : Start CodeScript
  pub first : List ℕ
  pub state : State CodeScript
  pub core : IsCore code main first before state
  pub bodies : List Body
  pub lent : HasLent code before k steppers bodies
  pub parts_are : ArePartsOf code before.cells bodies parts

-- In the midst of a wave that began where the core kept what stood before: the parts of some of the tasks that may act are put in, and those of these are left.
pub record Midway (code : CodeParts) (main : Start CodeScript) (first : List ℕ) (s : State CodeScript) (before : Kept) (all left : List TaskNo) (parts : List Segment) (told : List Turn) (k : Kept) : Type 0 where
  pub begun : IsCore code main first before s
  pub steppers : AreSteppers before all
  pub split : map (λ (t : Turn). t.task) told ++ left ≡ all
  -- the bodies that are out, and the tasks with these in their places
  pub bodies : List Body
  pub parts_are : ArePartsOf code before.cells bodies parts
  pub filled : List Held
  pub filled_is : IsFilled left bodies k.tasks filled
  -- the state for which the core would stand with them, which is one of the wave
  pub state : State CodeScript
  pub core : IsCore code main first (with_held filled k) state
  pub alone : List ℕ → State CodeScript
  pub wave : IsInWave (asks code) s alone state
  -- the tasks whose parts are left have not acted
  pub ahead : (v : TaskNo) → IsIn v left → (p : List ℕ) → HasPoint before.tree.tasks v.0 (written p) → alone p ≡ s
  pub points : KeepsPoints before.tree.tasks k.tree.tasks
  -- the turns so far
  pub turns : List waves.Turn
  pub taken : TakeTurns (asks code) s turns state
  pub turns_are : (turn : waves.Turn) → IsIn turn turns → IsTurn (asks code) s turn
  pub told_are : AreTold before.tree.tasks told turns
  -- what they leave
  pub leaves : HaveTurned told before (with_held filled k)

-- In the midst of some wave.
pub record IsMidway (all left : List TaskNo) (parts : List Segment) (told : List Turn) (k : Kept) : Type 0 where
  pub code : CodeParts
  pub main : Start CodeScript
  pub first : List ℕ
  pub s : State CodeScript
  pub before : Kept
  pub midway : Midway code main first s before all left parts told k
