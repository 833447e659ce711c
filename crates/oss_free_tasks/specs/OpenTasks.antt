-- The open tasks of a sequential run: the one that acts, the one that created it, and so on to main. A task that is included stands before the one that
-- includes it, as one that is not stands before its creator; so nothing is told of bodies.
-- Read against: a main that creates a final task, which creates a task in its turn. While that one acts three tasks are open, though there are two bodies. At its
-- end the final task goes on, which first passes what it asks without an act; at the end of that one main does, which has passed it at the creation.
use Rattle.std.specs.Prelude.{◌≡◌, ◌<◌, ℕ, ◌-◌, false, true, if◌then◌else◌, List, [], ◌∷◌, ◌++◌, length}
use Rattle.oss_model.specs.Bodies.{Act, Body, Frame, Program, Start, after_creation, child_frame, frame_after, including_frame, settled_frame, stack_from}
use Rattle.oss_model.specs.Bodies.Act.{Created, Ended, Over}
use Rattle.oss_model.specs.Machine.{At, State, Task}
use Rattle.oss_model.specs.Moves.{act_now, opening}
use Rattle.oss_model.specs.Potential.{shares}
use Rattle.oss_model.specs.Sequence.{IsAtEnd, Running, RunsOn, Sequential}
use Rattle.oss_model.specs.Termination.{IsLively}

-- a task that has given up nothing, as all tasks of the sequential run
abbrev pub whole_task : {S : Type 0} → Body S → Task S
whole_task b = record { body = b; given = [] }

-- a body after one more answer
abbrev pub answered : {S : Type 0} → ℕ → Body S → Body S
answered v b = record { start = b.start; found = v ∷ b.found }

-- The task waits for the one at this path, which it created: it is the own task of its body, and includes none.
pub record IsCreator {S : Type 0} (P : Program S) (s : State S) (f : Frame S) (path : List ℕ) : Type 0 where
  pub body : Body S
  pub number : ℕ
  pub path_is : path ≡ number ∷ body.start.path
  pub at_ : At s body.start.path (whole_task body)
  pub stack : stack_from P body.start body.found ≡ record { base = f; inner = []; ended = false }
  pub goes : f.context.final ≡ false

-- These tasks, the newest first, wait for the one at this path: each is the creator of the one before it, and main is the last.
abbrev pub AreWaiting : {S : Type 0} → Program S → State S → List (Frame S) → List ℕ → Type 0
AreWaiting P s [] path = path ≡ []
AreWaiting P s (f ∷ older) path = (c : IsCreator P s f path) × AreWaiting P s older c.body.start.path

-- The run has come to a stage at which these tasks are open, the one that acts first, and memory is this: the body that runs has this own task and includes
-- these, and the others wait for it.
pub record Stands {S : Type 0} (P : Program S) (main : Start S) (first : List ℕ) (tasks : List (Frame S)) (cells : List ℕ) : Type 0 where
  pub stage : Running S
  pub run : Sequential P main first stage
  pub cells_are : stage.state.cells ≡ cells
  pub body : Body S
  pub at_ : At stage.state stage.active (whole_task body)
  pub base : Frame S
  pub inner : List (Frame S)
  pub older : List (Frame S)
  pub stack : stack_from P body.start body.found ≡ record { base = base; inner = inner; ended = false }
  pub parts : tasks ≡ inner ++ (base ∷ older)
  pub waiting : AreWaiting P stage.state older body.start.path

-- The run is at its beginning, with these open tasks.
pub record Begins {S : Type 0} (P : Program S) (main : Start S) (first : List ℕ) (tasks : List (Frame S)) (cells : List ℕ) : Type 0 where
  pub stands : Stands P main first tasks cells
  pub opens : stands.stage ≡ record { state = opening main first; active = []; printed = [] }

-- Behind the end of a task its creator is the first. One that has included the task passes now what it asks without an act.
abbrev pub behind_end : {S : Type 0} → Program S → List (Frame S) → List (Frame S)
behind_end P [] = []
behind_end P (g ∷ rest) = (if g.context.final then settled_frame P g else g) ∷ rest

-- The open tasks behind an act of the first of them, with this answer.
abbrev pub behind_act : {S : Type 0} → Program S → Act S → ℕ → Frame S → List (Frame S) → List (Frame S)
behind_act P Ended v f rest = behind_end P rest
behind_act P (Created o true) v f rest = settled_frame P (child_frame f o) ∷ including_frame o f ∷ rest
behind_act P (Created o false) v f rest = settled_frame P (child_frame f o) ∷ settled_frame P (after_creation o f) ∷ rest
behind_act P act v f rest = settled_frame P (frame_after act v f) ∷ rest

abbrev pub behind : {S : Type 0} → Program S → Act S → ℕ → List (Frame S) → List (Frame S)
behind P act v [] = []
behind P act v (f ∷ rest) = behind_act P act v f rest

-- An act leads from this stage of the run, with the tasks before it open, to the one at which these are, and less is left to do.
pub record Goes {S : Type 0} (P : Program S) (main : Start S) (first : List ℕ) (z : Running S) (before tasks : List (Frame S)) (cells : List ℕ) : Type 0 where
  pub stands : Stands P main first tasks cells
  pub runs : RunsOn P z stands.stage
  pub less : (lively : IsLively P) → shares lively tasks < shares lively before

-- An act leads from this stage of the run to its end: main has ended, and memory is this.
pub record Ends {S : Type 0} (P : Program S) (main : Start S) (first : List ℕ) (z : Running S) (cells : List ℕ) : Type 0 where
  pub stage : Running S
  pub run : Sequential P main first stage
  pub runs : RunsOn P z stage
  pub end : IsAtEnd P stage
  pub over : act_now P end.task.body ≡ Over
  pub cells_are : stage.state.cells ≡ cells

-- An act leads from this stage to the one at which these tasks are open; to the end where none is.
abbrev pub Leads : {S : Type 0} → Program S → Start S → List ℕ → Running S → List (Frame S) → List (Frame S) → List ℕ → Type 0
Leads P main first z before [] cells = Ends P main first z cells
Leads P main first z before (f ∷ rest) cells = Goes P main first z before (f ∷ rest) cells

-- How open tasks stand among each other

-- the path of the task that was created last
abbrev pub path_under : {S : Type 0} → List (Frame S) → List ℕ
path_under [] = []
path_under (g ∷ older) = (g.context.created - 1) ∷ g.path

-- A task stands as deep as there are open tasks behind it, has the fuel that all have, and is the newest child of the one behind it.
pub record IsNested {S : Type 0} (fuel : ℕ) (f : Frame S) (older : List (Frame S)) : Type 0 where
  pub fuel_is : f.context.fuel ≡ fuel
  pub depth : f.context.depth ≡ length older
  pub path : f.path ≡ path_under older

-- Each of these is.
abbrev pub AreNested : {S : Type 0} → ℕ → List (Frame S) → Type 0
AreNested fuel [] = Unit {0}
AreNested fuel (f ∷ rest) = IsNested fuel f rest × AreNested fuel rest
