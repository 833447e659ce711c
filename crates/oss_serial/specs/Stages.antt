-- A stage of the sequential run as it is kept: the body that runs, those that wait for it, memory, output and the number of tasks; and what a turn makes of it.
-- Read against: a body that stands before a load goes on with the number in the cell; one that stands before a print of `x` goes on with 0, and `x` stands behind the output; one
-- that stands before a creation waits for the new task.
use Rattle.std.specs.Prelude.{◌≡◌, ◌<◌, ℕ, ◌+◌, ◌-◌, ◌^◌, min, false, List, [], ◌∷◌, ◌++◌, slice_index}
use Rattle.oss_model.specs.Bodies.{Body, Order, Start, child_start, stack_from, stage_act}
use Rattle.oss_model.specs.Bodies.Act.{Created, Fault}
use Rattle.oss_model.specs.Moves.{act_now, opening}
use Rattle.oss_model.specs.Sequence.{RunsOn}
use Rattle.oss_model.specs.declared.answer.Answer.TheVariants as answers
use Rattle.oss_meaning.specs.Results.{IsOutcome}
use Rattle.oss_syntax.specs.declared.fault.FaultKind.{FaultKind}
use Rattle.oss_code.specs.declared.code.CodeParts.{CodeParts}
use Rattle.oss_machine.specs.Frames.{CodeScript}
use Rattle.oss_machine.specs.Machines.{asks}
use Rattle.oss_body.specs.declared.act.Act.{Act}
use Rattle.oss_body.specs.declared.act.Act.TheVariants as acts
use Rattle.oss_body.specs.declared.body.Body.{Body as Kept}
use Rattle.oss_body.specs.Acts.{act_seen, answer_to}
use Rattle.oss_body.specs.Left.{body_left}
use Rattle.oss_body.specs.Relation.{IsBody, pending_of}
use Rattle.oss_serial.specs.declared.stage.Stage.{Stage}
use Rattle.oss_serial.specs.declared.stage.Turned.{Turned}
use Rattle.oss_serial.specs.declared.stage.Turned.TheVariants as turned
use Rattle.oss_serial.specs.declared.turn.Turn.{Turn}
use Rattle.oss_serial.specs.declared.turn.Turn.TheVariants as turns
use Rattle.oss_serial.specs.Turns.{Ends, Stands}

-- What comes of a body by its next act: it goes on with what a load finds, or with 0; it creates a task; or a fault stops it.
abbrev pub turn_of : Act → List ℕ → Turn
turn_of (acts.Load c) cells = turns.Goes (slice_index cells c)
turn_of (acts.Create creation false) cells = turns.Creates
turn_of (acts.Fault kind line key) cells = turns.Stops kind line
turn_of _ cells = turns.Goes 0

-- These kept bodies are these bodies, one by one.
abbrev pub AreBodies : CodeParts → List (Body CodeScript) → List Kept → Type 0
AreBodies code [] [] = Unit {0}
AreBodies code (b ∷ bs) (k ∷ ks) = IsBody code b.start b.found k × AreBodies code bs ks
AreBodies code _ _ = ⊥

-- The kept stage is one of the run of main over these first cells.
pub record IsStage (code : CodeParts) (main : Start CodeScript) (first : List ℕ) (s : Stage) : Type 0 where
  pub current : Body CodeScript
  pub above : List (Body CodeScript)
  pub is_current : IsBody code current.start current.found s.current
  pub are_above : AreBodies code above s.above
  pub stands : Stands (asks code) main first current above s.cells.items s.output.items s.tasks

-- The kept stage is the first one of the run.
pub record IsFirstStage (code : CodeParts) (main : Start CodeScript) (first : List ℕ) (s : Stage) : Type 0 where
  pub stage : IsStage code main first s
  pub opens : stage.stands.stage ≡ record { state = opening main first; active = []; printed = [] }

-- What is left to do

-- the bodies together
abbrev pub bodies_left : CodeParts → List Kept → ℕ
bodies_left code [] = 0
bodies_left code (b ∷ bs) = body_left code b + bodies_left code bs

-- What is left to do at a stage: a number that falls with each turn.
abbrev pub left_at : CodeParts → Stage → ℕ
left_at code s = body_left code s.current + bodies_left code s.above

-- The stage behind a stage of the run: an act of the run leads there, and there is less left to do.
pub record IsNext (code : CodeParts) (main : Start CodeScript) (first : List ℕ) (old : Stage) (was : IsStage code main first old) (new : Stage) : Type 0 where
  pub stage : IsStage code main first new
  pub runs : RunsOn (asks code) was.stands.stage stage.stands.stage
  pub less : left_at code new < left_at code old

-- The body that runs at the stage stands before a fault of this kind, on this line.
pub record StandsBeforeFault (code : CodeParts) (main : Start CodeScript) (first : List ℕ) (s : Stage) (is : IsStage code main first s) (kind : FaultKind) (line : ℕ) : Type 0 where
  pub key : List ℕ
  pub fault : act_now (asks code) is.current ≡ Fault kind line key

-- What a turn makes of a stage: the next one; or an act of the run leads to its end, where this is what it has; or the stage stands before a fault that stops the run, this is what it gives, and the body that runs stays.
abbrev pub IsTurned : (code : CodeParts) (main : Start CodeScript) (first : List ℕ) (old : Stage) → IsStage code main first old → Stage → Turned → Type 0
IsTurned code main first old was new turned.On = IsNext code main first old was new
IsTurned code main first old was new turned.Ended = Ends (asks code) main first was.stands.stage new.cells.items new.output.items new.tasks
IsTurned code main first old was new (turned.Failed kind line) =
    ((entries : ℕ) × IsOutcome (asks code) main first (record { answer = answers.Fault kind line new.output.items; tasks = new.tasks; entries = entries })) × ((new.current ≡ old.current) × StandsBeforeFault code main first old was kind line)

-- All but the bodies is as it was.
pub record IsBeside (old new : Stage) : Type 0 where
  pub cells : new.cells.items ≡ old.cells.items
  pub output : new.output.items ≡ old.output.items
  pub tasks : new.tasks ≡ old.tasks

-- The creator of the body goes on, or there is none.
abbrev pub IsUp : Stage → Stage → Turned → Type 0
IsUp old new turned.On = IsBeside old new × (old.above ≡ new.above ++ new.current ∷ [])
IsUp old new turned.Ended = IsBeside old new × (old.above ≡ [])
IsUp old new (turned.Failed kind line) = ⊥

-- The body with this start and these answers waits for a task that it has created, whose body runs, and there is one task more.
pub record IsDown (code : CodeParts) (start : Start CodeScript) (found : List ℕ) (old new : Stage) : Type 0 where
  pub creator : Kept
  pub is_creator : IsBody code start (answer_to (act_seen (pending_of old.current)) 0 ∷ found) creator
  pub is_child : (o : Order CodeScript) → stage_act (asks code) start found ≡ Created o false → IsBody code (child_start (stack_from (asks code) start found).base o) [] new.current
  pub above : new.above ≡ old.above ++ creator ∷ []
  pub cells : new.cells.items ≡ old.cells.items
  pub output : new.output.items ≡ old.output.items
  pub tasks : new.tasks ≡ min (old.tasks + 1) (2 ^ 64 - 1)
