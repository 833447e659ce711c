-- How the sequential run of a program ends, with the explanation of its fault.
-- Read against: a program without tasks and without a fault is done, and there is nothing to explain. `task out(x) x = 5; printf x` in main ends with the fault Lent on the line of the print,
-- and what is explained is that fault. Where it ends with `x = 1 << x` and 64 in x, what failed is a shift by 64; where it ends with Lent, nothing failed that is told beside.
use Rattle.std.specs.Prelude.{◌≡◌, ℕ, List, Option, None}
use Rattle.oss_syntax.specs.declared.fault.FaultKind.{FaultKind}
use Rattle.oss_syntax.specs.declared.tree.program.Item.{Item}
use Rattle.oss_model.specs.Bodies.{Frame, Program, Start}
use Rattle.oss_model.specs.Sequence.{IsAtEnd, Running, Sequential}
use Rattle.oss_model.specs.declared.answer.Answer.TheVariants as answers
use Rattle.oss_meaning.specs.Results.{IsOutcome}
use Rattle.oss_code.specs.declared.code.CodeParts.{CodeParts}
use Rattle.oss_machine.specs.declared.failure.Failure.{Failure}
use Rattle.oss_machine.specs.Failures.{failure_of}
use Rattle.oss_machine.specs.Frames.{CodeScript}
use Rattle.oss_machine.specs.Machines.{asks, machine_at}
use Rattle.oss_body.specs.Acting.{acting}
use Rattle.oss_body.specs.Mains.{code_main}
use Rattle.oss_explain.specs.declared.ending.Ending.{Ending}
use Rattle.oss_explain.specs.declared.ending.Ending.TheVariants as ending
use Rattle.oss_explain.specs.declared.ending.Finish.{Finish}
use Rattle.oss_explanation.specs.declared.explained.Explained.{Explained}
use Rattle.oss_explanation.specs.Explanations.{IsExplained}
use Rattle.oss_explain.specs.Ways.{entry_of}

-- The sequential run of the program, over these globals, ends so: it is done; or it comes to a fault of this kind on this line, and this explains it. Bodies begin at these spots.
pub data IsEnding {S : Type 0} (P : Program S) (spot : S → ℕ) (main : Start S) (first : List ℕ) (all : List Item) : Ending → Type 0 where
  done : {output cells : List ℕ} {tasks entries : ℕ} → IsOutcome P main first (record { answer = answers.Done output cells; tasks = tasks; entries = entries })
      → IsEnding P spot main first all ending.Done
  fault : {kind : FaultKind} {line : ℕ} {e : Explained} (is : IsExplained P spot main first all e) → is.kind ≡ kind → is.line ≡ line → IsEnding P spot main first all (ending.Fault kind line e)

-- The sequential run of the code, with this much fuel for each task, ends so.
abbrev pub IsEndingOf : CodeParts → ℕ → List Item → Ending → Type 0
IsEndingOf code fuel all e = IsEnding (asks code) entry_of (code_main code fuel) code.first all e

-- what failed where this task of a code stands before a failure
abbrev pub failed_in : CodeParts → Frame CodeScript → Option Failure
failed_in code f = failure_of code (machine_at code f.script f.answers)

-- The sequential run of the code, with this much fuel for each task, comes to its end, and this failed there in the task that acts.
pub record IsFailureOf (code : CodeParts) (fuel : ℕ) (failure : Option Failure) : Type 0 where
  pub stage : Running CodeScript
  pub run : Sequential (asks code) (code_main code fuel) code.first stage
  pub end : IsAtEnd (asks code) stage
  pub is : failure ≡ failed_in code (acting (asks code) end.task.body.start end.task.body.found)

-- This failed in a run of the code that ends so: nothing in one that is done.
abbrev pub IsFailureIn : CodeParts → ℕ → Ending → Option Failure → Type 0
IsFailureIn code fuel ending.Done failure = failure ≡ None
IsFailureIn code fuel (ending.Fault kind line e) failure = IsFailureOf code fuel failure

-- The sequential run of the code, with this much fuel for each task, ends so, and this failed.
pub record IsFinishOf (code : CodeParts) (fuel : ℕ) (all : List Item) (f : Finish) : Type 0 where
  pub ending : IsEndingOf code fuel all f.ending
  pub failure : IsFailureIn code fuel f.ending f.failure
