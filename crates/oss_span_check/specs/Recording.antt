-- A record on its way: it tells of the stage of the run.
-- Read against: at the beginning nothing is noted, main has done no act and nothing stands above it; where main has ended, the record tells of the state at the end.
use Rattle.std.specs.Prelude.{◌≡◌, ℕ, Bool, true, false, List, [], ◌∷◌, length, reverse}
use Rattle.oss_syntax.specs.declared.fault.FaultKind.{FaultKind}
use Rattle.oss_code.specs.declared.code.CodeParts.{CodeParts}
use Rattle.oss_machine.specs.Frames.{CodeScript}
use Rattle.oss_machine.specs.Machines.{asks}
use Rattle.oss_meaning.specs.Results.{IsOutcome}
use Rattle.oss_model.specs.Agreement.{Setting}
use Rattle.oss_model.specs.Bodies.Act.{Over}
use Rattle.oss_model.specs.Machine.{At, State, Task}
use Rattle.oss_model.specs.Moves.{act_now}
use Rattle.oss_model.specs.Sequence.{IsAtEnd, Running, Sequential}
use Rattle.oss_model.specs.declared.answer.Answer.TheVariants as answers
use Rattle.oss_body.specs.Mains.{code_main}
use Rattle.oss_serial.specs.declared.stage.Stage.{Stage}
use Rattle.oss_serial.specs.Stages.{IsStage}
use Rattle.oss_span_check.specs.declared.record.Record.{Record}
use Rattle.oss_span_check.specs.declared.watch.Watch.{Watch}
use Rattle.oss_span_check.specs.Records.{IsRecord}

-- The tasks above the one at this path, the nearest first, have done so many acts.
abbrev pub AreDone : {S : Type 0} → State S → List ℕ → List ℕ → Type 0
AreDone s [] [] = Unit {0}
AreDone s (k ∷ p) (n ∷ ns) = ((u : Task _) × At s p u × (n ≡ length u.body.found)) × AreDone s p ns
AreDone s _ _ = ⊥

-- What is kept beside the stage is right.
pub record IsRecording (code : CodeParts) (fuel : ℕ) (stage : Stage) (watch : Watch) : Type 0 where
  pub setting : Setting (code_main code fuel) code.first
  pub is_stage : IsStage code (code_main code fuel) code.first stage
  pub kept : IsRecord (asks code) is_stage.stands.stage.state watch.recorded
  pub acts : watch.acts ≡ length is_stage.current.found
  pub above : AreDone is_stage.stands.stage.state is_stage.stands.stage.active (reverse watch.above)

-- The run has come to its end, main being done, and the record tells of the state there.
pub record IsDoneRecord (code : CodeParts) (fuel : ℕ) (record_ : Record) : Type 0 where
  pub setting : Setting (code_main code fuel) code.first
  pub stage : Running CodeScript
  pub run : Sequential (asks code) (code_main code fuel) code.first stage
  pub end_ : IsAtEnd (asks code) stage
  pub over : act_now (asks code) end_.task.body ≡ Over
  pub kept : IsRecord (asks code) stage.state record_

-- A fault has stopped the run.
pub record IsStopped (code : CodeParts) (fuel : ℕ) : Type 0 where
  pub kind : FaultKind
  pub line : ℕ
  pub output : List ℕ
  pub tasks : ℕ
  pub entries : ℕ
  pub outcome : IsOutcome (asks code) (code_main code fuel) code.first (record { answer = answers.Fault kind line output; tasks = tasks; entries = entries })

-- What is known where the run is over: main is done, or a fault stopped it.
abbrev pub IsEndRecorded : CodeParts → ℕ → Record → Bool → Type 0
IsEndRecorded code fuel record_ true = IsDoneRecord code fuel record_
IsEndRecorded code fuel record_ false = IsStopped code fuel
