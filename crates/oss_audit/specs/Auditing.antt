-- An audit on its way: what is kept is right behind the acts that led to the stage of the run.
-- Read against: at the beginning no act has been made, main acts, and nothing is kept; where main has ended, the audit tells what main's list has; where a fault stands next, it tells of no cells.
use Rattle.std.specs.Prelude.{◌≡◌, ℕ, List, [], Result, Ok, Err}
use Rattle.std.specs.declared.alloc.AllocError.{AllocError}
use Rattle.oss_model.specs.Agreement.{Setting}
use Rattle.oss_model.specs.Bodies.{Act, Frame, Program}
use Rattle.oss_model.specs.Machine.{At, Task}
use Rattle.oss_model.specs.Sequence.{Running}
use Rattle.oss_model.specs.declared.answer.Answer.TheVariants as answers
use Rattle.oss_code.specs.declared.code.CodeParts.{CodeParts}
use Rattle.oss_machine.specs.Frames.{CodeScript}
use Rattle.oss_machine.specs.Machines.{asks}
use Rattle.oss_body.specs.Mains.{code_main}
use Rattle.oss_serial.specs.declared.stage.Stage.{Stage}
use Rattle.oss_serial.specs.Stages.{IsStage}
use Rattle.oss_audit.specs.declared.run.End.{End}
use Rattle.oss_audit.specs.declared.run.End.TheVariants as end
use Rattle.oss_audit.specs.declared.unused.AuditRun.{AuditRun}
use Rattle.oss_audit.specs.declared.unused.Unused.{Unused}
use Rattle.oss_audit.specs.declared.watch.Watch.{Watch}
use Rattle.oss_audit.specs.Following.{IsFollowing}
use Rattle.oss_audit.specs.Trails.{Declared, Place, Touched, place_of}
use Rattle.oss_audit.specs.Unused.{HasDeclared, HasTouched, IsAudited}
use Rattle.oss_body.specs.Acting.{acting}

-- Where a task stands: its path, and how many tasks it has created.
abbrev pub place_in : {S : Type 0} → Frame S → Place
place_in f = record { path = f.path; created = f.context.created }

-- The stage of the run is the one behind these acts: who acts there, and what was touched and declared.
pub record Follows {S : Type 0} (P : Program S) (z : Running S) (trail : List (Act S)) : Type 0 where
  pub place : (t : Task S) → At z.state z.active t → place_in (acting P t.body.start t.body.found) ≡ place_of trail
  pub touched : (q : List ℕ) (c : ℕ) → Touched trail q c → HasTouched P z.state q c
  pub all_touched : (q : List ℕ) (c : ℕ) → HasTouched P z.state q c → Touched trail q c
  pub declared : (q : List ℕ) (c : ℕ) → Declared trail q c → HasDeclared P z.state q c
  pub all_declared : (q : List ℕ) (c : ℕ) → HasDeclared P z.state q c → Declared trail q c

-- The kept stage is one of the run, and what is kept of tasks is right behind the acts that led there.
pub record IsAuditing (code : CodeParts) (fuel : ℕ) (s : Stage) (w : Watch) : Type 0 where
  pub setting : Setting (code_main code fuel) code.first
  pub is_stage : IsStage code (code_main code fuel) code.first s
  pub trail : List (Act CodeScript)
  pub follows : Follows (asks code) is_stage.stands.stage trail
  pub kept : IsFollowing trail w

-- What the audit tells, where the run has come to this end.
abbrev pub IsEndAudited : CodeParts → ℕ → Stage → Watch → End → Type 0
IsEndAudited code fuel s w end.Done = IsAudited (asks code) (code_main code fuel) code.first (answers.Done s.output.items s.cells.items) w.top.told.items
IsEndAudited code fuel s w (end.Fault kind line) = IsAudited (asks code) (code_main code fuel) code.first (answers.Fault kind line s.output.items) []

-- What an audit gives that has come to this end, where so much is told.
abbrev pub IsFinished : Result End AllocError → Stage → List Unused → AuditRun → Type 0
IsFinished (Ok end.Done) s told run = (run.answer ≡ answers.Done s.output.items s.cells.items) × (run.unused ≡ told)
IsFinished (Ok (end.Fault kind line)) s told run = (run.answer ≡ answers.Fault kind line s.output.items) × (run.unused ≡ [])
IsFinished (Err error) s told run = ⊥
