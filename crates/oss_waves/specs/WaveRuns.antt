-- A run by waves of a code: what it gives.
-- Read against `long x, y;` and a `main` that creates a task with out(x) that stores 5, and one with in(x) out(y) that stores x + 1, waits and prints y. Whatever the
-- number of workers is, the run gives the answer Done with the output `6` and the cells 5, 6; its waves are `step 0 5`; `step 0.0 3`, `let 0.0 0 1`; `step 0.1 4`,
-- `let 0.1 0 2`; `step 0 5`; it had three tasks, and one stepped in each wave. The dependency system has two tasks that were opened, and each has given up its cells.
use Rattle.std.specs.Prelude.{◌≡◌, ℕ, List, map}
use Rattle.oss_model.specs.declared.answer.Answer.{Answer}
use Rattle.oss_model.specs.Answers.{IsAnswer, IsResult}
use Rattle.oss_model.specs.Machine.{State}
use Rattle.oss_wave_laws.specs.Rounds.{Line, step_line, let_line, join_line, Round, RunsByWaves, Trace, trace_of}
use Rattle.oss_code.specs.declared.code.CodeParts.{CodeParts}
use Rattle.oss_machine.specs.Frames.{CodeScript}
use Rattle.oss_machine.specs.Machines.{asks}
use Rattle.oss_body.specs.Mains.{code_main}
use Rattle.oss_deps.specs.Seen.{Seen}
use Rattle.oss_core.specs.Kept.{IsCore, Kept}
use Rattle.oss_sched.specs.declared.moves.TextMove.{TextMove}
use Rattle.oss_sched.specs.declared.moves.TextMove.TheVariants.{Step, Let, Join}
use Rattle.oss_sched.specs.declared.moves.WaveRecord.{WaveRecord}

-- The line of a trace that a move is.
abbrev pub line_of : TextMove → Line
line_of (Step point acts) = step_line point acts
line_of (Let point first count) = let_line point first count
line_of (Join point first count) = join_line point first count

-- The lines of a wave and the passes behind it.
abbrev pub lines_of : List TextMove → List Line
lines_of moves = map line_of moves

-- The trace that the record of a run tells.
abbrev pub trace_in : WaveRecord → Trace
trace_in told = record { waves = map lines_of told.waves; tasks = told.tasks; widest = told.widest }

-- The code, where main starts with this much fuel for each task, has a run by waves with this answer and this record, behind which the dependency system is seen so.
pub record IsWaveRun (code : CodeParts) (fuel : ℕ) (seen : Seen) (answer : Answer) (waves : WaveRecord) : Type 0 where
  pub rounds : List Round
  pub state : State CodeScript
  pub runs : RunsByWaves (asks code) (code_main code fuel) code.first rounds state
  -- the answer is that of the state at its end, and of the sequential run
  pub answer_is : IsAnswer (asks code) state answer
  pub result_is : IsResult (asks code) (code_main code fuel) code.first answer
  -- the record tells of its trace
  pub trace_is : trace_in waves ≡ trace_of rounds state
  -- and there the core stands
  pub kept : Kept
  pub core : IsCore code (code_main code fuel) code.first kept state
  pub seen_is : kept.seen ≡ seen
