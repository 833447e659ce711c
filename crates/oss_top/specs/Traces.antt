-- The trace of a program: the text that tells what its run by waves does, and the reply with it.
-- Read against: `int main() { return 7; }` has one wave, in which main ticks and ends, so its trace has the lines `# wave 1`, `step 0 2` and `# tasks 1 waves 1 widest 1`. Main in
-- `long x; int main() { x = 1 / x; }` has one wave too, in which it ticks and reads x; the trace tells of it, the status is Fault, and the error output has DivideByZero.
use Rattle.std.specs.Prelude.{◌≡◌, ℕ, List, map}
use Rattle.oss_syntax.specs.declared.tree.program.Program.{Program}
use Rattle.oss_wave_laws.specs.Rounds.{IsTrace, Line, Trace}
use Rattle.oss_wave_laws.specs.Rounds.Line.{join_line, let_line, step_line}
use Rattle.oss_meaning.specs.Meaning.{asks_of}
use Rattle.oss_meaning.specs.Results.{IsOutcomeOf, Outcome, first_cells, main_of}
use Rattle.oss_sched.specs.Traces.{trace_text}
use Rattle.oss_sched.specs.declared.moves.TextMove.{TextMove}
use Rattle.oss_sched.specs.declared.moves.TextMove.TheVariants.{Step, Let, Join}
use Rattle.oss_sched.specs.declared.moves.WaveRecord.{WaveRecord}
use Rattle.oss_top.specs.Forms.{trace_reply}
use Rattle.oss_top.specs.declared.reply.Reply.{Reply}

-- the move of a schedule that a line of a trace is
abbrev pub move_of : Line → TextMove
move_of (step_line point acts) = Step point acts
move_of (let_line point first count) = Let point first count
move_of (join_line point first count) = Join point first count

-- what is recorded of a run by waves with this trace
abbrev pub record_of : Trace → WaveRecord
record_of trace = record { waves = map (map move_of) trace.waves; tasks = trace.tasks; widest = trace.widest }

-- the text of a trace
abbrev pub text_of : Trace → List ℕ
text_of trace = trace_text (record_of trace)

-- the run by waves of the program, in which each task has so much fuel, has this trace
abbrev pub IsTraceOf : Program → ℕ → Trace → Type 0
IsTraceOf program fuel trace = IsTrace (asks_of program.items) (main_of program.items fuel) (first_cells program.items) trace

-- The reply to the trace of a program that breaks no rule, each task with so much fuel: the text of the trace of its run by waves, and a fault where its sequential run has one.
pub record IsTraceReply (fuel : ℕ) (program : Program) (reply : Reply) : Type 0 where
  pub trace : Trace
  pub is_trace : IsTraceOf program fuel trace
  pub outcome : Outcome
  pub is_outcome : IsOutcomeOf program.items fuel outcome
  pub is_reply : reply ≡ trace_reply (text_of trace) outcome.answer
