-- What runs give of a program: the answer and the number of tasks of its outcome, and what its run by waves does.
-- Read against: of `int main() { }` the answer is Done with nothing and no cells, and there is one task; its run by waves has one wave, in which main does one act.
use Rattle.std.specs.Prelude.{◌≡◌, ℕ, List}
use Rattle.oss_syntax.specs.declared.tree.program.Item.{Item}
use Rattle.oss_syntax.specs.declared.tree.program.Program.{Program}
use Rattle.oss_model.specs.declared.answer.Answer.{Answer}
use Rattle.oss_model.specs.declared.answer.Answer.TheVariants.{Done, Fault}
use Rattle.oss_wave_laws.specs.Rounds.{Trace}
use Rattle.oss_meaning.specs.Results.{IsOutcomeOf, Outcome}
use Rattle.oss_serial.specs.declared.run.Ran.{Ran}
use Rattle.oss_sched.specs.declared.moves.WaveRecord.{WaveRecord}
use Rattle.oss_top.specs.Traces.{IsTraceOf, record_of}

-- what the sequential run gives
pub record IsRanOf (all : List Item) (fuel : ℕ) (ran : Ran) : Type 0 where
  pub outcome : Outcome
  pub is_outcome : IsOutcomeOf all fuel outcome
  pub answer : ran.answer ≡ outcome.answer
  pub tasks : ran.tasks ≡ outcome.tasks

-- the program came to its end
abbrev pub IsDone : Answer → Type 0
IsDone (Done text cells) = Unit {0}
IsDone (Fault kind line text) = ⊥

-- What the run by waves gives. Where the program comes to its end there are as many tasks as in its sequential run; where it does not, some may be there that the sequential run does not come to.
pub record AreWavesOf (program : Program) (fuel : ℕ) (answer : Answer) (waves : WaveRecord) : Type 0 where
  pub outcome : Outcome
  pub is_outcome : IsOutcomeOf program.items fuel outcome
  pub answer_is : answer ≡ outcome.answer
  pub trace : Trace
  pub is_trace : IsTraceOf program fuel trace
  pub recorded : waves ≡ record_of trace
  pub tasks : IsDone outcome.answer → waves.tasks ≡ outcome.tasks

-- what a run gives in either mode
pub record IsRanBy (program : Program) (fuel : ℕ) (ran : Ran) : Type 0 where
  pub outcome : Outcome
  pub is_outcome : IsOutcomeOf program.items fuel outcome
  pub answer : ran.answer ≡ outcome.answer
  pub tasks : IsDone outcome.answer → ran.tasks ≡ outcome.tasks
