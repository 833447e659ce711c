-- The pass beside the sequential run of a code: at the beginning of both, and where the run has come to its end.
-- Read against: where main has one tick and ends, the run ends with what main has left, and what is then told of the pass, 1 tick in all and a chain of main's acts with 1, is
-- what the run spans; where main's first act is a fault, nothing is told of the pass.
use Rattle.std.specs.Prelude.{◌≡◌, ℕ, List, [], Result, Ok, Err}
use Rattle.std.specs.declared.alloc.AllocError.{AllocError}
use Rattle.oss_code.specs.declared.code.CodeParts.{CodeParts}
use Rattle.oss_machine.specs.Machines.{asks}
use Rattle.oss_model.specs.Agreement.{Setting}
use Rattle.oss_model.specs.declared.answer.Answer.{Answer}
use Rattle.oss_model.specs.declared.answer.Answer.TheVariants as answers
use Rattle.oss_body.specs.Mains.{code_main}
use Rattle.oss_serial.specs.declared.stage.Stage.{Stage}
use Rattle.oss_serial.specs.Stages.{IsFirstStage}
use Rattle.oss_span.specs.declared.beside.End.{End}
use Rattle.oss_span.specs.declared.beside.End.TheVariants as ends
use Rattle.oss_span.specs.declared.beside.Longest.{Longest}
use Rattle.oss_span.specs.declared.link.Link.{Link}
use Rattle.oss_span.specs.declared.link.SpanRun.{SpanRun}
use Rattle.oss_span.specs.declared.pass.Pass.{Pass}
use Rattle.oss_span.specs.Passes.{IsTold}
use Rattle.oss_span.specs.Spans.{Spans}

-- The run of the code stands at its first stage.
pub record IsAtBegin (code : CodeParts) (fuel : ℕ) (s : Stage) : Type 0 where
  pub setting : Setting (code_main code fuel) code.first
  pub is_first : IsFirstStage code (code_main code fuel) code.first s

-- The answer of a run that has come to this end at this stage.
abbrev pub answer_at : Stage → End → Answer
answer_at s ends.Done = answers.Done s.output.items s.cells.items
answer_at s (ends.Fault kind line) = answers.Fault kind line s.output.items

-- The run has come to this end, and the pass stands beside it: where main has ended, what is told of the pass is what the run spans, and where a fault stopped the run, no tick and no link is.
abbrev pub IsEndedBeside : CodeParts → ℕ → Stage → Pass → End → Type 0
IsEndedBeside code fuel s pass ends.Done =
    (ticks : ℕ) (links : List Link) → IsTold pass ticks links → Spans (asks code) (code_main code fuel) code.first (answers.Done s.output.items s.cells.items) pass.work ticks links
IsEndedBeside code fuel s pass (ends.Fault kind line) = Spans (asks code) (code_main code fuel) code.first (answers.Fault kind line s.output.items) 0 0 []

-- This is found where the run has come to this end beside the pass.
abbrev pub IsFound : Result End AllocError → Pass → Longest → Type 0
IsFound (Ok ends.Done) pass found = (found.end ≡ ends.Done) × (found.work ≡ pass.work) × IsTold pass found.span found.chain
IsFound (Ok (ends.Fault kind line)) pass found = (found.end ≡ ends.Fault kind line) × (found.work ≡ 0) × (found.span ≡ 0) × (found.chain ≡ [])
IsFound (Err error) pass found = ⊥

-- The answer at this stage stands beside what was found.
abbrev pub IsFinished : Stage → Result Longest AllocError → SpanRun → Type 0
IsFinished s (Ok found) run = (run.answer ≡ answer_at s found.end) × (run.work ≡ found.work) × (run.span ≡ found.span) × (run.chain ≡ found.chain)
IsFinished s (Err error) run = ⊥
