-- How parallel a program can be at best: the ticks of its run, and a longest chain of events that each wait for the one before.
-- Read against: main creates four tasks that each declare another cell, with one tick each, and waits: the work is the ticks of all, and a longest chain goes from main's
-- first act over the creation of one of the tasks, its tick and its end to the wait and the end of main.
use Rattle.std.specs.Prelude.{◌≡◌, ◌<◌, ℕ, List, []}
use Rattle.oss_syntax.specs.declared.fault.FaultKind.{FaultKind}
use Rattle.oss_code.specs.declared.code.CodeParts.{CodeParts}
use Rattle.oss_machine.specs.Machines.{asks}
use Rattle.oss_meaning.specs.Results.{IsOutcome}
use Rattle.oss_model.specs.Bodies.{Program, Start}
use Rattle.oss_model.specs.Bodies.Act.{Over}
use Rattle.oss_model.specs.Moves.{act_now}
use Rattle.oss_model.specs.Sequence.{IsAtEnd, Running}
use Rattle.oss_model.specs.declared.answer.Answer.{Answer}
use Rattle.oss_model.specs.declared.answer.Answer.TheVariants as answers
use Rattle.oss_body.specs.Mains.{code_main}
use Rattle.oss_chain_laws.specs.Chains.{capped, ticks_in}
use Rattle.oss_chain_laws.specs.Happenings.{Happening}
use Rattle.oss_chain_laws.specs.Runs.{IsLongest, Ticks, ticks_at}
use Rattle.oss_span.specs.declared.link.Link.{Link}
use Rattle.oss_span.specs.declared.link.SpanRun.{SpanRun}
use Rattle.oss_span.specs.Links.{Unfolds}

-- The sequential run of a program gives this answer; where it ends, so many of its acts are ticks, and the links stand for a chain of its events with so many ticks, and no
-- chain has more. Where a fault stops it, both numbers are 0, and there is no link.
pub data Spans {S : Type 0} (P : Program S) (main : Start S) (cells : List ℕ) : Answer → ℕ → ℕ → List Link → Type 0 where
  done : {z : Running S} {chain : List Link} (work : ℕ) (events : List Happening) → Ticks P main cells z work → (end : IsAtEnd P z) → act_now P end.task.body ≡ Over → Unfolds P z.state chain events → IsLongest P z.state events
      → Spans P main cells (answers.Done z.printed z.state.cells) (capped work) (ticks_in (ticks_at P z.state) events) chain
  fails : {kind : FaultKind} {line : ℕ} {output : List ℕ} (tasks entries : ℕ) → IsOutcome P main cells (record { answer = answers.Fault kind line output; tasks = tasks; entries = entries }) → Spans P main cells (answers.Fault kind line output) 0 0 []

-- The run of a code, with this much fuel for each task.
abbrev pub IsSpanRun : CodeParts → ℕ → SpanRun → Type 0
IsSpanRun code fuel run = Spans (asks code) (code_main code fuel) code.first run.answer run.work run.span run.chain
