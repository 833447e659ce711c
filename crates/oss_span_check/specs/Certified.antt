-- What it is for links to be a chain of a program's run, with so many ticks.
-- Read against: main creates a task with one tick and waits. Of its run `acts 0 0 1`, `acts 0.0 0 2`, `acts 0 1 2` is a chain with one tick: main's creation, the tick and the end of 0.0, main's wait and end.
-- Without the link in the middle it is a chain with none, since a wait also waits for the act before it. No links are a chain with no ticks, of each run that ends; of a run that a fault stops nothing is one.
use Rattle.std.specs.Prelude.{◌≡◌, ℕ, List}
use Rattle.oss_code.specs.declared.code.CodeParts.{CodeParts}
use Rattle.oss_machine.specs.Machines.{asks}
use Rattle.oss_model.specs.Bodies.{Program, Start}
use Rattle.oss_model.specs.Bodies.Act.{Over}
use Rattle.oss_model.specs.Moves.{act_now}
use Rattle.oss_model.specs.Sequence.{IsAtEnd, Running, Sequential}
use Rattle.oss_body.specs.Mains.{code_main}
use Rattle.oss_chain_laws.specs.Chains.{ticks_in}
use Rattle.oss_chain_laws.specs.Happenings.{Happening}
use Rattle.oss_chain_laws.specs.Runs.{IsEventChain, ticks_at}
use Rattle.oss_span.specs.declared.link.Link.{Link}
use Rattle.oss_span.specs.Links.{Unfolds}

-- The sequential run of the program comes to its end, main being done, and the links stand for events of it, each of which waits for the one before it, and which have so many ticks.
-- A number of ticks stays at its greatest value.
pub record IsChainOf {S : Type 0} (P : Program S) (main : Start S) (cells : List ℕ) (chain : List Link) (ticks : ℕ) : Type 0 where
  pub stage : Running S
  pub run : Sequential P main cells stage
  pub end_ : IsAtEnd P stage
  pub over : act_now P end_.task.body ≡ Over
  pub events : List Happening
  pub unfolds : Unfolds P stage.state chain events
  pub is_chain : IsEventChain P stage.state events
  pub ticks_are : ticks_in (ticks_at P stage.state) events ≡ ticks

-- So it is with the run of a code, with this much fuel for each task.
abbrev pub IsCertified : CodeParts → ℕ → List Link → ℕ → Type 0
IsCertified code fuel chain ticks = IsChainOf (asks code) (code_main code fuel) code.first chain ticks
