-- A run of a code by one worker: what it gives.
-- Read against `long x, y, z;` and a main that creates 0.0 with out(x) priority(1), 0.1 with out(y) priority(5), 0.2 with in(x), which prints `a`, and 0.3 with out(z) priority(3):
-- the run gives the answer Done with the output `a`, the order 0, 0.1, 0.3, 0.0, 0.2, and five tasks.
use Rattle.std.specs.Prelude.{◌≡◌, ℕ, List, map}
use Rattle.oss_model.specs.declared.answer.Answer.{Answer}
use Rattle.oss_model.specs.Answers.{IsAnswer, IsResult, IsStopped}
use Rattle.oss_model.specs.Bodies.{Start}
use Rattle.oss_model.specs.Machine.{State}
use Rattle.oss_model.specs.Moves.{Reached}
use Rattle.oss_model.specs.Order.{written}
use Rattle.oss_wave_laws.specs.Rounds.{tasks_in}
use Rattle.oss_code.specs.declared.code.CodeParts.{CodeParts}
use Rattle.oss_machine.specs.Frames.{CodeScript}
use Rattle.oss_machine.specs.Machines.{asks}
use Rattle.oss_body.specs.Mains.{code_main}
use Rattle.oss_core.specs.Kept.{IsCore, Kept}
use Rattle.oss_prior_laws.specs.Turns.{RunsByTurns}

-- The core stands for some state in which no move may be made.
pub record IsFinal (code : CodeParts) (k : Kept) : Type 0 where
  pub main : Start CodeScript
  pub first : List ℕ
  pub state : State CodeScript
  pub core : IsCore code main first k state
  pub stopped : IsStopped (asks code) state

-- The code, where main starts with this much fuel for each task, has a run by turns with this answer, this order, and so many tasks at its end.
pub record IsSingleRun (code : CodeParts) (fuel : ℕ) (answer : Answer) (order : List (List ℕ)) (tasks : ℕ) : Type 0 where
  pub begun : List (List ℕ)
  pub state : State CodeScript
  pub runs : RunsByTurns (asks code) (code_main code fuel) code.first begun state
  -- no move is left at its end, which is a state of the machine
  pub reached : Reached (asks code) (code_main code fuel) code.first state
  pub stopped : IsStopped (asks code) state
  -- the answer is that of this state, and of the sequential run
  pub answer_is : IsAnswer (asks code) state answer
  pub result_is : IsResult (asks code) (code_main code fuel) code.first answer
  -- the order has the points of the tasks in the order of their first steps
  pub order_is : order ≡ map written begun
  -- and the tasks are those of this state
  pub tasks_are : tasks ≡ tasks_in state
