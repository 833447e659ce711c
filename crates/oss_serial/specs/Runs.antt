-- The sequential run of a code: main begins at its first instruction, with the cells of the code and so much fuel for each task.
-- Read against: of `Push 0, Return` alone with 3 cells and any fuel the answer is Done with no output and the cells as they are at the start, and there is one task.
use Rattle.std.specs.Prelude.{ℕ}
use Rattle.oss_meaning.specs.Results.{IsOutcome}
use Rattle.oss_code.specs.declared.code.CodeParts.{CodeParts}
use Rattle.oss_machine.specs.Machines.{asks}
use Rattle.oss_body.specs.Mains.{code_main}
use Rattle.oss_serial.specs.declared.run.Ran.{Ran}

-- The sequential run of the code, with this much fuel for each task, gives this answer and had so many tasks.
abbrev pub IsRan : CodeParts → ℕ → Ran → Type 0
IsRan code fuel ran = (entries : ℕ) × IsOutcome (asks code) (code_main code fuel) code.first (record { answer = ran.answer; tasks = ran.tasks; entries = entries })
