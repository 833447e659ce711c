-- How main starts: it begins at the first instruction of its code, with the cells of the code and so much fuel for each task.
-- Read against: main of a code with 3 cells may write each of them, has the path [], and runs what stands at instruction 0.
use Rattle.std.specs.Prelude.{ℕ, true, false, [], length, pos}
use Rattle.oss_model.specs.Agreement.{main_start}
use Rattle.oss_model.specs.Bodies.{Order, Start}
use Rattle.oss_code.specs.declared.code.CodeParts.{CodeParts}
use Rattle.oss_machine.specs.Frames.{CodeScript}

-- what main is to run: it begins at the first instruction, and no clause says anything of it
abbrev pub main_order : Order CodeScript
main_order = record { script = record { entry = 0; copies = [] }; clauses = []; when = true; last = false; wait = false; priority = pos 0 }

-- how main starts, with this much fuel
abbrev pub code_main : CodeParts → ℕ → Start CodeScript
code_main code fuel = main_start main_order (length code.first) fuel
