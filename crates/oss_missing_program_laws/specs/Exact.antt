-- Nothing is told of the clauses of a program exactly if its own run ends without a fault of annotations.
-- Read against: a main that creates a task with `out(x)`, which stores 1 into x, then waits and prints x. Of no task is a clause told, and no line is; the program's run ends, with `1` printed. Without the wait main is told that one is missing before the print, and the run stands there before
-- Lent. With `in(x)` the task is told that it lacks `out(x)`, and the run stands before NoRight at its store. If the task divides by 0 behind the store, nothing is told of clauses, and the fault is told: it is that of the program's run, on the same line.
use Rattle.std.specs.Prelude.{◌≡◌, ◌↔◌, ℕ, List, [], ◌∷◌, Option, Some, None}
use Rattle.oss_syntax.specs.declared.tree.program.Item.{Item}
use Rattle.oss_syntax.specs.declared.tree.program.Program.{Program as Tree}
use Rattle.oss_grammar.specs.Parsing.{IsProgramText}
use Rattle.oss_grammar.specs.TaskLoops.{program_written}
use Rattle.oss_model.specs.declared.answer.Answer.{Answer}
use Rattle.oss_model.specs.declared.answer.Answer.TheVariants as answers
use Rattle.oss_meaning.specs.Meaning.{asks_of}
use Rattle.oss_meaning.specs.Results.{IsOutcomeOf, Outcome, first_cells, main_of}
use Rattle.oss_code.specs.declared.code.CodeParts.{CodeParts}
use Rattle.oss_machine.specs.Machines.{asks}
use Rattle.oss_lower_laws.specs.Lowered.{IsLowered}
use Rattle.oss_lower_laws.specs.Programs.{IsCodeOf, code_start}
use Rattle.oss_missing_lines.specs.declared.missing.Missing.{Missing}
use Rattle.oss_missing_lines.specs.declared.missing.RunFault.{RunFault}
use Rattle.oss_missing_lines.specs.declared.missing.TaskMissing.{TaskMissing}
use Rattle.oss_missing_laws.specs.Missing.{EndsWell}
use Rattle.oss_missing.specs.Missing.{IsMissing}

-- Of the task no clause is told to be lacking, beside its clauses or in place of them, and no line is told.
pub record IsTaskToldNothing (k : TaskMissing) : Type 0 where
  pub lacks : k.lacks ≡ []
  pub wants : k.wants ≡ []
  pub late : k.late ≡ []

-- So it is with each of these tasks.
abbrev pub AreToldNothing : List TaskMissing → Type 0
AreToldNothing [] = Unit {0}
AreToldNothing (k ∷ ks) = IsTaskToldNothing k × AreToldNothing ks

-- Nothing is told of any task, main among them.
abbrev pub IsToldNothing : Missing → Type 0
IsToldNothing m = AreToldNothing m.tasks

-- What is told of the program as which a text is accepted, each task loop in it written out, is nothing exactly if the sequential run of the program comes to an end, and to no fault of annotations.
abbrev pub NothingIsToldExactly : Type 0
NothingIsToldExactly = (text : List ℕ) (p : Tree) → IsProgramText text p → (code : CodeParts) → IsLowered (program_written p).items code
    → (fuel : ℕ) (m : Missing) → IsMissing code fuel (program_written p).items m
    → IsToldNothing m ↔ EndsWell (asks_of (program_written p).items) (main_of (program_written p).items fuel) (first_cells (program_written p).items)

-- The answer is what the fault says, or that main has ended where there is none.
abbrev pub IsFaultOf : Option RunFault → Answer → Type 0
IsFaultOf None (answers.Done output cells) = Unit {0}
IsFaultOf (Some f) (answers.Fault kind line output) = (f.kind ≡ kind) × (f.line ≡ line)
IsFaultOf _ _ = ⊥

-- Where nothing is told, the fault that is told, or that there is none, is that of each outcome of the program's own run.
abbrev pub ToldFaultsAreOwn : Type 0
ToldFaultsAreOwn = (text : List ℕ) (p : Tree) → IsProgramText text p → (code : CodeParts) → IsLowered (program_written p).items code
    → (fuel : ℕ) (m : Missing) → IsMissing code fuel (program_written p).items m → IsToldNothing m
    → (o : Outcome) → IsOutcomeOf (program_written p).items fuel o → IsFaultOf m.fault o.answer

-- The run of a program and that of a code of it end without a fault of annotations, or neither does.
abbrev pub CodesEndWellAlike : Type 0
CodesEndWellAlike = (all : List Item) (code : CodeParts) → IsCodeOf all code → (fuel : ℕ)
    → EndsWell (asks_of all) (main_of all fuel) (first_cells all) ↔ EndsWell (asks code) (code_start code fuel) code.first
