-- What holds of the free run of every code: only a touch past its last cell is a fault of annotations.
-- Read against: the code of a main that stores into a cell by a pointer to a global of 4 cells, moved by 4, stands before OutOfRange, which is none.
use Rattle.std.specs.Prelude.{ℕ, ◌≤◌, List, length}
use Rattle.oss_syntax.specs.declared.fault.FaultKind.{FaultKind}
use Rattle.oss_model.specs.declared.answer.Answer.TheVariants as answers
use Rattle.oss_model.specs.Answers.{IsResult}
use Rattle.oss_code.specs.declared.code.CodeParts.{CodeParts}
use Rattle.oss_machine.specs.Machines.{asks}
use Rattle.oss_freed.specs.Freed.{IsOfAnnotations, LeavesClausesToTheJudge, TouchesItsCells}
use Rattle.oss_free_run.specs.FreeTasks.{free_main, free_program}

-- No code, sound or not, asks for a fault of annotations.
abbrev pub CodesLeaveClauses : Type 0
CodesLeaveClauses = (code : CodeParts) → LeavesClausesToTheJudge (asks code)

-- So the free run of a code that touches its own cells alone has none.
abbrev pub FreeRunsNeedNoClauses : Type 0
FreeRunsNeedNoClauses = (code : CodeParts) (fuel : ℕ) (kind : FaultKind) (line : ℕ) (output : List ℕ) → length code.first ≤ 1048576 → TouchesItsCells (length code.first) (asks code)
    → IsResult (free_program code) (free_main code fuel) code.first (answers.Fault kind line output) → IsOfAnnotations kind → ⊥
