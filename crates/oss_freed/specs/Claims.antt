-- What holds of the free run: no clause can stop it, and it comes to an end where the program's own run does.
use Rattle.std.specs.Prelude.{◌≡◌, ℕ, ◌≤◌, List, length}
use Rattle.oss_syntax.specs.declared.fault.FaultKind.{FaultKind}
use Rattle.oss_model.specs.declared.answer.Answer.TheVariants as answers
use Rattle.oss_model.specs.Bodies.{Order, Program, ask_of}
use Rattle.oss_model.specs.Bodies.Act.{Fault}
use Rattle.oss_model.specs.Machine.{Task, At}
use Rattle.oss_model.specs.Moves.{act_now}
use Rattle.oss_model.specs.Sequence.{Running, Sequential}
use Rattle.oss_model.specs.Agreement.{main_start}
use Rattle.oss_model.specs.Answers.{IsResult}
use Rattle.oss_model.specs.Termination.{IsLively}
use Rattle.oss_freed.specs.Freed.{freed, acting, IsOfAnnotations, IsOwn, TouchesItsCells, LeavesClausesToTheJudge}

-- Where a task of the free run stands before a fault of annotations, the program itself asks there for that fault, or for a touch of a
-- cell past its last. So the judge finds none.
abbrev pub FreedFaultsAreItsOwn : Type 0 → Type 0
FreedFaultsAreItsOwn S = (P : Program S) (order : Order S) (cells : List ℕ) (fuel : ℕ) (z : Running S) (p : List ℕ) (t : Task S) (kind : FaultKind) (line : ℕ) (key : List ℕ)
    → length cells ≤ 1048576 → Sequential (freed (length cells) P) (main_start order (length cells) fuel) cells z
    → At z.state p t → act_now (freed (length cells) P) t.body ≡ Fault kind line key → IsOfAnnotations kind
    → IsOwn (length cells) kind (ask_of P (acting (freed (length cells) P) t.body)).ask

-- The answer of the free run is no fault of annotations, where the program touches its own cells alone and leaves such faults to the
-- judge.
abbrev pub FreedRunsNeedNoClauses : Type 0 → Type 0
FreedRunsNeedNoClauses S = (P : Program S) (order : Order S) (cells : List ℕ) (fuel : ℕ) (kind : FaultKind) (line : ℕ) (output : List ℕ)
    → length cells ≤ 1048576 → TouchesItsCells (length cells) P → LeavesClausesToTheJudge P
    → IsResult (freed (length cells) P) (main_start order (length cells) fuel) cells (answers.Fault kind line output) → IsOfAnnotations kind → ⊥

-- A freed program is as lively as the program: its free run comes to an end.
abbrev pub FreedIsLively : Type 0 → Type 0
FreedIsLively S = (P : Program S) (n : ℕ) → IsLively P → IsLively (freed n P)
