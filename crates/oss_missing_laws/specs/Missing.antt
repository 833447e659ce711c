-- Where the free run of a program shows that nothing is missing, nothing is wrong with its clauses.
-- Read against: a main that creates a task with `out(x)`, which stores into x, waits for it and loads x. The free run comes to its end, nothing is lacking of the task, and nothing is told of either; the program's own run ends too, with the same memory and output. Without the wait a line is told of
-- main, and nothing is claimed: the program's own run stands before Lent.
use Rattle.std.specs.Prelude.{◌≡◌, ◌↔◌, ℕ, ◌≤◌, List, length}
use Rattle.oss_syntax.specs.declared.fault.FaultKind.{FaultKind}
use Rattle.oss_model.specs.declared.answer.Answer.{Answer}
use Rattle.oss_model.specs.Agreement.{main_start}
use Rattle.oss_model.specs.Answers.{IsResult}
use Rattle.oss_model.specs.Bodies.{Order, Program, Start}
use Rattle.oss_model.specs.Bodies.Act.{Fault}
use Rattle.oss_model.specs.Moves.{act_now}
use Rattle.oss_model.specs.Sequence.{IsAtEnd, Running, Sequential}
use Rattle.oss_freed.specs.Freed.{IsOfAnnotations, LeavesClausesToTheJudge, TouchesItsCells, freed}
use Rattle.oss_lacks.specs.Asking.{Asking}
use Rattle.oss_lacks.specs.Nests.{Nest}
use Rattle.oss_lacks.specs.Walks.{Walks, at_stop}
use Rattle.oss_missing_waits.specs.Holding.{Holding}
use Rattle.oss_missing_waits.specs.Waits.{Waits, at_stop as held_at_stop, mended_in}
use Rattle.oss_missing_laws.specs.Programs.{EndsAlike, IsNotWrong, NamesItsCells, NothingLacks, NothingTold, ReleasesPlainly, SettlesInTwo}

-- Both walks come to an end of the free run, and this is known there: nothing is lacking, by the clauses as they are mended nothing is told.
pub record NothingMissing {S : Type 0} (P : Program S) (order : Order S) (first : List ℕ) (fuel : ℕ) (z : Running S) (end : IsAtEnd (freed (length first) P) z) : Type 0 where
  pub asked : Nest Asking
  pub walks : Walks P (main_start order (length first) fuel) first z asked
  pub lacks : NothingLacks (at_stop asked)
  -- the second walk
  pub stage : Running S
  pub stops : IsAtEnd (freed (length first) P) stage
  pub held : Nest Holding
  pub waits : Waits (mended_in (at_stop asked).ended) P (main_start order (length first) fuel) first stage held
  pub told : NothingTold (held_at_stop held)

-- The program's own run comes to its end too, by an act like that of the free run, with the same memory and output.
abbrev pub RunsEndAlike : Type 0 → Type 0
RunsEndAlike S = (P : Program S) (order : Order S) (first : List ℕ) (fuel : ℕ) (z : Running S) (end : IsAtEnd (freed (length first) P) z)
    → length first ≤ 1048576 → SettlesInTwo P → NamesItsCells (length first) P → NothingMissing P order first fuel z end → EndsAlike P (main_start order (length first) fuel) first z end

-- So it stands before no fault of annotations there, if the program touches its own cells alone and leaves such faults to the judge.
abbrev pub NothingIsWrong : Type 0 → Type 0
NothingIsWrong S = (P : Program S) (order : Order S) (first : List ℕ) (fuel : ℕ) (z : Running S) (end : IsAtEnd (freed (length first) P) z)
    → length first ≤ 1048576 → SettlesInTwo P → NamesItsCells (length first) P → TouchesItsCells (length first) P → LeavesClausesToTheJudge P → NothingMissing P order first fuel z end
    → (own : EndsAlike P (main_start order (length first) fuel) first z end) (kind : FaultKind) (line : ℕ) (key : List ℕ) → act_now P own.own.task.body ≡ Fault kind line key → IsOfAnnotations kind → ⊥

-- What the walks show at an end of the free run: nothing is lacking, and nothing is told.
pub record ShowsNothing {S : Type 0} (P : Program S) (order : Order S) (first : List ℕ) (fuel : ℕ) (asked : Nest Asking) : Type 0 where
  pub lacks : NothingLacks (at_stop asked)
  pub told : (y : Running S) → IsAtEnd (freed (length first) P) y → (held : Nest Holding) → Waits (mended_in (at_stop asked).ended) P (main_start order (length first) fuel) first y held → NothingTold (held_at_stop held)

-- If the program's own run ends without a fault of annotations, nothing is missing: the walks over the free run show nothing at its end.
abbrev pub NothingIsMissing : Type 0 → Type 0
NothingIsMissing S = (P : Program S) (order : Order S) (first : List ℕ) (fuel : ℕ) (s : Running S) → Sequential P (main_start order (length first) fuel) first s → (own : IsAtEnd P s) → IsNotWrong (act_now P own.task.body)
    → length first ≤ 1048576 → SettlesInTwo P → NamesItsCells (length first) P → ReleasesPlainly P
    → (z : Running S) → IsAtEnd (freed (length first) P) z → (asked : Nest Asking) → Walks P (main_start order (length first) fuel) first z asked → ShowsNothing P order first fuel asked

-- The answer of the free run is then that of the program's own run: its kind and its line, if it is a fault, the output and the memory.
abbrev pub AnswersAreOne : Type 0 → Type 0
AnswersAreOne S = (P : Program S) (order : Order S) (first : List ℕ) (fuel : ℕ) (z : Running S) (end : IsAtEnd (freed (length first) P) z)
    → length first ≤ 1048576 → SettlesInTwo P → NamesItsCells (length first) P → NothingMissing P order first fuel z end
    → (answer : Answer) → IsResult (freed (length first) P) (main_start order (length first) fuel) first answer → IsResult P (main_start order (length first) fuel) first answer

-- The run comes to an end, and stands before no fault of annotations there.
pub record EndsWell {S : Type 0} (P : Program S) (main : Start S) (first : List ℕ) : Type 0 where
  pub stage : Running S
  pub run : Sequential P main first stage
  pub own : IsAtEnd P stage
  pub well : IsNotWrong (act_now P own.task.body)

-- At the end of a free run nothing is missing exactly if the program's own run comes to an end without a fault of annotations.
abbrev pub MissingExactly : Type 0 → Type 0
MissingExactly S = (P : Program S) (order : Order S) (first : List ℕ) (fuel : ℕ) (z : Running S) → Sequential (freed (length first) P) (main_start order (length first) fuel) first z → (end : IsAtEnd (freed (length first) P) z)
    → length first ≤ 1048576 → SettlesInTwo P → NamesItsCells (length first) P → ReleasesPlainly P → TouchesItsCells (length first) P → LeavesClausesToTheJudge P
    → (NothingMissing P order first fuel z end) ↔ (EndsWell P (main_start order (length first) fuel) first)
