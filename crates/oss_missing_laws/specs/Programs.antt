-- What is asked of a program, so that its free run shows what its clauses lack; and what it shows.
-- Read against: of a main that creates a task with `in(x)`, which stores into x, the free run shows that the task lacks something: a store is unmet by its clause. The run of the program itself stands there before NoRight. With `out(x)` nothing is lacking. If main then stores
-- into x, it is told that a wait is missing, and the run stands before Lent; behind a taskwait nothing is told, and both runs end.
use Rattle.std.specs.Prelude.{◌≡◌, ℕ, ◌<◌, true, List, [], ◌∷◌, length, Some, None, get_or}
use Rattle.oss_syntax.specs.declared.access.Access.{Access}
use Rattle.oss_syntax.specs.declared.access.Mode.{Mode}
use Rattle.oss_syntax.specs.declared.access.Mode.TheVariants.{Fold}
use Rattle.oss_syntax.specs.declared.fault.FaultKind.{FaultKind}
use Rattle.oss_model.specs.Bodies.{Act, Ask, Program, Start}
use Rattle.oss_model.specs.Bodies.Act.{Fault, Over}
use Rattle.oss_model.specs.Context.{in_clauses}
use Rattle.oss_model.specs.Moves.{act_now}
use Rattle.oss_model.specs.Sequence.{IsAtEnd, Running, Sequential}
use Rattle.oss_needs.specs.declared.lack.Lack.TheVariants as lack
use Rattle.oss_needs.specs.Givens.{given_of}
use Rattle.oss_needs.specs.Lacks.{lack_of}
use Rattle.oss_freed.specs.Freed.{IsOfAnnotations, freed}
use Rattle.oss_lacks.specs.Asking.{Asking}
use Rattle.oss_lacks.specs.Nests.{Nest}
use Rattle.oss_missing_waits.specs.Holding.{Holding}

-- The ask is no act: it is passed where it stands.
abbrev pub IsSilent : {S : Type 0} → Ask S → Type 0
IsSilent Ask.Begin = Unit {0}
IsSilent Ask.Await = Unit {0}
IsSilent _ = ⊥

-- No three such asks stand in a row. The definition of bodies passes two of them between two acts, and a third one is a fault there. In the free run a creator awaits each task, and would pass three in two steps.
abbrev pub SettlesInTwo : {S : Type 0} → Program S → Type 0
SettlesInTwo {S} P = (script : S) (answers : List ℕ) → IsSilent (P script answers).ask → IsSilent (P script (0 ∷ answers)).ask → IsSilent (P script (0 ∷ 0 ∷ answers)).ask → ⊥

-- The clauses name cells of the first n alone.
abbrev pub AreWithin : ℕ → List Access → Type 0
AreWithin n clauses = (c : ℕ) → in_clauses clauses c ≡ true → c < n

-- The ask names cells of the first n alone by clauses.
abbrev pub IsNaming : {S : Type 0} → ℕ → Ask S → Type 0
IsNaming n (Ask.Create o) = AreWithin n o.clauses
IsNaming n (Ask.WaitOn named) = AreWithin n named
IsNaming n (Ask.Release clauses) = AreWithin n clauses
IsNaming n _ = Unit {0}

-- Each ask of the program does.
abbrev pub NamesItsCells : {S : Type 0} → ℕ → Program S → Type 0
NamesItsCells {S} n P = (script : S) (answers : List ℕ) → IsNaming n (P script answers).ask

-- The mode is none of a reduction.
abbrev pub IsUnfolded : Mode → Type 0
IsUnfolded (Fold op) = ⊥
IsUnfolded _ = Unit {0}

-- No mode of the clauses is.
abbrev pub AllUnfolded : List Access → Type 0
AllUnfolded [] = Unit {0}
AllUnfolded (a ∷ rest) = IsUnfolded a.mode × AllUnfolded rest

-- The program releases by no clause of a reduction.
abbrev pub ReleasesPlainly : {S : Type 0} → Program S → Type 0
ReleasesPlainly {S} P = (script : S) (answers : List ℕ) (clauses : List Access) → (P script answers).ask ≡ Ask.Release clauses → AllUnfolded clauses

-- Nothing is lacking of a task, at any cell that a program may have.
abbrev pub LacksNothing : Asking → Type 0
LacksNothing t = (c : ℕ) → c < 1048576 → lack_of (given_of t.final t.clauses c) (t.asked c) ≡ lack.Nothing

-- So it is with each task that has ended. (No clause says anything of main, which may do everything.)
abbrev pub NothingLacks : Nest Asking → Type 0
NothingLacks n = (i : ℕ) (t : Asking) → get_or n.ended i None ≡ Some t → LacksNothing t

-- Nothing was told of any task, main among them.
pub record NothingTold (n : Nest Holding) : Type 0 where
  pub main : n.acting.task.told ≡ []
  pub tasks : (i : ℕ) (t : Holding) → get_or n.ended i None ≡ Some t → t.told ≡ []

-- The act is no fault of annotations.
abbrev pub IsNotWrong : {S : Type 0} → Act S → Type 0
IsNotWrong a = (kind : FaultKind) (line : ℕ) (key : List ℕ) → a ≡ Fault kind line key → IsOfAnnotations kind → ⊥

-- Two acts by which runs end are alike: both main's end, or a fault of one kind on one line.
abbrev pub StopAlike : {S : Type 0} → Act S → Act S → Type 0
StopAlike Over Over = Unit {0}
StopAlike (Fault kind line key) (Fault other there here) = (kind ≡ other) × (line ≡ there)
StopAlike _ _ = ⊥

-- The program's own run ends as its free run does at this stage: by an act like it, with the same memory and the same output.
pub record EndsAlike {S : Type 0} (P : Program S) (main : Start S) (first : List ℕ) (z : Running S) (end : IsAtEnd (freed (length first) P) z) : Type 0 where
  pub stage : Running S
  pub run : Sequential P main first stage
  pub own : IsAtEnd P stage
  pub alike : StopAlike (act_now P own.task.body) (act_now (freed (length first) P) end.task.body)
  pub cells : stage.state.cells ≡ z.state.cells
  pub printed : stage.printed ≡ z.printed
