-- When the sequential run comes to its end: each task has fuel, and between two ticks a body asks for little.
use Rattle.std.specs.Prelude.{ℕ, ◌<◌, ◌≤◌, List, ◌∷◌}
use Rattle.oss_model.specs.declared.answer.Answer.{Answer}
use Rattle.oss_model.specs.Bodies.{Ask, Program, Start}
use Rattle.oss_model.specs.Bodies.Ask.{Tick, End, Fails}
use Rattle.oss_model.specs.Sequence.{Running, Sequential, IsAtEnd}
use Rattle.oss_model.specs.Agreement.{Setting}
use Rattle.oss_model.specs.Answers.{IsResult}

-- The ask is no tick, and the body goes on after it.
abbrev pub IsBusy : {S : Type 0} → Ask S → Type 0
IsBusy Tick = ⊥
IsBusy End = ⊥
IsBusy (Fails kind) = ⊥
IsBusy _ = Unit {0}

-- A program is lively where each body asks for a tick, ends or fails after a bounded number of other asks: a
-- rank falls with each of these, whatever the answer is.
pub record IsLively {S : Type 0} (P : Program S) : Type 0 where
  pub bound : ℕ
  pub rank : S → List ℕ → ℕ
  pub below : (script : S) (answers : List ℕ) → rank script answers ≤ bound
  pub falls : (script : S) (answers : List ℕ) (answer : ℕ) → IsBusy (P script answers).ask → rank script (answer ∷ answers) < rank script answers

-- The sequential run of a lively program comes to its end.
abbrev pub RunEnds : Type 0 → Type 0
RunEnds S = (P : Program S) (main : Start S) (cells : List ℕ) → Setting main cells → IsLively P → (z : Running S) × Sequential P main cells z × IsAtEnd P z

-- So it has an answer.
abbrev pub RunHasResult : Type 0 → Type 0
RunHasResult S = (P : Program S) (main : Start S) (cells : List ℕ) → Setting main cells → IsLively P → (b : Answer) × IsResult P main cells b
