-- A wave: the part of each task that may act, one after the other in point order. Waves are this language's way to run a program by turns: which
-- tasks act, and how far each goes, is settled by the state at the beginning of the wave, whatever the threads do that make the parts.
-- Read against: `long x, y;`, a main that creates a task with out(x) that stores 5, and one with in(x) out(y) that stores x + 1, waits and
-- prints y. Wave 1 is the part of main, `step 0 5`: a tick and a creation, twice, and a tick. Wave 2 is `step 0.0 3`, tick, store, end; main's
-- wait is not met and task 0.1 is not ready. In wave 3 it is, `step 0.1 4`; and wave 4 is `step 0 5`: wait, tick, load, print, end. With `long
-- a[2], b;`, out(a) over a[2] = 1 and inout(b) over b = 1 / b, wave 1 is `step 0 5`, main's end its last act, and wave 2 `step 0.0 1`, `step 0.1
-- 2`: a tick, and a tick and a load; both stand before a fault then. Of reduction(+: s) in four tasks all four may act in wave 2, since a
-- reduction asks for nothing. With a false `if` wave 1 is `step 0 2`, tick and creation; the await behind it begins main's next part.
use Rattle.std.specs.Prelude.{◌≡◌, ℕ, zero, suc, List, [], ◌∷◌}
use Rattle.oss_model.specs.Order.{IsIn, IsEarlierKey}
use Rattle.oss_model.specs.Bodies.{Program, Start}
use Rattle.oss_model.specs.Machine.{Task, State, At}
use Rattle.oss_model.specs.Moves.{CanStep, Stepped}
use Rattle.oss_model.specs.Sequence.{Running, Sequential}
use Rattle.oss_model.specs.Agreement.{Setting, Agrees}
use Rattle.oss_wave_laws.specs.Alone.{IsInWave, IsAlonePart, with_found}
use Rattle.oss_wave_laws.specs.Parts.{Stage, IsPart, stage_after}

-- How many ticks a task does in one wave at most.
unfoldable pub wave_ticks : ℕ
wave_ticks = 4096

-- What a wave has of one task: the path of the task, and how many acts it does.
pub record Turn : Type 0 where
  pub path : List ℕ
  pub acts : ℕ

-- Where the task stands when a wave begins in this state.
abbrev pub first_stage : {S : Type 0} → State S → Task S → Stage
first_stage s t = record { cells = s.cells; found = t.body.found }

-- Where the task's part of a wave has come that began in this state.
abbrev pub part_stage : {S : Type 0} → Program S → State S → Task S → Turn → Stage
part_stage P s t turn = stage_after P t.body.start (first_stage s t) turn.acts

-- The task may act in the state, and its part over the state's memory has so many acts.
pub record IsTurn {S : Type 0} (P : Program S) (s : State S) (turn : Turn) : Type 0 where
  pub task : Task S
  pub can : CanStep P s turn.path task
  pub part : IsPart P task.body.start (first_stage s task) wave_ticks turn.acts

-- So many acts of the task lead from one state to the other, each of which may be made at its turn.
pub data Takes {S : Type 0} (P : Program S) (p : List ℕ) (s : State S) : ℕ → State S → Type 0 where
  takes_none : Takes P p s zero s
  takes_more : {n : ℕ} {a b : State S} {t : Task S} → Takes P p s n a → CanStep P a p t → Stepped P a p t b → Takes P p s (suc n) b

-- The acts of these turns, one turn after the other, lead from one state to the other.
pub data TakeTurns {S : Type 0} (P : Program S) : State S → List Turn → State S → Type 0 where
  no_turns : {s : State S} → TakeTurns P s [] s
  turn_first : {s m n : State S} {turn : Turn} {rest : List Turn} → Takes P turn.path s turn.acts m → TakeTurns P m rest n → TakeTurns P s (turn ∷ rest) n

-- The turns stand in point order, and no task has two.
abbrev pub AreInOrder : List Turn → Type 0
AreInOrder [] = Unit {0}
AreInOrder (k ∷ rest) = ((j : Turn) → IsIn j rest → IsEarlierKey k.path j.path) × AreInOrder rest

-- These are the turns of the wave that begins in the state: one for each task that may act there.
pub record AreTurns {S : Type 0} (P : Program S) (s : State S) (turns : List Turn) : Type 0 where
  pub ordered : AreInOrder turns
  pub only : (k : Turn) → IsIn k turns → IsTurn P s k
  pub all : (p : List ℕ) (t : Task S) → CanStep P s p t → (k : Turn) × IsIn k turns × (k.path ≡ p)

-- The wave from one state to the other.
pub record IsWave {S : Type 0} (P : Program S) (s : State S) (turns : List Turn) (n : State S) : Type 0 where
  pub turns_are : AreTurns P s turns
  pub acts : TakeTurns P s turns n

-- What holds of a state in which the turns of a wave are done: it is in the wave, where each task has done its part alone, with the memory and
-- the answers of its part.
pub record WaveStands {S : Type 0} (P : Program S) (s : State S) (turns : List Turn) (n : State S) : Type 0 where
  pub alone : List ℕ → State S
  pub wave : IsInWave P s alone n
  pub each : (k : Turn) → IsIn k turns → (turn : IsTurn P s k) → IsAlonePart k.path turn.task (part_stage P s turn.task k).cells (part_stage P s turn.task k).found (alone k.path)
  pub there : (k : Turn) → IsIn k turns → (turn : IsTurn P s k) → At n k.path (with_found (part_stage P s turn.task k).found turn.task)

-- In the state behind a wave each task that had a turn has come where its part, over the memory of the wave's beginning, has come alone.
abbrev pub TurnsStand : Type 0 → Type 0
TurnsStand S = (P : Program S) (main : Start S) (cells : List ℕ) (z : Running S) (s n : State S) (turns : List Turn)
    → Setting main cells → Sequential P main cells z → Agrees P main cells z s → IsWave P s turns n → WaveStands P s turns n

-- Each act of these turns may be made at its turn.
abbrev pub WaveCanBeMade : Type 0 → Type 0
WaveCanBeMade S = (P : Program S) (main : Start S) (cells : List ℕ) (z : Running S) (s : State S) (turns : List Turn)
    → Setting main cells → Sequential P main cells z → Agrees P main cells z s → AreTurns P s turns → (n : State S) × IsWave P s turns n
