-- A part that is done at once: what a whole part leaves, told without its acts in between. Whoever keeps the tasks and the memory of a state
-- may put in what a body has done alone: its new memory where it wrote, its answers, and the tasks that it has made.
-- Read against: a task that stores 5 into cell 0, where other tasks of the wave have stored into cell 1: behind it the memory has 5 in cell 0
-- and what they have stored in cell 1. And a main that creates two tasks before its wait: behind its part there are both, which have done
-- nothing.
use Rattle.std.specs.Prelude.{◌≡◌, ◌≢◌, ℕ, zero, suc, ◌<◌, ◌==◌, ◌||◌, Bool, true, false, List, [], length, slice_index}
use Rattle.oss_model.specs.Order.{IsIn}
use Rattle.oss_model.specs.Bodies.{Program, Act, Start}
use Rattle.oss_model.specs.Bodies.Act.{Store, Folded}
use Rattle.oss_model.specs.Machine.{Task, State, At, find}
use Rattle.oss_model.specs.Moves.{CanStep}
use Rattle.oss_model.specs.Sequence.{Running, Sequential}
use Rattle.oss_model.specs.Agreement.{Setting, Agrees}
use Rattle.oss_wave_laws.specs.Alone.{IsInWave, IsAlonePart, with_found, with_part}
use Rattle.oss_wave_laws.specs.Parts.{Stage, IsPart, stage_after, act_after, made_after}
use Rattle.oss_wave_laws.specs.Waves.{Takes, first_stage, wave_ticks}

-- The act changes the cell itself, and no slot.
abbrev pub changes_cell : {S : Type 0} → Act S → ℕ → Bool
changes_cell (Store d v) c = d == c
changes_cell (Folded d op v false) c = d == c
changes_cell _ c = false

-- One of so many acts changes the cell.
unfoldable pub is_changed : {S : Type 0} → Program S → Start S → Stage → ℕ → ℕ → Bool
is_changed P start s zero c = false
is_changed P start s (suc n) c = changes_cell (act_after P start s n) c || is_changed P start s n c

-- A task that has done nothing since this start.
abbrev pub new_from : {S : Type 0} → Start S → Task S
new_from b = record { body = record { start = b; found = [] }; given = [] }

-- The state after a part of so many acts of the task, which began its wave in s, where the wave had come to n. A cell that the part has
-- changed is as the part has left it, and all others are as they were in n; the task has the answers of the part; each task that it has made
-- is there, and has done nothing; and all others are as in n.
pub record IsTaken {S : Type 0} (P : Program S) (s n : State S) (p : List ℕ) (t : Task S) (count : ℕ) (m : State S) : Type 0 where
  pub size : length m.cells ≡ length n.cells
  pub changed : (c : ℕ) → c < length n.cells → is_changed P t.body.start (first_stage s t) count c ≡ true → slice_index m.cells c ≡ slice_index (stage_after P t.body.start (first_stage s t) count).cells c
  pub kept : (c : ℕ) → c < length n.cells → is_changed P t.body.start (first_stage s t) count c ≡ false → slice_index m.cells c ≡ slice_index n.cells c
  pub own : At m p (with_found (stage_after P t.body.start (first_stage s t) count).found t)
  pub made : (b : Start S) → IsIn b (made_after P t.body.start (first_stage s t) count) → At m b.path (new_from b)
  pub others : (q : List ℕ) → q ≢ p → ((b : Start S) → IsIn b (made_after P t.body.start (first_stage s t) count) → q ≢ b.path) → find m.tasks q ≡ find n.tasks q

-- The acts of the part lead to that state, each made at its turn, and it is one of the wave.
pub record PartTaken {S : Type 0} (P : Program S) (s : State S) (alone : List ℕ → State S) (n : State S) (p : List ℕ) (t : Task S) (count : ℕ) (m : State S) : Type 0 where
  pub takes : Takes P p n count m
  pub a : State S
  pub part : IsAlonePart p t (stage_after P t.body.start (first_stage s t) count).cells (stage_after P t.body.start (first_stage s t) count).found a
  pub wave : IsInWave P s (with_part p a alone) m

-- A part of a task that has not acted in the wave yet may be done at once.
abbrev pub PartAtOnce : Type 0 → Type 0
PartAtOnce S = (P : Program S) (main : Start S) (cells : List ℕ) (z : Running S) (s n m : State S) (alone : List ℕ → State S) (p : List ℕ) (t : Task S) (count : ℕ)
    → Setting main cells → Sequential P main cells z → Agrees P main cells z s → IsInWave P s alone n → CanStep P s p t → alone p ≡ s
    → IsPart P t.body.start (first_stage s t) wave_ticks count → IsTaken P s n p t count m → PartTaken P s alone n p t count m
