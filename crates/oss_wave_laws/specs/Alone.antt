-- Parts of a wave: acts of one task alone, and states in which several tasks have done their parts. In a wave each task runs its acts from the
-- state at which the wave began, as if it were alone. The law says that these acts may then be done one part after the other, and find the same.
-- Read against: two tasks with in(x) that each read x and write a cell of their own; and two tasks of one reduction(+: s), which both add to s.
use Rattle.std.specs.Prelude.{◌≡◌, ◌≢◌, ℕ, ◌<◌, false, if◌then◌else◌, List, [], ◌∷◌, length, slice_index, ◌⊎◌}
use Rattle.oss_model.specs.Order.{IsSuffix, IsIn}
use Rattle.oss_model.specs.Rights.{Touch, Reads}
use Rattle.oss_model.specs.Bodies.{Program, Act, Start, Touches, stage_act, IsHalt}
use Rattle.oss_model.specs.Bodies.Act.{Awaited, Waited, WaitedOn}
use Rattle.oss_model.specs.Machine.{Task, State, At, same_path}
use Rattle.oss_model.specs.Moves.{Moved, CanStep, Stepped, act_now, cells_after, found_by}
use Rattle.oss_model.specs.Sequence.{Running, Sequential}
use Rattle.oss_model.specs.Agreement.{Setting, Agrees}

-- A state to which acts of this task alone lead from another.
pub data RunsAlone {S : Type 0} (P : Program S) (p : List ℕ) (s : State S) : State S → Type 0 where
  begins : RunsAlone P p s s
  goes : {a b : State S} {t : Task S} → RunsAlone P p s a → CanStep P a p t → Stepped P a p t b → RunsAlone P p s b

-- A state to which moves lead from another.
pub data Runs {S : Type 0} (P : Program S) (s : State S) : State S → Type 0 where
  stays : Runs P s s
  moves : {m n : State S} → Runs P s m → Moved P m n → Runs P s n

-- A touch of the cell itself that the task has done since another state.
pub record NewTouch {S : Type 0} (P : Program S) (s a : State S) (p : List ℕ) (c : ℕ) (touch : Touch) : Type 0 where
  pub old : Task S
  pub at_old : At s p old
  pub new : Task S
  pub at_new : At a p new
  pub past : List ℕ
  pub answer : ℕ
  pub done_ : IsSuffix (answer ∷ past) new.body.found
  pub since : IsSuffix old.body.found past
  pub touches : Touches (stage_act P new.body.start past) c touch false

-- A touch that is no read.
abbrev pub IsChange : Touch → Type 0
IsChange Reads = ⊥
IsChange _ = Unit {0}

-- A cell that a task has changed since the wave began.
pub record ChangedSince {S : Type 0} (P : Program S) (s : State S) (alone : List ℕ → State S) (c : ℕ) : Type 0 where
  pub path : List ℕ
  pub task : Task S
  pub at_ : At s path task
  pub touch : Touch
  pub change : IsChange touch
  pub new : NewTouch P s (alone path) path c touch

-- A state of a wave that began at s. Each task of s has done what it has done alone, a cell that it has touched
-- since is as it left it alone, and a cell that none has changed since is as it was.
pub record IsInWave {S : Type 0} (P : Program S) (s : State S) (alone : List ℕ → State S) (n : State S) : Type 0 where
  pub run : Runs P s n
  pub each : (q : List ℕ) (t : Task S) → At s q t → RunsAlone P q s (alone q)
  pub same : (q : List ℕ) (t w : Task S) → At s q t → At (alone q) q w → At n q w
  pub touched : (q : List ℕ) (t : Task S) (c : ℕ) (x : Touch) → At s q t → NewTouch P s (alone q) q c x → c < length s.cells → slice_index n.cells c ≡ slice_index (alone q).cells c
  pub rest : (c : ℕ) → c < length s.cells → (slice_index n.cells c ≡ slice_index s.cells c) ⊎ ChangedSince P s alone c

-- The act waits for other tasks.
abbrev pub IsWaiting : {S : Type 0} → Act S → Type 0
IsWaiting Awaited = Unit {0}
IsWaiting Waited = Unit {0}
IsWaiting (WaitedOn named) = Unit {0}
IsWaiting _ = ⊥

-- The parts, of which that of one task is now another.
abbrev pub with_part : {S : Type 0} → List ℕ → State S → (List ℕ → State S) → List ℕ → State S
with_part p b alone q = if same_path q p then b else alone q

-- What holds of an act of a wave that its task may do alone.
pub record GoesInWave {S : Type 0} (P : Program S) (s : State S) (alone : List ℕ → State S) (n : State S) (p : List ℕ) (w : Task S) (b : State S) : Type 0 where
  -- it may be made in the wave's state
  pub can : CanStep P n p w
  -- it finds the same
  pub found : found_by (act_now P w.body) n.cells ≡ found_by (act_now P w.body) (alone p).cells
  -- and leads to a state of the wave
  pub after : (m : State S) → Stepped P n p w m → IsInWave P s (with_part p b alone) m

-- A wave begins.
abbrev pub WaveBegins : Type 0 → Type 0
WaveBegins S = (P : Program S) (s : State S) → IsInWave P s (λ q. s) s

-- An act that a task may do alone may be made in the wave, and finds the same. A waiting act must be the first
-- of its task in the wave.
abbrev pub WaveGoesOn : Type 0 → Type 0
WaveGoesOn S = (P : Program S) (main : Start S) (cells : List ℕ) (z : Running S) (s n b : State S) (alone : List ℕ → State S) (p : List ℕ) (t w : Task S)
    → Setting main cells → Sequential P main cells z → Agrees P main cells z s → IsInWave P s alone n → At s p t → CanStep P (alone p) p w → Stepped P (alone p) p w b
    → (IsWaiting (act_now P w.body) → w.body.found ≡ t.body.found) → GoesInWave P s alone n p w b

-- What one body does alone over a memory of its own: the memory and the answers after some acts. Only the first
-- act may wait.
pub data RunsPart {S : Type 0} (P : Program S) (start : Start S) (cells found : List ℕ) : List ℕ → List ℕ → Type 0 where
  part_begins : RunsPart P start cells found cells found
  part_goes : {mid past : List ℕ} → RunsPart P start cells found mid past → (IsHalt (stage_act P start past) → ⊥) → (IsWaiting (stage_act P start past) → past ≡ found)
      → RunsPart P start cells found (cells_after (stage_act P start past) mid) (found_by (stage_act P start past) mid ∷ past)

-- The task with these answers.
abbrev pub with_found : {S : Type 0} → List ℕ → Task S → Task S
with_found past t = record { body = record { start = t.body.start; found = past }; given = t.given }

-- The state in which the task has come so far alone.
pub record IsAlonePart {S : Type 0} (p : List ℕ) (t : Task S) (mid past : List ℕ) (a : State S) : Type 0 where
  pub cells : a.cells ≡ mid
  pub at_ : At a p (with_found past t)

-- What holds of the next act of a part: it may be made in the wave's state, finds the same there, and the state
-- after it is one of the wave, in which the part has gone on.
pub record PartGoes {S : Type 0} (P : Program S) (s : State S) (alone : List ℕ → State S) (n : State S) (p : List ℕ) (t : Task S) (mid past : List ℕ) : Type 0 where
  pub can : CanStep P n p (with_found past t)
  pub found : found_by (stage_act P t.body.start past) n.cells ≡ found_by (stage_act P t.body.start past) mid
  pub b : State S
  pub part : IsAlonePart p t (cells_after (stage_act P t.body.start past) mid) (found_by (stage_act P t.body.start past) mid ∷ past) b
  pub after : (m : State S) → Stepped P n p (with_found past t) m → IsInWave P s (with_part p b alone) m

-- The acts of a part, computed by the body over a memory of its own, are steps of the machine in the wave.
abbrev pub PartGoesOn : Type 0 → Type 0
PartGoesOn S = (P : Program S) (main : Start S) (cells : List ℕ) (z : Running S) (s n : State S) (alone : List ℕ → State S) (p : List ℕ) (t : Task S) (mid past : List ℕ)
    → Setting main cells → Sequential P main cells z → Agrees P main cells z s → IsInWave P s alone n → CanStep P s p t → IsAlonePart p t mid past (alone p)
    → (IsHalt (stage_act P t.body.start past) → ⊥) → (IsWaiting (stage_act P t.body.start past) → past ≡ t.body.found) → PartGoes P s alone n p t mid past

-- A state in which a whole part is done.
pub record PartDone {S : Type 0} (P : Program S) (s : State S) (alone : List ℕ → State S) (n : State S) (p : List ℕ) (t : Task S) (mid past : List ℕ) : Type 0 where
  pub m : State S
  pub a : State S
  pub run : RunsAlone P p n m
  pub part : IsAlonePart p t mid past a
  pub wave : IsInWave P s (with_part p a alone) m

-- A whole part of a task that has not acted in the wave yet can be done, with the same answers.
abbrev pub PartFollows : Type 0 → Type 0
PartFollows S = (P : Program S) (main : Start S) (cells : List ℕ) (z : Running S) (s n : State S) (alone : List ℕ → State S) (p : List ℕ) (t : Task S) (mid past : List ℕ)
    → Setting main cells → Sequential P main cells z → Agrees P main cells z s → IsInWave P s alone n → CanStep P s p t → alone p ≡ s
    → RunsPart P t.body.start s.cells t.body.found mid past → PartDone P s alone n p t mid past

-- One task's part of a wave: the task, which may act, and what its body does alone.
pub record TaskPart {S : Type 0} (P : Program S) (s : State S) : Type 0 where
  pub path : List ℕ
  pub task : Task S
  pub mid : List ℕ
  pub past : List ℕ
  pub can : CanStep P s path task
  pub run : RunsPart P task.body.start s.cells task.body.found mid past

-- The parts are of different tasks.
abbrev pub AreDifferent : {S : Type 0} {P : Program S} {s : State S} → List (TaskPart P s) → Type 0
AreDifferent [] = Unit {0}
AreDifferent (k ∷ rest) = ((j : TaskPart _ _) → IsIn j rest → j.path ≢ k.path) × AreDifferent rest

-- A state in which all these parts are done.
pub record WaveDone {S : Type 0} (P : Program S) (s : State S) (parts : List (TaskPart P s)) : Type 0 where
  pub n : State S
  pub alone : List ℕ → State S
  pub wave : IsInWave P s alone n
  -- each part has come where its body came
  pub each : (k : TaskPart P s) → IsIn k parts → IsAlonePart k.path k.task k.mid k.past (alone k.path)
  pub there : (k : TaskPart P s) → IsIn k parts → At n k.path (with_found k.past k.task)
  -- and no other task has acted
  pub others : (q : List ℕ) → ((k : TaskPart P s) → IsIn k parts → k.path ≢ q) → alone q ≡ s

-- All parts of a wave, each computed over the memory of its beginning, can be done one after the other, in any
-- order, with the same answers.
abbrev pub WaveFollows : Type 0 → Type 0
WaveFollows S = (P : Program S) (main : Start S) (cells : List ℕ) (z : Running S) (s : State S) (parts : List (TaskPart P s))
    → Setting main cells → Sequential P main cells z → Agrees P main cells z s → AreDifferent parts → WaveDone P s parts
