-- The part of one task in a wave: what its body does alone over the memory with which the wave began, and where it stops. That a task waits only
-- at the beginning of its part, and ticks a bounded number of times in it, are rules of this language: so a part needs nothing of what others do
-- in the wave, and no task keeps the others waiting.
-- Read against: a main that creates two tasks, waits and prints. Its first part has the acts up to the wait and stops before it; once both tasks
-- are complete, its next part begins with that wait and goes on to the end. A task that stands before a fault has no more acts in its part. A
-- task that stores twice, releases, waits and stores again has `step 0.0 7` first, tick, store, tick, store, tick, release, tick, and then `step
-- 0.0 4`, wait, tick, store, end. A final task whose statement creates a task with a[0] += 10, and then does a[1] += a[0], has nine acts in one
-- part: tick, creation, the tick, fold and end of the included task, tick, load, fold, end. A loop with one tick and nothing else a turn does
-- 4,096 turns in a part under a quota of 4,096 ticks, and the next part begins with the 4,097th tick.
use Rattle.std.specs.Prelude.{◌≡◌, ℕ, zero, suc, ◌+◌, ◌<◌, nat_le, Bool, true, false, not, if◌then◌else◌, List, [], ◌∷◌, ◌++◌}
use Rattle.oss_model.specs.Bodies.{Program, Act, Start, stack_from, stage_act, child_start}
use Rattle.oss_model.specs.Bodies.Act.{Ticked, Created, Awaited, Waited, WaitedOn, Fault, Over}
use Rattle.oss_model.specs.Moves.{cells_after, found_by}
use Rattle.oss_wave_laws.specs.Alone.{RunsPart}

-- The act is a tick.
abbrev pub is_tick : {S : Type 0} → Act S → Bool
is_tick Ticked = true
is_tick _ = false

-- The act waits for other tasks.
abbrev pub is_waiting : {S : Type 0} → Act S → Bool
is_waiting Awaited = true
is_waiting Waited = true
is_waiting (WaitedOn named) = true
is_waiting _ = false

-- The body does not go on from the act.
abbrev pub is_halt : {S : Type 0} → Act S → Bool
is_halt (Fault kind line key) = true
is_halt Over = true
is_halt _ = false

-- A part stops before the act, after so many acts and ticks of it: where the body does not go on, before a tick more than the quota, and before
-- an act
-- that waits and is not the first.
abbrev pub stops_before : {S : Type 0} → Act S → ℕ → ℕ → ℕ → Bool
stops_before act count ticks quota = if is_halt act then true else if is_tick act then nat_le quota ticks else if is_waiting act then not (nat_le count 0) else false

-- Where a body stands in its part: the memory as its acts have left it, and the answers to all acts so far, the newest first.
pub record Stage : Type 0 where
  pub cells : List ℕ
  pub found : List ℕ

-- The stage after the next act.
abbrev pub next_stage : {S : Type 0} → Program S → Start S → Stage → Stage
next_stage P start s = record { cells = cells_after (stage_act P start s.found) s.cells; found = found_by (stage_act P start s.found) s.cells ∷ s.found }

-- The stage after so many acts.
unfoldable pub stage_after : {S : Type 0} → Program S → Start S → Stage → ℕ → Stage
stage_after P start s zero = s
stage_after P start s (suc n) = next_stage P start (stage_after P start s n)

-- The act that stands next after so many acts.
abbrev pub act_after : {S : Type 0} → Program S → Start S → Stage → ℕ → Act S
act_after P start s n = stage_act P start (stage_after P start s n).found

-- One for a tick.
abbrev pub one_tick : {S : Type 0} → Act S → ℕ
one_tick act = if is_tick act then 1 else 0

-- How many of so many acts are ticks.
unfoldable pub ticks_after : {S : Type 0} → Program S → Start S → Stage → ℕ → ℕ
ticks_after P start s zero = 0
ticks_after P start s (suc n) = ticks_after P start s n + one_tick (act_after P start s n)

-- How the tasks start that an act makes.
abbrev pub made_by : {S : Type 0} → Program S → Start S → List ℕ → Act S → List (Start S)
made_by P start found (Created order false) = child_start (stack_from P start found).base order ∷ []
made_by P start found _ = []

-- How the tasks start that so many acts make, in order.
unfoldable pub made_after : {S : Type 0} → Program S → Start S → Stage → ℕ → List (Start S)
made_after P start s zero = []
made_after P start s (suc n) = made_after P start s n ++ made_by P start (stage_after P start s n).found (act_after P start s n)

-- The part stops before the act that stands after so many.
abbrev pub stops_after : {S : Type 0} → Program S → Start S → Stage → ℕ → ℕ → Bool
stops_after P start s quota n = stops_before (act_after P start s n) n (ticks_after P start s n) quota

-- The part of a body from this stage on has so many acts: it stops before none of them, and before the one behind them.
pub record IsPart {S : Type 0} (P : Program S) (start : Start S) (first : Stage) (quota count : ℕ) : Type 0 where
  pub goes : (k : ℕ) → k < count → stops_after P start first quota k ≡ false
  pub stops : stops_after P start first quota count ≡ true

-- The acts of a part are acts that its body may do alone.
abbrev pub PartRuns : Type 0 → Type 0
PartRuns S = (P : Program S) (start : Start S) (first : Stage) (quota count : ℕ) → IsPart P start first quota count → RunsPart P start first.cells first.found (stage_after P start first count).cells (stage_after P start first count).found

-- A body has one part only.
abbrev pub OnePart : Type 0 → Type 0
OnePart S = (P : Program S) (start : Start S) (first : Stage) (quota m n : ℕ) → IsPart P start first quota m → IsPart P start first quota n → m ≡ n
