-- Rounds: waves, each with the passes behind it, from the opening state until no move is left; and what a trace tells of them.
-- Read against the program with out(x), in(x) out(y) and a taskwait of the definition of waves: round 1 has the turn `step 0 5` and no pass that
-- does something, round 2 `step 0.0 3` and the pass `let 0.0 0 1`, round 3 `step 0.1 4` and `let 0.1 0 2`, since x and y are neighbours, round 4
-- `step 0 5`. The trace ends with `# tasks 3 waves 4 widest 1`. In `a[4], b` a task with in(a[2;2]) out(b) has `let 0.1 2 3`: the modes are two,
-- and the run is one; one with in(a[0;2]) out(b) has `let 0.1 0 2`, `let 0.1 4 1`. A main that stands before a fault at once has no round, and
-- the trace `# tasks 1 waves 0 widest 0`.
use Rattle.std.specs.Prelude.{◌≡◌, ℕ, ◌+◌, ◌-◌, ◌^◌, ◌==◌, min, max, Bool, true, false, ◌&&◌, ◌||◌, not, if◌then◌else◌, List, [], ◌∷◌, ◌++◌, length, map}
use Rattle.std.specs.List.{flat_map}
use Rattle.oss_model.specs.Order.{written}
use Rattle.oss_model.specs.Bodies.{Program, Start}
use Rattle.oss_model.specs.Machine.{Task, State, same_path}
use Rattle.oss_model.specs.Moves.{opening}
use Rattle.oss_model.specs.Answers.{IsStopped}
use Rattle.oss_wave_laws.specs.Waves.{Turn, IsWave}
use Rattle.oss_wave_laws.specs.Passes.{GivenUp, Passes}

-- A wave and the passes behind it.
pub record Round : Type 0 where
  pub turns : List Turn
  pub passes : List (List GivenUp)

-- The round from one state to the other.
pub record IsRound {S : Type 0} (P : Program S) (s : State S) (round : Round) (n : State S) : Type 0 where
  pub middle : State S
  pub wave : IsWave P s round.turns middle
  pub behind : Passes P middle round.passes n

-- Rounds, until no move is left.
pub data Rounds {S : Type 0} (P : Program S) : State S → List Round → State S → Type 0 where
  stopped : {s : State S} → IsStopped P s → Rounds P s [] s
  follows : {s m n : State S} {round : Round} {rest : List Round} → (IsStopped P s → ⊥) → IsRound P s round m → Rounds P m rest n → Rounds P s (round ∷ rest) n

-- A line of a trace: so many acts of the task with this point, or so many of its cells from the first one on, which are given up or joined.
pub data Line : Type 0 where
  step_line : (point : List ℕ) (acts : ℕ) → Line
  let_line : (point : List ℕ) (first count : ℕ) → Line
  join_line : (point : List ℕ) (first count : ℕ) → Line

-- What a trace tells: the lines of each wave, how many tasks the machine has at the end, and how many tasks acted in one wave at most.
pub record Trace : Type 0 where
  pub waves : List (List Line)
  pub tasks : ℕ
  pub widest : ℕ

-- Neighbouring cells of one task that were given up one after the other in one way.
pub record Span : Type 0 where
  pub path : List ℕ
  pub first : ℕ
  pub count : ℕ
  pub joined : Bool

-- Both or neither.
abbrev pub alike : Bool → Bool → Bool
alike true b = b
alike false b = not b

-- A span begins right behind the cell.
abbrev pub goes_on_from : GivenUp → Span → Bool
goes_on_from g span = same_path g.path span.path && alike g.joined span.joined && (g.cell + 1 == span.first)

-- The cell alone.
abbrev pub span_of : GivenUp → Span
span_of g = record { path = g.path; first = g.cell; count = 1; joined = g.joined }

-- Spans, with one more cell in front.
abbrev pub in_front : GivenUp → List Span → List Span
in_front g [] = span_of g ∷ []
in_front g (span ∷ rest) = if goes_on_from g span then record { path = g.path; first = g.cell; count = span.count + 1; joined = g.joined } ∷ rest else span_of g ∷ span ∷ rest

-- What a pass has given up, in longest spans.
abbrev pub spans : List GivenUp → List Span
spans [] = []
spans (g ∷ rest) = in_front g (spans rest)

-- The line of a span: `let 0.1 2 3`, or `join 0.0 0 1`.
abbrev pub line_from : Bool → List ℕ → ℕ → ℕ → Line
line_from true point first count = join_line point first count
line_from false point first count = let_line point first count

-- The line of a span.
abbrev pub span_line : Span → Line
span_line span = line_from span.joined (written span.path) span.first span.count

-- The lines of a pass.
abbrev pub pass_lines : List GivenUp → List Line
pass_lines done = map span_line (spans done)

-- The line of a turn: `step 0.0 3`. The number stays at its greatest value.
abbrev pub turn_line : Turn → Line
turn_line turn = step_line (written turn.path) (min turn.acts (2 ^ 64 - 1))

-- The lines of a round: its turns, and then its passes.
abbrev pub round_lines : Round → List Line
round_lines round = map turn_line round.turns ++ flat_map pass_lines round.passes

-- The most turns of one round.
abbrev pub widest : List Round → ℕ
widest [] = 0
widest (round ∷ rest) = max (length round.turns) (widest rest)

-- One of these paths is this one.
abbrev pub is_among : List (List ℕ) → List ℕ → Bool
is_among [] path = false
is_among (p ∷ rest) path = same_path p path || is_among rest path

-- The weights of tasks, summed. Of several with one path the first is the task, as it is where a task is found by its path.
abbrev pub weighed : {S : Type 0} → (Task S → ℕ) → List (List ℕ) → List (Task S) → ℕ
weighed weight seen [] = 0
weighed weight seen (t ∷ rest) = if is_among seen t.body.start.path then weighed weight seen rest else weight t + weighed weight (t.body.start.path ∷ seen) rest

-- How many tasks a state has; the count stays at its greatest value.
abbrev pub tasks_in : {S : Type 0} → State S → ℕ
tasks_in s = min (weighed (λ t. 1) [] s.tasks) (2 ^ 64 - 1)

-- The trace of rounds that end in this state.
abbrev pub trace_of : {S : Type 0} → List Round → State S → Trace
trace_of rounds n = record { waves = map round_lines rounds; tasks = tasks_in n; widest = widest rounds }

-- The run by waves of a program comes to this state with these rounds.
abbrev pub RunsByWaves : {S : Type 0} → Program S → Start S → List ℕ → List Round → State S → Type 0
RunsByWaves P main cells rounds n = Rounds P (opening main cells) rounds n

-- The run by waves has this trace.
pub record IsTrace {S : Type 0} (P : Program S) (main : Start S) (cells : List ℕ) (trace : Trace) : Type 0 where
  pub rounds : List Round
  pub state : State S
  pub runs : RunsByWaves P main cells rounds state
  pub trace_is : trace ≡ trace_of rounds state
