-- The moves that are noted of a wave and of a pass.
-- Read against: task 1, with the point 0.0, had a turn of five acts: the move is `step 0.0 5`. It has then given up the cells 0 and 1 by lets, and the slot of
-- cell 4 was joined: the moves are `let 0.0 0 2` and `join 0.0 4 1`.
use Rattle.std.specs.Prelude.{◌≡◌, ℕ, ◌-◌, Bool, true, false, List, ◌++◌}
use Rattle.oss_thread_groups.specs.Groups.{AreGiven}
use Rattle.oss_tree.specs.declared.task.Task.{Task}
use Rattle.oss_tree.specs.Tasks.{HasPoint}
use Rattle.oss_core.specs.declared.passing.Passed.{Passed}
use Rattle.oss_core.specs.declared.turns.Turn.{Turn}
use Rattle.oss_sched.specs.declared.moves.TextMove.{TextMove}
use Rattle.oss_sched.specs.declared.moves.TextMove.TheVariants.{Step, Let, Join}

-- The move is that of the turn.
abbrev pub IsStepOf : List Task → Turn → TextMove → Type 0
IsStepOf tasks turn what = (point : List ℕ) × HasPoint tasks turn.task.0 point × (what ≡ Step point turn.acts)

-- The move that gives up so many cells: by joins, or by lets.
abbrev pub given_by : Bool → List ℕ → ℕ → ℕ → TextMove
given_by true point first count = Join point first count
given_by false point first count = Let point first count

-- The move is that of the cells.
abbrev pub IsGivenOf : List Task → Passed → TextMove → Type 0
IsGivenOf tasks one what = (point : List ℕ) × HasPoint tasks one.task.0 point × (what ≡ given_by one.joined point one.range.lo (one.range.hi - one.range.lo))

-- The moves of these were noted behind all others.
abbrev pub Notes : {A : Type 0} → (A → TextMove → Type 0) → List A → List TextMove → List TextMove → Type 0
Notes is xs before after = (added : List TextMove) × (after ≡ before ++ added) × AreGiven is xs added
