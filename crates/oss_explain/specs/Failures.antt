-- Which cells of a directive fail, by the right of the task to each.
-- Read against: a task with `in(x)` covers an `in` of x for a child, and no `out`; of a cell to which it has no right nothing is covered.
use Rattle.std.specs.Prelude.{◌≡◌, ◌<◌, ℕ, Bool, true, false, not, Option, Some, None}
use Rattle.oss_syntax.specs.declared.access.Mode.{Mode}
use Rattle.oss_model.specs.Context.{lacks_right}
use Rattle.oss_model.specs.Rights.{Right, is_released, right_covers}
use Rattle.oss_explain.specs.declared.failing.Test.{Test}
use Rattle.oss_explain.specs.declared.failing.Test.TheVariants as tests

-- the right passes the test
abbrev pub passes : Test → Right → Bool
passes tests.Released r = is_released r
passes tests.Lacking r = lacks_right r

-- the right does not cover an access of this mode, if there is one
abbrev pub is_uncovered_by : Right → Option Mode → Bool
is_uncovered_by r None = false
is_uncovered_by r (Some m) = not (right_covers r m)

-- A cell that a program may have passes the test.
abbrev pub HasCell : (ℕ → Bool) → Type 0
HasCell test = (c : ℕ) × ((c < 1048576) × (test c ≡ true))
