-- The lists of a cell, kept in a table with the number of the open of each access's task: main is number 0, and the task that was opened
-- first is number 1. Such numbers rise along the table.
-- Read against: the tasks of `Held`, opened as 1 to 6 in this order. The numbers of the accesses to a are 0, 1, 3, 4, 5, 6; the access 2 is
-- that of the open 3. Where the tasks have other numbers than their opens, as 10 to 60, access 2 is that of task 30. A task 7 with in(b)
-- leaves the table as it is; one with in(a) is appended as access 6, with the number 7. Task 30 has given up a where the row 2 says so.
use Rattle.std.specs.Prelude.{◌≡◌, ℕ, zero, suc, ◌≤◌, ◌==◌, ◌&&◌, ◌||◌, Bool, false, List, Option, Some, None, length, option_and_then, slice_get}
use Rattle.oss_deps.specs.declared.opened.Open.{Open}
use Rattle.oss_access_lists.specs.declared.hang.Hang.{Hang}
use Rattle.oss_access_lists.specs.Tables.{hang_at, wires_of}
use Rattle.oss_links.specs.Held.{AreHeld, IsAccessOf}

abbrev pub task_in : Option Open → Option ℕ
task_in None = None
task_in (Some o) = Some o.task

-- The task that was opened as the one of this number; no task is number 0.
abbrev pub task_numbered : List Open → ℕ → Option ℕ
task_numbered opens zero = None
task_numbered opens (suc n) = task_in (slice_get opens n)

-- The task of each access, by the numbers.
abbrev pub task_by : List Open → List ℕ → ℕ → Option ℕ
task_by opens numbers v = option_and_then (task_numbered opens) (slice_get numbers v)

-- The test holds of a number below another.
abbrev pub any_below : ℕ → (ℕ → Bool) → Bool
any_below zero test = false
any_below (suc n) test = test n || any_below n test

abbrev pub is_task : ℕ → Option ℕ → Bool
is_task t None = false
is_task t (Some s) = s == t

-- The access of the task is given up, by the table.
abbrev pub given_by : List Open → List Hang → List ℕ → ℕ → Bool
given_by opens hangs numbers t = any_below (length hangs) (λ v. is_task t (task_by opens numbers v) && (hang_at hangs v).gave)

-- The table of the cell c, and the numbers of its accesses, hold the accesses of the tasks that were opened with the cell.
pub record IsCellHeld (opens : List Open) (c : ℕ) (hangs : List Hang) (numbers : List ℕ) : Type 0 where
  pub held : AreHeld opens (λ t k. given_by opens hangs numbers t) c (wires_of hangs) (IsAccessOf (task_by opens numbers))
  pub main : slice_get numbers 0 ≡ Some 0
  pub main_alone : (v : ℕ) → slice_get numbers v ≡ Some 0 → v ≡ 0
  pub size : length numbers ≡ length hangs
  pub opened : (v n : ℕ) → slice_get numbers v ≡ Some n → n ≤ length opens
