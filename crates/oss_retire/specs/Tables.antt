-- The table of a cell from which retired accesses were left out, and that it tells what the whole table told.
-- Read against: the tasks of `Retired`, opened as 1 to 4, and a task 5 with in(b). Behind the remainder of `Remainder` the numbers at a are 0, 3, 4: the tasks 1 and 2 were opened with a
-- and have no row, so they are retired, and have given up a. Task 5 has no row either and was not opened with a, so it is not retired, and has not given up a.
use Rattle.std.specs.Prelude.{◌≡◌, ℕ, zero, suc, ◌==◌, ◌&&◌, ◌||◌, not, Bool, false, true, List, [], ◌∷◌}
use Rattle.oss_deps.specs.declared.opened.Open.{Open}
use Rattle.oss_deps.specs.Opens.{AreOrdered, HasOpened, names}
use Rattle.oss_access_lists.specs.declared.hang.Hang.{Hang}
use Rattle.oss_links.specs.Numbers.{IsCellHeld, given_by}
use Rattle.oss_retire.specs.Retired.{AreRetired, left_of}

-- A row has the number.
abbrev pub is_listed : List ℕ → ℕ → Bool
is_listed [] n = false
is_listed (m ∷ rest) n = (m == n) || is_listed rest n

-- Of these opens, behind n others, one is the task's, names the cell, and has no row.
abbrev pub is_left_out : List Open → ℕ → List ℕ → ℕ → ℕ → Bool
is_left_out [] n numbers c t = false
is_left_out (o ∷ rest) n numbers c t = ((o.task == t) && (names c o && not (is_listed numbers (suc n)))) || is_left_out rest (suc n) numbers c t

-- The task was opened with the cell, and its access has no row any more.
abbrev pub retired_by : List Open → List ℕ → ℕ → ℕ → Bool
retired_by opens numbers c t = is_left_out opens zero numbers c t

-- The task has given up the cell, by the table: its access is given up there, or retired.
abbrev pub given_left : List Open → ℕ → List Hang → List ℕ → ℕ → Bool
given_left opens c hangs numbers t = given_by opens hangs numbers t || retired_by opens numbers c t

-- The table of the cell c, and the numbers of its accesses, hold the accesses that are left; those that were left out are of tasks that were opened with the cell, and may be retired.
pub record IsCellLeft (opens : List Open) (c : ℕ) (hangs : List Hang) (numbers : List ℕ) : Type 0 where
  pub retired : ℕ → Bool
  pub opened : (t : ℕ) → retired t ≡ true → HasOpened opens c t
  pub held : IsCellHeld (left_of retired opens) c hangs numbers
  pub are : AreRetired opens (λ t k. given_left opens c hangs numbers t) c retired

-- Whatever was opened, and at whatever cell: where the first table holds what is left, the second does too, and by both the same tasks have given up the cell.
abbrev pub TellsTheSame : List Hang → List ℕ → List Hang → List ℕ → Type 0
TellsTheSame hangs numbers less fewer = (opens : List Open) (c : ℕ) → AreOrdered opens → IsCellLeft opens c hangs numbers → IsCellLeft opens c less fewer × ((t : ℕ) → given_left opens c less fewer t ≡ given_left opens c hangs numbers t)
