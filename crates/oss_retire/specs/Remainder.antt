-- The table of a cell without the accesses that are done and may write: none of them can matter any more.
-- Read against: the tasks of `Retired`, with 1 and 2 over. The table has the rows 0 to 4, with the numbers 0, 1, 2, 3, 4; rows 1 and 2 are spent, so the remainder has
-- the numbers 0, 3, 4: row 1 of it is the access of 3, first in main's list, and row 2 that of 4 behind it.
use Rattle.std.specs.Prelude.{◌≡◌, ℕ, ◌<◌, ◌&&◌, Bool, false, List, Some, length, slice_get}
use Rattle.oss_deps.specs.declared.opened.Open.{Open}
use Rattle.oss_deps.specs.Opens.{AreOrdered}
use Rattle.oss_access_lists.specs.declared.hang.Hang.{Hang}
use Rattle.oss_access_lists.specs.declared.marks.Marks.{Marks}
use Rattle.oss_access_lists.specs.Tables.{marks_at}
use Rattle.oss_links.specs.Numbers.{IsCellHeld, any_below, given_by, is_task, task_by}
use Rattle.oss_retire.specs.Retired.{AreRetired, left_of}

-- Each number is greater than those before it, as 0, 3, 4 are.
abbrev pub AreRising : List ℕ → Type 0
AreRising numbers = (j k s t : ℕ) → slice_get numbers j ≡ Some s → slice_get numbers k ≡ Some t → j < k → s < t

-- The access is done, and nothing earlier stands in the way of a write.
abbrev pub is_spent : Marks → Bool
is_spent x = x.done && x.writes

-- The access of the task is spent, by the table.
abbrev pub spent_by : List Open → List Marks → List ℕ → ℕ → Bool
spent_by opens stand numbers t = any_below (length numbers) (λ v. is_task t (task_by opens numbers v) && is_spent (marks_at stand v))

-- The second table is the first without its spent accesses: these may be retired, the second holds what is left, and of the others the same are given up.
pub record IsRemainderFor (opens : List Open) (c : ℕ) (hangs : List Hang) (stand : List Marks) (numbers : List ℕ) (less : List Hang) (fewer : List ℕ) : Type 0 where
  pub retired : AreRetired opens (λ t k. given_by opens hangs numbers t) c (spent_by opens stand numbers)
  pub held : IsCellHeld (left_of (spent_by opens stand numbers) opens) c less fewer
  pub given : (t : ℕ) → spent_by opens stand numbers t ≡ false → given_by (left_of (spent_by opens stand numbers) opens) less fewer t ≡ given_by opens hangs numbers t

-- That is so whatever was opened, at whatever cell the table is of.
abbrev pub IsRemainder : List Hang → List Marks → List ℕ → List Hang → List ℕ → Type 0
IsRemainder hangs stand numbers less fewer = (opens : List Open) (c : ℕ) → AreOrdered opens → IsCellHeld opens c hangs numbers → IsRemainderFor opens c hangs stand numbers less fewer
