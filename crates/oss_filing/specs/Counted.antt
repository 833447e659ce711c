-- The counts of the tasks over words at rest: how many of their rows wait for a flag that does not stand.
-- Read against: the rows 1 to 7 of `Rows`, all strong writes but 1, 4 and 6, where 2 is not given up. The count of 1 is 0, since 2 and 3 begin lists of
-- main; that of 4 is 0, since 5 may be written below 3; that of 6 is 1, for 7 behind 2. Main's is 0, and those of 2, 3, 5 and 7 are not filled.
use Rattle.std.specs.Prelude.{◌≡◌, ◌≢◌, ◌<◌, ◌≤◌, ℕ, not, ◌&&◌, ◌==◌, List, length, Option, Some, None, slice_index}
use Rattle.oss_words.specs.declared.entry.EntryState.{EntryState}
use Rattle.oss_words.specs.Sums.{below, num}
use Rattle.oss_roles.specs.Counting.{stands}
use Rattle.oss_filing.specs.declared.row.Row.{Row}
use Rattle.oss_filing.specs.Filed.{state_in}
use Rattle.oss_filing.specs.Planned.{waits}
use Rattle.oss_filing.specs.Rows.{row_of}

-- What a row adds to the count of the task t.
abbrev pub adds_to : ℕ → Option Row → EntryState → ℕ
adds_to t None c = 0
adds_to t (Some r) c = num ((r.info.task == t) && (waits r && not (stands r.info.mode c)))

-- The tasks of the rows have rows of their own numbers.
abbrev pub HaveTasks : List Row → Type 0
HaveTasks rows = (e : ℕ) (r : Row) → row_of rows e ≡ Some r → (0 < r.info.task) × (r.info.task ≤ length rows)

-- The task has a row.
pub record HasRow (rows : List Row) (t : ℕ) : Type 0 where
  pub entry : ℕ
  pub row : Row
  pub is : row_of rows entry ≡ Some row
  pub task : row.info.task ≡ t

-- The counts of n entries: those of main and of tasks, and those that are not filled.
pub record AreCounted (n : ℕ) (rows : List Row) (ws : List ℕ) (counts : List ℕ) : Type 0 where
  pub size : length counts ≡ n
  pub main : slice_index counts 0 ≡ 0
  pub of_task : (t : ℕ) → t < n → HasRow rows t
      → slice_index counts t ≡ below (λ e. adds_to t (row_of rows e) (state_in ws e)) n
  pub unfilled : (t : ℕ) → t ≢ 0 → t < n → (HasRow rows t → ⊥) → slice_index counts t ≡ 18446744073709551615
