-- What a tree keeps beside its tasks, so that whether a task is complete need not be sought below it: for each task a mark, which
-- stands behind the first of its children that are complete.
-- Read against: main created a and b, and a created c. While only b is complete, the mark of main is 0, since a is not complete;
-- once a is, it is 2.
use Rattle.std.specs.Prelude.{◌≡◌, ◌<◌, ◌≤◌, ◌==◌, ◌&&◌, ◌⊎◌, ℕ, Bool, true, false, List, length, Option, Some, None, slice_get, slice_index}
use Rattle.oss_tree.specs.Tasks.{number}
use Rattle.oss_tree.specs.declared.task.Task.{Task}

-- The task is closed, and its mark stands behind all its children: a with the mark 1.
abbrev pub settles : Option Task → ℕ → Bool
settles None mark = false
settles (Some one) mark = one.ended && one.gave_all && (mark == length one.children)

-- The same of the task with this number, and its mark.
abbrev pub is_settled : List Task → List ℕ → ℕ → Bool
is_settled tasks marks t = settles (slice_get tasks t) (slice_index marks t)

-- The mark of a task stands behind children that are settled, but for one that may have come to be open again (`reopened`), and
-- before one that is not, but for one that may have come to be settled (`closed`).
pub record IsMarked (tasks : List Task) (marks : List ℕ) (reopened closed : ℕ → Type 0) (t : ℕ) (one : Task) : Type 0 where
  pub within : slice_index marks t ≤ length one.children
  pub behind : (k c : ℕ) → k < slice_index marks t → slice_get one.children k ≡ Some (number c) → (is_settled tasks marks c ≡ true) ⊎ reopened c
  pub before : (c : ℕ) → slice_get one.children (slice_index marks t) ≡ Some (number c) → (is_settled tasks marks c ≡ false) ⊎ closed c

-- The same of each task.
pub record AreMarkedBut (tasks : List Task) (marks : List ℕ) (reopened closed : ℕ → Type 0) : Type 0 where
  pub each : length marks ≡ length tasks
  pub marked : (t : ℕ) (one : Task) → slice_get tasks t ≡ Some one → IsMarked tasks marks reopened closed t one

-- No task is among these.
abbrev pub Nobody : ℕ → Type 0
Nobody c = ⊥

-- One task alone is.
abbrev pub Alone : ℕ → ℕ → Type 0
Alone t c = c ≡ t

-- Each task that this one created.
abbrev pub Below : List Task → ℕ → ℕ → Type 0
Below tasks t c = (one : Task) → slice_get tasks c ≡ Some one → one.parent ≡ Some (number t)

-- Each mark stands behind the first children that are settled.
abbrev pub AreMarked : List Task → List ℕ → Type 0
AreMarked tasks marks = AreMarkedBut tasks marks Nobody Nobody
