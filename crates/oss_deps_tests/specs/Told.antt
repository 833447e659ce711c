-- What a dependency system was told, by which the calls of a test keep to its conditions.
-- Read against: task 1 was opened with `0..4`, and `0..2` was given up for it. Then 1 may give up `2..4` and not `0..1`, and a child of
-- it may have `2..4` and not `1..3`.
use Rattle.std.specs.Prelude.{◌≡◌, ℕ, ◌≤◌, ◌<◌, ◌⊎◌, true, List, Some}
use Rattle.oss_syntax.specs.declared.access.Access.{Access}
use Rattle.oss_syntax.specs.declared.access.Mode.{Mode}
use Rattle.oss_syntax.specs.declared.access.Range.{Range}
use Rattle.oss_model.specs.Order.{IsIn}
use Rattle.oss_model.specs.Rights.{covers}
use Rattle.oss_deps.specs.declared.opened.Open.{Open}
use Rattle.oss_deps.specs.Opens.{AreOpens, IsNested, access_at}
use Rattle.oss_deps.specs.Seen.{CanGive, CanOpen, Seen}

-- One of the ranges that were given up is of the task, and has the cell.
pub record WasGiven (gives : List (ℕ × Range)) (t c : ℕ) : Type 0 where
  pub entry : ℕ × Range
  pub listed : IsIn entry gives
  pub task : entry.0 ≡ t
  pub from : entry.1.lo ≤ c
  pub before : c < entry.1.hi

-- The opens are those of the system, and nothing is given up but these ranges.
pub record IsTold (s : Seen) (opens : List Open) (gives : List (ℕ × Range)) : Type 0 where
  pub opens_are : s.opens ≡ opens
  pub right : AreOpens opens
  pub given : (t c : ℕ) → s.given t c ≡ true → WasGiven gives t c

-- The task has an access of this mode to each cell of a range.
pub record HasModeOver (opens : List Open) (t lo hi : ℕ) (mode : Mode) : Type 0 where
  pub entry : Open
  pub listed : IsIn entry opens
  pub number : entry.task ≡ t
  pub access : Access
  pub over : (c : ℕ) → lo ≤ c → c < hi → access_at entry.accesses c ≡ Some access
  pub mode_is : access.mode ≡ mode

-- A range that was given up is of another task, or has no cell of a range.
abbrev pub IsApart : ℕ → ℕ → ℕ → ℕ × Range → Type 0
IsApart t lo hi given = given.0 ≡ t → given.1.lo < hi → lo < given.1.hi → ⊥

-- The task has given up no cell of a range.
abbrev pub IsKept : List (ℕ × Range) → ℕ → ℕ → ℕ → Type 0
IsKept gives t lo hi = (c : ℕ) → lo ≤ c → c < hi → WasGiven gives t c → ⊥

-- The task is nested at most so deep.
abbrev pub IsShallow : List Open → ℕ → ℕ → Type 0
IsShallow opens t levels = (depth : ℕ) × IsNested opens t depth × (depth ≤ levels)

-- The creator is main, or has kept the cells of the access, with a mode that covers it.
abbrev pub IsLent : List Open → List (ℕ × Range) → ℕ → Access → Type 0
IsLent opens gives p a = (p ≡ 0) ⊎ ((mode : Mode) × HasModeOver opens p a.range.lo a.range.hi mode × (covers mode a.mode ≡ true) × IsKept gives p a.range.lo a.range.hi)

-- By what was told, the task may be opened.
abbrev pub MayOpen : List Open → List (ℕ × Range) → Open → Type 0
MayOpen opens gives o = (s : Seen) → IsTold s opens gives → CanOpen s o

-- By what was told, the task may give up a range between cuts.
abbrev pub MayGive : List Open → List (ℕ × Range) → ℕ → Range → Type 0
MayGive opens gives t range = (s : Seen) → IsTold s opens gives → s.cut range.lo ≡ true → s.cut range.hi ≡ true → CanGive t range s
