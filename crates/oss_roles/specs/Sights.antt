-- What a seat of a field knows: the words' view, the jobs that it holds, and what it has begun and not finished.
-- Read against: a seat that took the job of task 7 bears 7 with the path 0 ∷ [] and the body as it was put. It loads cell 4: then the body that
-- it bears has one answer more. It gives up entry 8, whose last child is 12: between the two steps words.half is 8. A seat that holds the join
-- of 14 has (14, 0) among the messages that it holds; between the fold of the cell and the give of 14 its joined is 14. A seat that has set
-- reads of 8 owes a count down of 7 until it has made it.
use Rattle.std.specs.Prelude.{ℕ, List, Option}
use Rattle.oss_model.specs.Bodies.{Body}
use Rattle.oss_words.specs.declared.entry.EntryState.{EntryState}
use Rattle.oss_words.specs.Views.{View, Seen}
use Rattle.oss_roles.specs.Roles.{Site}

-- How a job tells whose it is: that of the task with this number, with this body, and with these last children, one for each site at most.
abbrev pub Telling : Type 0 → Type 0 → Type 1
Telling S J = J → ℕ → Body S → (Site → Option ℕ) → Type 0

-- A job that a seat holds: the task's number and path, its body as the machine has it, and its last child on each site.
pub record Bearing (S : Type 0) : Type 0 where
  pub number : ℕ
  pub path : List ℕ
  pub body : Body S
  pub last : Site → Option ℕ

-- A new task that a seat is making: its creator's number, its own, and how far its slot is: at home and empty (0), out with the seat (1),
-- or at home with the job (2).
pub record Making : Type 0 where
  pub by : ℕ
  pub task : ℕ
  pub stage : ℕ

-- The number of a task, and what its last load found.
pub record Noted : Type 0 where
  pub name : ℕ
  pub value : ℕ

-- What a seat has read of an entry of a job that it holds, and the value, if it has written one beside the word.
pub record Fixed : Type 0 where
  pub entry : ℕ
  pub state : EntryState
  pub value : Option ℕ

-- The view of a seat.
pub record Sight (S : Type 0) : Type 0 where
  -- of it the rule of the words reads what is held, and half
  pub words : View
  -- the jobs that it holds, and the tasks that it is making
  pub bears : List (Bearing S)
  pub makes : List Making
  -- entries that it drew, and that have no role yet
  pub drawn : List ℕ
  -- tasks whose count was found to be 0
  pub ready : List ℕ
  -- what the last load of a pending fold into a cell has found
  pub loaded : List Noted
  -- an entry whose slot it has joined, while the entry is not given up yet
  pub joined : List ℕ
  -- tasks to whose counts a count down is owed
  pub owes : List ℕ
  -- words that it read, all of whose flags still stand; and of entries of the jobs that it holds, whose left, and but for reductions
  -- that are left whose given, are still as they were read
  pub seen : List Seen
  pub still : List Fixed
