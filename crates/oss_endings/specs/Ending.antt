-- What a job tells of the entries and the children of its task, and what a seat has seen of them.
-- Read against: the job of task 7, which may write cell 4 and has a strong reduction of cell 5: its entries are 7, 8 and 9. Its last child is 12, with the entry 13 on cell 4. A seat reads 12, finds that it is
-- clear and done, and has seen that all children of 7 are done. The body of 7 has ended: the clause wait is met, and the seat may let go of both cells. Once it has seen that 8 and 9 are given up, all cells are.
use Rattle.std.specs.Prelude.{◌≡◌, ℕ, Bool, true, false, ◌&&◌, Option, Some, None}
use Rattle.oss_body.specs.Relation.{has_wait, is_over, released_by}
use Rattle.oss_jobs.specs.declared.job.Job.{Job}
use Rattle.oss_jobs.specs.Entries.{or_zero}
use Rattle.oss_jobs.specs.Jobs.{body_of, entry_at, last_at, last_child_of, task_of}
use Rattle.oss_model.specs.Context.{right_of}
use Rattle.oss_model.specs.Rights.{Right, Holds}
use Rattle.oss_syntax.specs.declared.access.Mode.{Mode}
use Rattle.oss_words.specs.Views.{Among, Seen}
use Rattle.oss_field.specs.Giving.{IsSeenGiven}
use Rattle.oss_field.specs.Known.{Known}

-- The entry of the job's task on a cell, or for `None` its own; and its last child there.
abbrev pub entry_there : Job → Option ℕ → ℕ
entry_there job None = task_of job
entry_there job (Some c) = or_zero (entry_at job c)

abbrev pub last_there : Job → Option ℕ → Option ℕ
last_there job None = last_child_of job
last_there job (Some c) = last_at job c

-- The right to a cell with which the task has started.
abbrev pub right_there : Job → ℕ → Right
right_there job c = right_of (body_of job).own.context c

-- The task has no child there, or all are done up to the last, as the seat has seen.
pub data AreDone (job : Job) (k : Known) (cell : Option ℕ) : Type 0 where
  none_there : last_there job cell ≡ None → AreDone job k cell
  seen_done : (y : Seen) → last_there job cell ≡ Some y.entry → Among y k.seen → y.state.clear ≡ true → y.state.done ≡ true → AreDone job k cell

-- The last child there was seen, and it or one before it was not done.
pub record IsUndone (job : Job) (k : Known) (cell : Option ℕ) : Type 0 where
  pub it : Seen
  pub last : last_there job cell ≡ Some it.entry
  pub among : Among it k.seen
  pub undone : (it.state.clear && it.state.done) ≡ false

-- The task has no child, or its last child is done, as the seat has seen.
pub data IsNewestDone (job : Job) (k : Known) : Type 0 where
  no_newest : last_child_of job ≡ None → IsNewestDone job k
  newest_seen : (y : Seen) → last_child_of job ≡ Some y.entry → Among y k.seen → y.state.done ≡ true → IsNewestDone job k

-- The last child was seen, and it was not done.
pub record IsNewestUndone (job : Job) (k : Known) : Type 0 where
  pub it : Seen
  pub last : last_child_of job ≡ Some it.entry
  pub among : Among it k.seen
  pub undone : it.state.done ≡ false

-- The clause wait asks for nothing, or is met.
abbrev pub IsWaitMet : Job → Known → Type 0
IsWaitMet job k = has_wait (body_of job) ≡ true → AreDone job k None

-- Why the task may let go of the cell: it has released it, or it has ended, and the clause wait is met.
pub data MayLetGo (job : Job) (k : Known) (cell : ℕ) : Type 0 where
  has_released : released_by (body_of job) cell ≡ true → MayLetGo job k cell
  has_ended : is_over (body_of job) ≡ true → IsWaitMet job k → MayLetGo job k cell

-- The seat has seen that the entry is not given up.
pub record IsSeenOpen (k : Known) (e : ℕ) : Type 0 where
  pub it : Seen
  pub among : Among it k.seen
  pub entry : it.entry ≡ e
  pub open_then : it.state.given ≡ false

-- The seat has seen that the task has given up each cell to which it has a right.
abbrev pub AllGiven : Job → Known → Type 0
AllGiven job k = (c : ℕ) (mode : Mode) (strong : Bool) → right_there job c ≡ Holds mode strong → IsSeenGiven k (entry_there job (Some c))
