-- What is looked up in a book, and what is asked of it.
-- Read against: the entries of `Ledger`. The job of task 2 is that of place 1, and its entry at cell 0 is 3; it has none at cell 1.
use Rattle.std.specs.Prelude.{◌≡◌, ℕ, Bool, true, List, Some, slice_get}
use Rattle.oss_syntax.specs.declared.access.Mode.TheVariants.{Read, Write}
use Rattle.oss_model.specs.Forest.{IsReadSatisfied, IsWriteSatisfied}
use Rattle.oss_deps.specs.declared.opened.Open.{Open}
use Rattle.oss_deps.specs.Opens.{opened_forest}
use Rattle.oss_word_deps.specs.declared.entry.Entry.{Entry}
use Rattle.oss_word_deps.specs.declared.entry.Job.{Job}
use Rattle.oss_word_deps.specs.Ledger.{entry_of}

-- The job at this place is that of the task.
pub record IsJobOf (jobs : List Job) (n t : ℕ) : Type 0 where
  pub job : Job
  pub is : slice_get jobs n ≡ Some job
  pub task : job.task ≡ t

-- The entry is that of the task's access to the cell.
pub record IsRowOf (entries : List Entry) (c t v : ℕ) : Type 0 where
  pub entry : Entry
  pub is : entry_of entries v ≡ Some entry
  pub task : entry.task ≡ t
  pub cell : entry.cell ≡ c

-- What the entry's access waits for before its task may begin has come: a weak one and a reduction wait for nothing.
pub record IsLet (opens : List Open) (given : ℕ → ℕ → Bool) (e : Entry) : Type 0 where
  pub reads : e.info.strong ≡ true → e.info.mode ≡ Read → IsReadSatisfied (opened_forest opens given e.cell) e.task
  pub writes : e.info.strong ≡ true → e.info.mode ≡ Write → IsWriteSatisfied (opened_forest opens given e.cell) e.task
