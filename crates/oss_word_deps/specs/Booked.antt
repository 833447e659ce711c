-- A book holds the accesses of the tasks that were opened.
-- Read against: the entries 1 to 4 of `Ledger`, for the tasks 1, 2 and 3, opened in this order. The jobs are task 1 with the entries from 1
-- up to 3 and depth 1, task 2 with 3 up to 4 and depth 2, and task 3 with 4 up to 5 and depth 1.
use Rattle.std.specs.Prelude.{◌≡◌, ℕ, ◌<◌, ◌≤◌, ◌+◌, ◌-◌, true, List, [], ◌∷◌, Some, length, slice_get}
use Rattle.oss_syntax.specs.declared.access.Access.{Access}
use Rattle.oss_model.specs.Order.{IsIn}
use Rattle.oss_deps.specs.declared.opened.Open.{Open}
use Rattle.oss_deps.specs.Opens.{AreOpens, HasOpened, IsNested, access_at}
use Rattle.oss_deps.specs.Seen.{Seen}
use Rattle.oss_links.specs.Held.{AreHeld, IsAccessOf}
use Rattle.oss_word_deps.specs.declared.entry.Entry.{Entry}
use Rattle.oss_word_deps.specs.declared.entry.Job.{Job}
use Rattle.oss_word_deps.specs.Ledger.{Ledger, entry_of, lists_of, task_of}

-- The entry is of an access of the open: of its mode, and strong where it is.
pub record IsOfAccess (o : Open) (e : Entry) : Type 0 where
  pub task : o.task ≡ e.task
  pub access : Access
  pub at_ : access_at o.accesses e.cell ≡ Some access
  pub mode : access.mode ≡ e.info.mode
  pub strong : access.strong ≡ e.info.strong

-- And the open is one of the list.
pub record IsOfOpen (opens : List Open) (e : Entry) : Type 0 where
  pub entry : Open
  pub listed : IsIn entry opens
  pub of : IsOfAccess entry e

-- The entries of a task follow each other, and their cells rise.
pub record IsJob (entries : List Entry) (job : Job) : Type 0 where
  pub from : 0 < job.first
  pub upto : job.first ≤ job.end
  pub within : job.end ≤ length entries + 1
  pub of_task : (v : ℕ) (e : Entry) → job.first ≤ v → v < job.end → entry_of entries v ≡ Some e → (e.task ≡ job.task) × (e.info.depth ≡ job.depth)
  pub all : (v : ℕ) (e : Entry) → entry_of entries v ≡ Some e → e.task ≡ job.task → (job.first ≤ v) × (v < job.end)
  pub rising : (u v : ℕ) (d e : Entry) → job.first ≤ u → u < v → v < job.end → entry_of entries u ≡ Some d → entry_of entries v ≡ Some e → d.cell < e.cell

-- Each task that was opened has its job, in order, and is nested as deep as that says.
pub record AreJobs (opens : List Open) (l : Ledger) : Type 0 where
  pub size : length l.jobs ≡ length opens
  pub tasks : (n : ℕ) (o : Open) (job : Job) → slice_get opens n ≡ Some o → slice_get l.jobs n ≡ Some job → (job.task ≡ o.task) × IsNested opens o.task job.depth
  pub are : (n : ℕ) (job : Job) → slice_get l.jobs n ≡ Some job → IsJob l.entries job

-- The lists of each cell hold what was opened with it and given up.
pub record IsBooked (s : Seen) (l : Ledger) : Type 0 where
  pub opens_are : AreOpens s.opens
  pub held : (c : ℕ) → AreHeld s.opens s.given c (lists_of l c) (IsAccessOf (task_of l.entries c))
  pub of_open : (v : ℕ) (e : Entry) → entry_of l.entries v ≡ Some e → IsOfOpen s.opens e
  pub jobs : AreJobs s.opens l
  -- only a task with an access to a cell has given it up
  pub given_by : (t c : ℕ) → s.given t c ≡ true → HasOpened s.opens c t

-- The cells of a list of accesses.
abbrev pub cell_count : List Access → ℕ
cell_count [] = 0
cell_count (a ∷ rest) = (a.range.hi - a.range.lo) + cell_count rest
