-- A book with its net, as its calls name it, and how each call changes it.
-- Read against: the entries of `Ledger` in a net of 64. There is room for 59 more, as far as the net goes. When task 2 gives up cell 0, the mark
-- of the entry 3 is that it is given up, and nothing else changes.
use Rattle.std.specs.Prelude.{◌≡◌, ℕ, zero, suc, ◌<◌, ◌≤◌, ◌+◌, true, List, Option, Some, None, false, length, slice_get, slice_set}
use Rattle.oss_syntax.specs.declared.access.Access.{Access}
use Rattle.oss_deps.specs.declared.opened.Open.{Open}
use Rattle.oss_deps.specs.Seen.{CanGive, CanOpen, Seen}
use Rattle.oss_syntax.specs.declared.access.Range.{Range}
use Rattle.oss_model.specs.Forest.{IsDone}
use Rattle.oss_access_lists.specs.Wires.{IsBefore, Wires, wired}
use Rattle.oss_word_deps.specs.declared.entry.Entry.{Entry}
use Rattle.oss_word_deps.specs.declared.entry.Job.{Job}
use Rattle.oss_word_deps.specs.declared.entry.Mark.{Mark}
use Rattle.oss_deps.specs.Kept.{Kept, seen_of}
use Rattle.oss_word_deps.specs.Booked.{IsBooked, IsJob, cell_count}
use Rattle.oss_word_deps.specs.Ledger.{Ledger, entry_of, mark_of, or_none}

-- The book, how many entries the net has, and for how many rows there is room.
pub record Shelved : Type 0 where
  pub ledger : Ledger
  pub size : ℕ
  pub entries_room : ℕ
  pub marks_room : ℕ
  pub jobs_room : ℕ

-- A task with so many cells fits.
pub record HasPlace (count : ℕ) (s : Shelved) : Type 0 where
  pub net : length s.ledger.entries + count < s.size
  pub entries : length s.ledger.entries + count ≤ s.entries_room
  pub marks : length s.ledger.entries + count ≤ s.marks_room
  pub jobs : length s.ledger.jobs < s.jobs_room

-- There is as much room.
pub record IsAsLarge (old new : Shelved) : Type 0 where
  pub size : new.size ≡ old.size
  pub entries : new.entries_room ≡ old.entries_room
  pub marks : new.marks_room ≡ old.marks_room
  pub jobs : new.jobs_room ≡ old.jobs_room

-- The entry is given up.
abbrev pub freed_at : List Mark → ℕ → List Mark
freed_at marks zero = marks
freed_at marks (suc n) = slice_set marks n (record { last = (or_none (slice_get marks n)).last; given = true })

abbrev pub freed : Ledger → ℕ → Ledger
freed l v = record { entries = l.entries; marks = freed_at l.marks v; jobs = l.jobs; mains = l.mains }

-- The task of the call may be opened.
pub record MayOpenAs (s : Seen) (o : Open) (task parent : ℕ) (accesses : List Access) (l : Ledger) : Type 0 where
  pub booked : IsBooked s l
  pub can : CanOpen s o
  pub task_is : o.task ≡ task
  pub parent_is : o.parent ≡ parent
  pub accesses_are : o.accesses ≡ accesses

-- The job of a task that is known; main has none.
abbrev pub IsJobFor : Ledger → ℕ → Option Job → Type 0
IsJobFor l task None = task ≡ 0
IsJobFor l task (Some job) = (n : ℕ) × (slice_get l.jobs n ≡ Some job) × (job.task ≡ task) × IsJob l.entries job

-- There is at least as much room.
pub record IsNoSmaller (old new : Shelved) : Type 0 where
  pub size : old.size ≤ new.size
  pub entries : old.entries_room ≤ new.entries_room
  pub marks : old.marks_room ≤ new.marks_room
  pub jobs : old.jobs_room ≤ new.jobs_room

-- Nothing but where cells are given up has changed.
pub record HasSameRows (old new : Ledger) : Type 0 where
  pub entries : new.entries ≡ old.entries
  pub jobs : new.jobs ≡ old.jobs

-- The access v of the list and all before it are done.
pub record IsListDone (w : Wires) (v : ℕ) : Type 0 where
  pub last : IsDone (wired w) v
  pub before : (u : ℕ) → IsBefore w.place u v → IsDone (wired w) u

-- The cell of the entry v is being given up for its task.
pub record MayFree (l : Ledger) (v : ℕ) : Type 0 where
  pub entry : Entry
  pub is : entry_of l.entries v ≡ Some entry
  pub held : (mark_of l.marks v).given ≡ false

-- The task of the job may give up the cells of a range.
pub record MayGiveOver (s : Seen) (job : Job) (range : Range) (l : Ledger) : Type 0 where
  pub booked : IsBooked s l
  pub can : CanGive job.task range s
  pub is_job : IsJob l.entries job

-- What holds of the words that are kept beside plain lists: the book holds what the lists were told, and the reserved accesses fit.
pub record AreRight (most : ℕ) (kept : Kept) (words : Option Shelved) : Type 0 where
  pub bound : most ≤ 16777216
  pub booked : (w : Shelved) → words ≡ Some w → IsBooked (seen_of kept) w.ledger
  pub size : (w : Shelved) → words ≡ Some w → w.size ≤ most
  pub ready : (w : Shelved) (accesses : List Access) → words ≡ Some w → kept.reserved ≡ Some accesses → HasPlace (cell_count accesses) w

-- The words are as they were, but for more room, or are given up.
abbrev pub IsRoomier : ℕ → Option Shelved → Option Shelved → Type 0
IsRoomier most old new = (w : Shelved) → new ≡ Some w → (v : Shelved) × (old ≡ Some v) × (w.ledger ≡ v.ledger) × IsNoSmaller v w × (w.size ≤ most)

-- A task with so many cells fits, where there are words.
abbrev pub HasPlaceIn : ℕ → Option Shelved → Type 0
HasPlaceIn count words = (w : Shelved) → words ≡ Some w → HasPlace count w
