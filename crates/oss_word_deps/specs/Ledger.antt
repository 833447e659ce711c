-- The accesses of tasks to cells as a list of entries, and the lists of one cell among them.
-- Read against: task 1 of main with inout(a) over the cells 0 and 1, its child 2 with out on cell 0, and task 3 of main with in on cell 0.
-- Task 1 has the entries 1 and 2, task 2 has 3, and task 3 has 4. In the lists of cell 0 the entry 1 is the first of main, 3 is the first
-- of 1, and 4 stands after 1; the entry 2 is no row there. Main's last is 4 at cell 0 and 2 at cell 1; the last of 1 is 3.
use Rattle.std.specs.Prelude.{ℕ, zero, suc, ◌==◌, Bool, false, if◌then◌else◌, List, Option, Some, None, slice_get}
use Rattle.oss_syntax.specs.declared.access.Mode.{Mode}
use Rattle.oss_syntax.specs.declared.access.Mode.TheVariants.{Write}
use Rattle.oss_words.specs.declared.entry.After.{After}
use Rattle.oss_words.specs.declared.entry.After.TheVariants.{FirstOf, FirstOfMain, Sibling}
use Rattle.oss_access_lists.specs.Wires.{Place, Wires, loose, first, after}
use Rattle.oss_word_deps.specs.declared.book.Book.{Book}
use Rattle.oss_word_deps.specs.declared.entry.Entry.{Entry}
use Rattle.oss_word_deps.specs.declared.entry.Mark.{Mark}
use Rattle.oss_word_deps.specs.declared.entry.Job.{Job}

-- What contracts see of a book.
pub record Ledger : Type 0 where
  -- the entry 1 is the first of the list
  pub entries : List Entry
  -- what has become of each
  pub marks : List Mark
  -- a row for each task that was opened
  pub jobs : List Job
  -- the last entry of main's children at each cell, 0 where there is none
  pub mains : List ℕ

abbrev pub ledger_of : Book → Ledger
ledger_of book = record { entries = book.entries.items; marks = book.marks.items; jobs = book.jobs.items; mains = book.mains.items }

-- The entry of a number; 0 stands for main and is none.
abbrev pub entry_of : List Entry → ℕ → Option Entry
entry_of entries zero = None
entry_of entries (suc n) = slice_get entries n

-- The entry, if it is one of the cell.
abbrev pub in_cell : ℕ → Option Entry → Option Entry
in_cell c None = None
in_cell c (Some e) = if e.cell == c then Some e else None

abbrev pub row : List Entry → ℕ → ℕ → Option Entry
row entries c v = in_cell c (entry_of entries v)

-- Where an entry hangs in the lists of its cell: main's list is that of number 0.
abbrev pub hangs_at : After → Place
hangs_at FirstOfMain = first 0
hangs_at (FirstOf p) = first p
hangs_at (Sibling o) = after o

abbrev pub place_in : Option Entry → Place
place_in None = loose
place_in (Some e) = hangs_at e.after

abbrev pub mode_of : Option Entry → Mode
mode_of None = Write
mode_of (Some e) = e.info.mode

abbrev pub task_in : Option Entry → Option ℕ
task_in None = None
task_in (Some e) = Some e.task

-- No child, and not given up.
abbrev pub no_mark : Mark
no_mark = record { last = 0; given = false }

abbrev pub or_none : Option Mark → Mark
or_none None = no_mark
or_none (Some m) = m

abbrev pub mark_of : List Mark → ℕ → Mark
mark_of marks zero = no_mark
mark_of marks (suc n) = or_none (slice_get marks n)

abbrev pub last_in : Option Entry → Mark → ℕ
last_in None m = 0
last_in (Some e) m = m.last

abbrev pub given_in : Option Entry → Mark → Bool
given_in None m = false
given_in (Some e) m = m.given

-- The last entry of main's children at a cell.
abbrev pub or_zero : Option ℕ → ℕ
or_zero None = 0
or_zero (Some n) = n

-- The last child of an entry at a cell, or of main.
abbrev pub last_of : Ledger → ℕ → ℕ → ℕ
last_of l c zero = or_zero (slice_get l.mains c)
last_of l c (suc n) = last_in (row l.entries c (suc n)) (mark_of l.marks (suc n))

-- The lists of a cell.
abbrev pub lists_of : Ledger → ℕ → Wires
lists_of l c = record {
  place = λ v. place_in (row l.entries c v);
  last = last_of l c;
  mode = λ v. mode_of (row l.entries c v);
  gave = λ v. given_in (row l.entries c v) (mark_of l.marks v);
}

-- The task of each entry there.
abbrev pub task_of : List Entry → ℕ → ℕ → Option ℕ
task_of entries c v = task_in (row entries c v)
