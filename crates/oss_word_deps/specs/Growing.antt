-- How a book grows by the access of a new task to a cell.
-- Read against: the entries 1 and 2 of `Ledger`. When task 2 of depth 2 is opened below 1 with out on cell 0, the entry 3 gets the parent 1, and as
-- the last of 1 is 0 it is the first of 1; the last of 1 is 3 then. When task 3 of main follows, main's last at cell 0 is 1, so 4 is a sibling of 1, and main's
-- last there is 4.
use Rattle.std.specs.Prelude.{◌≡◌, ℕ, zero, suc, ◌<◌, ◌≤◌, ◌+◌, true, List, [], ◌∷◌, ◌++◌, Option, Some, None, length, slice_get, slice_set, vec_capacity}
use Rattle.oss_syntax.specs.declared.access.Access.{Access}
use Rattle.oss_model.specs.Order.{IsIn}
use Rattle.oss_deps.specs.declared.opened.Open.{Open}
use Rattle.oss_deps.specs.Opens.{AreOpens, HasOpened}
use Rattle.oss_deps.specs.Seen.{CanOpen, Seen}
use Rattle.oss_links.specs.Held.{AreHeld, IsAccessOf}
use Rattle.oss_words.specs.declared.entry.After.{After}
use Rattle.oss_words.specs.declared.entry.After.TheVariants.{FirstOf, FirstOfMain, Sibling}
use Rattle.oss_word_deps.specs.declared.book.Book.{Book}
use Rattle.oss_word_deps.specs.declared.entry.Entry.{Entry}
use Rattle.oss_word_deps.specs.declared.entry.Job.{Job}
use Rattle.oss_word_deps.specs.declared.entry.Mark.{Mark}
use Rattle.oss_word_deps.specs.Booked.{AreJobs, IsBooked, IsOfAccess, IsOfOpen}
use Rattle.oss_word_deps.specs.Ledger.{Ledger, entry_of, last_of, lists_of, mark_of, no_mark, or_none, task_of}
use Rattle.oss_word_deps.specs.Sound.{IsSound}

-- Where a new child of p is linked, whose last child is this one.
abbrev pub place_behind : ℕ → ℕ → After
place_behind zero zero = FirstOfMain
place_behind (suc p) zero = FirstOf (suc p)
place_behind p (suc o) = Sibling (suc o)

-- The new entry for a cell of an access, below p.
abbrev pub new_entry : Ledger → ℕ → ℕ → ℕ → ℕ → Access → ℕ → Entry
new_entry l task depth p first access cell = record {
  task = task;
  cell = cell;
  info = record { mode = access.mode; strong = access.strong; depth = depth; parent = p; task = first };
  after = place_behind p (last_of l cell p);
}

-- The last child of p is e from now on.
abbrev pub with_last : List Mark → ℕ → ℕ → List Mark
with_last marks zero e = marks
with_last marks (suc n) e = slice_set marks n (record { last = e; given = (or_none (slice_get marks n)).given })

-- If p is main, its last at the cell is e from now on.
abbrev pub with_main : List ℕ → ℕ → ℕ → ℕ → List ℕ
with_main mains zero c e = slice_set mains c e
with_main mains (suc n) c e = mains

-- The book with the entry behind all others.
abbrev pub grown : Ledger → ℕ → Entry → Ledger
grown l p x = record {
  entries = l.entries ++ x ∷ [];
  marks = with_last l.marks p (suc (length l.entries)) ++ no_mark ∷ [];
  jobs = l.jobs;
  mains = with_main l.mains p x.cell (suc (length l.entries));
}

-- The parent at the cell: main's number, or the creator's entry.
pub data IsParent (l : Ledger) (creator c : ℕ) : ℕ → Type 0 where
  of_main : creator ≡ 0 → IsParent l creator c 0
  of_task : {p : ℕ} → task_of l.entries c p ≡ Some creator → IsParent l creator c p

-- There is a new entry for the cell.
pub record HasNew (entries : List Entry) (first c : ℕ) : Type 0 where
  pub number : ℕ
  pub entry : Entry
  pub from : first ≤ number
  pub is : entry_of entries number ≡ Some entry
  pub cell : entry.cell ≡ c

-- The book while the task o is written into it, whose first entry is this one; all its new entries are of cells below `upto`.
pub record IsGrowing (s : Seen) (o : Open) (depth first upto : ℕ) (l : Ledger) : Type 0 where
  pub sound : IsSound l
  pub new : (c : ℕ) → HasNew l.entries first c → AreHeld (s.opens ++ o ∷ []) s.given c (lists_of l c) (IsAccessOf (task_of l.entries c))
  pub old : (c : ℕ) → (HasNew l.entries first c → ⊥) → AreHeld s.opens s.given c (lists_of l c) (IsAccessOf (task_of l.entries c))
  pub of_old : (v : ℕ) (e : Entry) → v < first → entry_of l.entries v ≡ Some e → IsOfOpen s.opens e
  pub of_new : (v : ℕ) (e : Entry) → first ≤ v → entry_of l.entries v ≡ Some e → IsOfAccess o e × (e.info.depth ≡ depth) × (e.cell < upto)
  pub rising : (u v : ℕ) (d e : Entry) → first ≤ u → u < v → entry_of l.entries u ≡ Some d → entry_of l.entries v ≡ Some e → d.cell < e.cell
  pub jobs : AreJobs s.opens l
  pub from : (0 < first) × (first ≤ length l.entries + 1)

-- The creator of a task as its book has it: main, or the task of a job; and how deep the task is nested.
abbrev pub IsCreator : List Job → Option Job → ℕ → ℕ → Type 0
IsCreator jobs None creator depth = (creator ≡ 0) × (depth ≡ 1)
IsCreator jobs (Some job) creator depth = (n : ℕ) × (slice_get jobs n ≡ Some job) × (job.task ≡ creator) × (depth ≡ 1 + job.depth)

-- The task o is being opened, as one nested so deep, with this as its first entry.
pub record IsOpening (s : Seen) (o : Open) (depth first : ℕ) (creator : Option Job) (jobs : List Job) : Type 0 where
  pub opens_are : AreOpens s.opens
  pub can : CanOpen s o
  pub given_by : (t c : ℕ) → s.given t c ≡ true → HasOpened s.opens c t
  pub shallow : depth ≤ 64
  pub creator_is : IsCreator jobs creator o.parent depth

-- An access of the task may be written into the book from this cell on.
pub record MayAdd (s : Seen) (o : Open) (depth first upto : ℕ) (creator : Option Job) (access : Access) (cell : ℕ) (l : Ledger) : Type 0 where
  pub opening : IsOpening s o depth first creator l.jobs
  pub growing : IsGrowing s o depth first upto l
  pub few : first < 16777216
  pub listed : IsIn access o.accesses
  pub from : access.range.lo ≤ cell
  pub before : cell < access.range.hi
  pub behind : upto ≤ cell

-- The second book has all that the first has.
pub record IsFrontOf (l n : Ledger) : Type 0 where
  pub entries : (v : ℕ) (e : Entry) → entry_of l.entries v ≡ Some e → entry_of n.entries v ≡ Some e
  pub back : (v : ℕ) (e : Entry) → v ≤ length l.entries → entry_of n.entries v ≡ Some e → entry_of l.entries v ≡ Some e
  pub given : (v : ℕ) → (mark_of n.marks v).given ≡ (mark_of l.marks v).given

-- The cells of the access have entries in the second book, up to this one, and nothing is lost.
pub record HasAdded (first : ℕ) (access : Access) (upto : ℕ) (l n : Ledger) : Type 0 where
  pub front : IsFrontOf l n
  pub jobs : n.jobs ≡ l.jobs
  pub added : (c : ℕ) → access.range.lo ≤ c → c < upto → HasNew n.entries first c
  pub kept : (c : ℕ) → HasNew l.entries first c → HasNew n.entries first c
  pub count : length n.entries + access.range.lo ≡ length l.entries + upto

-- There is room for so many entries more.
pub record HasRoom (count : ℕ) (book : Book) : Type 0 where
  pub entries : length book.entries.items + count ≤ vec_capacity book.entries
  pub marks : length book.entries.items + count ≤ vec_capacity book.marks

-- The same vectors, with the same room.
pub record HasSameRoom (old new : Book) : Type 0 where
  pub entries : vec_capacity new.entries ≡ vec_capacity old.entries
  pub marks : vec_capacity new.marks ≡ vec_capacity old.marks
  pub jobs : new.jobs ≡ old.jobs

-- The task o may be written into the book.
pub record MayExtend (s : Seen) (o : Open) (creator : Option Job) (l : Ledger) : Type 0 where
  pub booked : IsBooked s l
  pub sound : IsSound l
  pub can : CanOpen s o
  pub creator_is : (creator ≡ None → o.parent ≡ 0) × ((job : Job) → creator ≡ Some job → (n : ℕ) × (slice_get l.jobs n ≡ Some job) × (job.task ≡ o.parent))
