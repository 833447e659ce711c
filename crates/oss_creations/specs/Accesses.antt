-- The accesses of a new task, cell by cell, and for how many of them the count of the task waits.
-- Read against: main stands before the creation of a task with in(x) and a weak out(y), of the cells 4 and 5, and has a last child on cell 4 alone. The accesses are 4..5, a strong read, and 5..6, a
-- weak write. The count of the task waits for the entry on 4. If main had no child on 4 either, that entry would begin a list of main, and the count would wait for nothing.
use Rattle.std.specs.Prelude.{◌≡◌, ◌<◌, ◌≤◌, ◌+◌, ◌-◌, ◌==◌, ◌&&◌, ℕ, Bool, false, List, [], ◌∷◌, if◌then◌else◌, Option, Some, None}
use Rattle.oss_judge.specs.Joined.{IsRising, held_right}
use Rattle.oss_jobs.specs.declared.job.Job.{Job}
use Rattle.oss_jobs.specs.Entries.{or_zero}
use Rattle.oss_jobs.specs.Jobs.{entry_at, last_at, last_child_of, task_of}
use Rattle.oss_model.specs.Rights.{Right, Holds, right_from}
use Rattle.oss_roles.specs.Numbers.{cells_below, entry_number}
use Rattle.oss_syntax.specs.declared.access.Access.{Access}
use Rattle.oss_syntax.specs.declared.access.Mode.{Mode}
use Rattle.oss_syntax.specs.declared.access.Mode.TheVariants.{Read}
use Rattle.oss_words.specs.declared.entry.After.{After}
use Rattle.oss_words.specs.declared.entry.After.TheVariants.{FirstOf, FirstOfMain, Sibling}
use Rattle.oss_words.specs.Sums.{below, num}
use Rattle.oss_field.specs.Plans.{is_missing, waits_for}

-- The accesses give the task its rights: each cell once, and in rising order.
abbrev pub Gives : (ℕ → Right) → List Access → Type 0
Gives own xs = IsRising xs × ((c : ℕ) → right_from false xs c ≡ held_right (own c))

-- The entry of a new task with these rights, whose number is t, has this mode there: its own is a weak read, and that on a cell is as the right says.
abbrev pub IsEntryOf : (ℕ → Right) → ℕ → ℕ → Mode → Bool → Option ℕ → Type 0
IsEntryOf own t e mode strong None = (e ≡ t) × (mode ≡ Read) × (strong ≡ false)
IsEntryOf own t e mode strong (Some c) = (own c ≡ Holds mode strong) × (e ≡ entry_number t own c)

-- The cells from lo up to hi have this right, and their entries begin with the one named.
abbrev pub IsRunOf : (ℕ → Right) → ℕ → ℕ → ℕ → ℕ → Mode → Bool → Type 0
IsRunOf own t first lo hi mode strong = (first ≡ t + 1 + cells_below own lo) × ((c : ℕ) → lo ≤ c → c < hi → own c ≡ Holds mode strong)

-- What the creator's job tells

-- The count of a new child waits for its entry on this cell, which has this mode.
abbrev pub waits_at : Job → Mode → Bool → ℕ → Bool
waits_at j mode strong c = waits_for (Holds mode strong) ((task_of j == 0) && is_missing (last_at j c))

-- How many of the cells below this one would be waited for, if all had this mode.
abbrev pub waits_below : Job → Mode → Bool → ℕ → ℕ
waits_below j mode strong c = below (λ d. num (waits_at j mode strong d)) c

-- For how many cells of these accesses the count of a new child waits.
abbrev pub waits_of : Job → List Access → ℕ
waits_of j [] = 0
waits_of j (a ∷ rest) = (waits_below j a.mode a.strong a.range.hi - waits_below j a.mode a.strong a.range.lo) + waits_of j rest

-- The creator's entry there, which is 0 for main; its last child there; and what these name.
abbrev pub parent_told : Job → Option ℕ → ℕ
parent_told j None = task_of j
parent_told j (Some c) = if task_of j == 0 then 0 else or_zero (entry_at j c)

abbrev pub last_told : Job → Option ℕ → Option ℕ
last_told j None = last_child_of j
last_told j (Some c) = last_at j c

abbrev pub after_behind : Option ℕ → ℕ → ℕ → After
after_behind (Some o) t parent = Sibling o
after_behind None t parent = if t == 0 then FirstOfMain else FirstOf parent
