-- What the lists of a cell tell of the opened tasks, whatever keeps the lists. The access of a task is told by a function from accesses to
-- tasks; who keeps the numbers of opens beside the table has `task_by` for it.
-- Read against: the tasks of `Held`, opened one after the other, at the moments of `Flags` in oss_access_lists.
use Rattle.std.specs.Prelude.{◌≡◌, ◌↔◌, ℕ, ◌<◌, ◌≤◌, ◌+◌, ◌==◌, ◌||◌, Bool, true, false, List, [], ◌∷◌, ◌++◌, Option, Some, None, length, slice_get}
use Rattle.oss_syntax.specs.declared.access.Mode.{Mode}
use Rattle.oss_syntax.specs.declared.access.Range.{Range}
use Rattle.oss_model.specs.Order.{IsIn}
use Rattle.oss_model.specs.Rights.{covers}
use Rattle.oss_deps.specs.declared.opened.Open.{Open}
use Rattle.oss_deps.specs.Opens.{AreChildrenDone, AreCovered, AreOpens, AreOrdered, Asks, HasOpened, IsMet, IsOpened, mode_at, names}
use Rattle.oss_deps.specs.Columns.{IsNumber, IsNumberOf}
use Rattle.oss_deps.specs.Hindrances.{HasUndoneChild, Hinders}
use Rattle.oss_deps.specs.Seen.{CanGive, CanOpen, Seen}
use Rattle.oss_access_lists.specs.declared.marks.Marks.{Marks}
use Rattle.oss_access_lists.specs.Wires.{Wires, first, after}
use Rattle.oss_access_lists.specs.Flags.{AreAtRest, is_over}
use Rattle.oss_access_lists.specs.Steps.{IsGift, IsHung}
use Rattle.oss_access_lists.specs.declared.hang.Hang.{Hang}
use Rattle.oss_access_lists.specs.Tables.{hang_at, no_hang, opened_in, wires_of}
use Rattle.oss_links.specs.Numbers.{IsCellHeld, given_by, task_by}
use Rattle.oss_links.specs.Held.{AreAlike, AreEmpty, AreHeld, IsAccessOf, IsAccessOrMain, IsNewAccess, with_task}
use Rattle.oss_links.specs.Readings.{AreLet, AreTrue, TellOfEach, TellOfTask, is_let, is_list_done}
use Rattle.oss_links.specs.Search.{IsInTheWay, IsStopped, IsUndoneUpTo, passes}

-- Empty lists hold the accesses of a system that was told of no task.
abbrev pub EmptyListsHold : Type 0
EmptyListsHold = (given : ℕ → ℕ → Bool) (c : ℕ) (w : Wires) (task_of : ℕ → Option ℕ) → AreEmpty w → ((v : ℕ) → task_of v ≡ None) → AreHeld [] given c w (IsAccessOf task_of)

-- A task that is opened with the cell is held once its access is hung in the list of its creator.
abbrev pub OpeningsHold : Type 0
OpeningsHold = (opens : List Open) (given : ℕ → ℕ → Bool) (c : ℕ) (w n : Wires) (task_of : ℕ → Option ℕ) (o : Open) (p e : ℕ) → AreHeld opens given c w (IsAccessOf task_of) → IsHung w n p e
    → IsNewAccess opens given c n (IsAccessOf task_of) o p e → AreHeld (opens ++ o ∷ []) given c n (IsAccessOf (with_task task_of o.task e))

-- A task that is opened without the cell changes nothing in its lists.
abbrev pub OpeningsAsideHold : Type 0
OpeningsAsideHold = (opens : List Open) (given : ℕ → ℕ → Bool) (c : ℕ) (w : Wires) (task_of : ℕ → Option ℕ) (o : Open) → AreHeld opens given c w (IsAccessOf task_of) → names c o ≡ false → (IsOpened opens o.task → ⊥)
    → AreHeld (opens ++ o ∷ []) given c w (IsAccessOf task_of)

-- Where a task gives up the cell, its access is given up.
abbrev pub GiftsHold : Type 0
GiftsHold = (opens : List Open) (given later : ℕ → ℕ → Bool) (c : ℕ) (w n : Wires) (task_of : ℕ → Option ℕ) (t g : ℕ) → AreHeld opens given c w (IsAccessOf task_of) → IsGift w n g → task_of g ≡ Some t
    → ((s : ℕ) → later s c ≡ (given s c || (t == s))) → AreHeld opens later c n (IsAccessOf task_of)

-- Nothing else matters than the values: how the lists hang, whose the accesses are, and what is given up at this cell.
abbrev pub AlikeHold : Type 0
AlikeHold = (opens : List Open) (given later : ℕ → ℕ → Bool) (c : ℕ) (w n : Wires) (task_of other : ℕ → Option ℕ) → AreHeld opens given c w (IsAccessOf task_of) → AreAlike w n → ((t : ℕ) → later t c ≡ given t c)
    → ((v : ℕ) → other v ≡ task_of v) → AreHeld opens later c n (IsAccessOf other)

-- A task that may be opened with the cell has a creator that is main, or has an access to it; that access is not given up, and its mode
-- covers that of the new one.
abbrev pub CreatorsHold : Type 0
CreatorsHold = (s : Seen) (c : ℕ) (w : Wires) (task_of : ℕ → Option ℕ) (o : Open) (p : ℕ) → AreOrdered s.opens → AreHeld s.opens s.given c w (IsAccessOf task_of) → CanOpen s o → names c o ≡ true
    → IsAccessOrMain (IsAccessOf task_of) o.parent p → (w.gave p ≡ false) × (covers (w.mode p) (mode_at c o) ≡ true)

-- There is such an access.
abbrev pub CreatorsAreHeld : Type 0
CreatorsAreHeld = (s : Seen) (c : ℕ) (w : Wires) (task_of : ℕ → Option ℕ) (o : Open) → AreHeld s.opens s.given c w (IsAccessOf task_of) → CanOpen s o → names c o ≡ true
    → (p : ℕ) × IsAccessOrMain (IsAccessOf task_of) o.parent p

-- A task that may give up a range has an access to each of its cells, and that is not main's.
abbrev pub GiversAreHeld : Type 0
GiversAreHeld = (s : Seen) (c : ℕ) (w : Wires) (task_of : ℕ → Option ℕ) (t : ℕ) (range : Range) → AreHeld s.opens s.given c w (IsAccessOf task_of) → CanGive t range s → range.lo ≤ c → c < range.hi
    → (v : ℕ) × (task_of v ≡ Some t) × (v ≡ 0 → ⊥)

-- The flags of an access tell of its task.
abbrev pub FlagsTell : Type 0
FlagsTell = (opens : List Open) (given : ℕ → ℕ → Bool) (c : ℕ) (w : Wires) (task_of : ℕ → Option ℕ) (t v : ℕ) (marks : Marks) → AreOrdered opens → AreHeld opens given c w (IsAccessOf task_of) → task_of v ≡ Some t
    → AreTrue w v marks → TellOfTask opens given c t marks

-- A task is met exactly where at each cell the flag stands that its access there asks for.
abbrev pub MetByFlags : Type 0
MetByFlags = (opens : List Open) (given : ℕ → ℕ → Bool) (o : Open) (marks : ℕ → Marks) → AreOpens opens → IsIn o opens → TellOfEach opens given o marks → AreLet o marks ↔ IsMet opens given o.task

-- Main is met.
abbrev pub MainIsMet : Type 0
MainIsMet = (opens : List Open) (given : ℕ → ℕ → Bool) → AreOrdered opens → IsMet opens given 0

-- All children's accesses are done exactly where the flags of the last one tell so.
abbrev pub LastChildTells : Type 0
LastChildTells = (opens : List Open) (given : ℕ → ℕ → Bool) (c : ℕ) (w : Wires) (F : ℕ → Marks) (task_of : ℕ → Option ℕ) (t p : ℕ) → AreOrdered opens → AreHeld opens given c w (IsAccessOf task_of) → AreAtRest w F
    → IsAccessOrMain (IsAccessOf task_of) t p → is_list_done w F p ≡ true ↔ AreChildrenDone opens given t c

-- The children of a task without an access to the cell have none there.
abbrev pub NoAccessNoChild : Type 0
NoAccessNoChild = (opens : List Open) (given : ℕ → ℕ → Bool) (c : ℕ) (w : Wires) (task_of : ℕ → Option ℕ) (t : ℕ) → AreCovered opens → AreHeld opens given c w (IsAccessOf task_of) → (t ≡ 0 → ⊥)
    → ((v : ℕ) → task_of v ≡ Some t → ⊥) → AreChildrenDone opens given t c

-- The search for what an access waits for begins at the access.
abbrev pub SearchBegins : Type 0
SearchBegins = (w : Wires) (F : ℕ → Marks) (m : Mode) (v : ℕ) → (v ≡ 0 → ⊥) → is_let m (F v) ≡ false → IsStopped w F m v v

-- It goes past the access before, where that may be passed: its flag does not stand either, and its number is less.
abbrev pub SearchGoesBack : Type 0
SearchGoesBack = (w : Wires) (F : ℕ → Marks) (m : Mode) (v x u : ℕ) → AreAtRest w F → IsStopped w F m v x → w.place x ≡ after u → passes m (w.mode u) (F u) ≡ true → IsStopped w F m v u × (u < x)

-- It goes up from the first of a list: the flag above does not stand either, and its number is less.
abbrev pub SearchGoesUp : Type 0
SearchGoesUp = (w : Wires) (F : ℕ → Marks) (m : Mode) (v x p : ℕ) → AreAtRest w F → IsStopped w F m v x → w.place x ≡ first p → IsStopped w F m v p × (p < x)

-- It ends at the access before, where that may not be passed: it stands in the way.
abbrev pub SearchEnds : Type 0
SearchEnds = (w : Wires) (F : ℕ → Marks) (m : Mode) (v x u : ℕ) → IsStopped w F m v x → w.place x ≡ after u → passes m (w.mode u) (F u) ≡ false → IsInTheWay w F m v u

-- What stands in the way of a task's access hinders the task, where the access asks for the flag.
abbrev pub WaysHinder : Type 0
WaysHinder = (opens : List Open) (given : ℕ → ℕ → Bool) (c : ℕ) (w : Wires) (F : ℕ → Marks) (task_of : ℕ → Option ℕ) (m : Mode) (t s v u : ℕ) → AreOrdered opens → AreHeld opens given c w (IsAccessOf task_of) → AreAtRest w F
    → task_of v ≡ Some t → task_of u ≡ Some s → Asks opens t c m → IsInTheWay w F m v u → Hinders opens given t s

-- The access that stands in the way is a task's.
abbrev pub WaysAreTasks : Type 0
WaysAreTasks = (opens : List Open) (given : ℕ → ℕ → Bool) (c : ℕ) (w : Wires) (F : ℕ → Marks) (task_of : ℕ → Option ℕ) (m : Mode) (t v u : ℕ) → AreOrdered opens → AreHeld opens given c w (IsAccessOf task_of)
    → task_of v ≡ Some t → IsInTheWay w F m v u → (s : ℕ) × (task_of u ≡ Some s)

-- The search for a child that is not done begins at the last one, where its flags do not tell that all are.
abbrev pub ChildSearchBegins : Type 0
ChildSearchBegins = (w : Wires) (F : ℕ → Marks) (p : ℕ) → AreAtRest w F → is_list_done w F p ≡ false → IsUndoneUpTo w F p (w.last p)

-- It goes back past one that is over: there is one before it, and that has a number less.
abbrev pub ChildSearchGoesBack : Type 0
ChildSearchGoesBack = (w : Wires) (F : ℕ → Marks) (p x : ℕ) → AreAtRest w F → IsUndoneUpTo w F p x → is_over (F x) ≡ true → (u : ℕ) × (w.place x ≡ after u) × IsUndoneUpTo w F p u × (u < x)

-- It ends at one that is not over: the child is not done.
abbrev pub ChildSearchEnds : Type 0
ChildSearchEnds = (opens : List Open) (given : ℕ → ℕ → Bool) (c : ℕ) (w : Wires) (F : ℕ → Marks) (task_of : ℕ → Option ℕ) (t s p x lo hi : ℕ) → AreOrdered opens → AreHeld opens given c w (IsAccessOf task_of) → AreAtRest w F
    → IsAccessOrMain (IsAccessOf task_of) t p → task_of x ≡ Some s → IsUndoneUpTo w F p x → is_over (F x) ≡ false → lo ≤ c → c < hi → HasUndoneChild opens given t lo hi s

-- The table with main's row alone is that of a system that was told of no task.
abbrev pub NewTablesHold : Type 0
NewTablesHold = (c : ℕ) → IsCellHeld [] c (no_hang ∷ []) (0 ∷ [])

-- A task that may be opened with the cell has its creator in the table: by the number of the creator, the access below which it is to be
-- hung, which is not given up and covers it.
abbrev pub TablesLend : Type 0
TablesLend = (s : Seen) (c : ℕ) (hangs : List Hang) (numbers : List ℕ) (o : Open) (parent : ℕ) → AreOrdered s.opens → IsCellHeld s.opens c hangs numbers → ((t : ℕ) → s.given t c ≡ given_by s.opens hangs numbers t)
    → CanOpen s o → names c o ≡ true → IsNumberOf s.opens parent o.parent
    → (above : ℕ) × (slice_get numbers above ≡ Some parent) × ((hang_at hangs above).gave ≡ false) × (covers (hang_at hangs above).mode (mode_at c o) ≡ true)

-- Once it is hung there, and its number appended, the table is that of the system with the task; and nothing else is given up.
abbrev pub TablesGrow : Type 0
TablesGrow = (s : Seen) (c : ℕ) (hangs : List Hang) (numbers : List ℕ) (o : Open) (parent above : ℕ) → AreOrdered s.opens → IsCellHeld s.opens c hangs numbers → CanOpen s o → names c o ≡ true → IsNumberOf s.opens parent o.parent
    → slice_get numbers above ≡ Some parent → IsHung (wires_of hangs) (wires_of (opened_in hangs above (mode_at c o))) above (length hangs)
    → IsCellHeld (s.opens ++ o ∷ []) c (opened_in hangs above (mode_at c o)) (numbers ++ (length s.opens + 1) ∷ [])
    × ((t : ℕ) → given_by (s.opens ++ o ∷ []) (opened_in hangs above (mode_at c o)) (numbers ++ (length s.opens + 1) ∷ []) t ≡ given_by s.opens hangs numbers t)

-- A task without the cell leaves the table as it is.
abbrev pub TablesStay : Type 0
TablesStay = (opens : List Open) (c : ℕ) (hangs : List Hang) (numbers : List ℕ) (o : Open) → IsCellHeld opens c hangs numbers → names c o ≡ false → (IsOpened opens o.task → ⊥)
    → IsCellHeld (opens ++ o ∷ []) c hangs numbers × ((t : ℕ) → given_by (opens ++ o ∷ []) hangs numbers t ≡ given_by opens hangs numbers t)

-- A task that was opened with the cell is in the table, by its number.
abbrev pub TablesShow : Type 0
TablesShow = (opens : List Open) (c : ℕ) (hangs : List Hang) (numbers : List ℕ) (o : Open) (n t : ℕ) → AreOrdered opens → IsCellHeld opens c hangs numbers → IsNumber opens n o → o.task ≡ t → HasOpened opens c t
    → (v : ℕ) × (slice_get numbers v ≡ Some n) × (v ≡ 0 → ⊥) × (task_by opens numbers v ≡ Some t)

-- Where its access there is given up, the table is that of the system in which the task has given up the cell.
abbrev pub TablesGive : Type 0
TablesGive = (opens : List Open) (c : ℕ) (hangs later : List Hang) (numbers : List ℕ) (t g : ℕ) → IsCellHeld opens c hangs numbers → IsGift (wires_of hangs) (wires_of later) g → length later ≡ length hangs → task_by opens numbers g ≡ Some t
    → IsCellHeld opens c later numbers × ((s : ℕ) → given_by opens later numbers s ≡ (given_by opens hangs numbers s || (t == s)))
