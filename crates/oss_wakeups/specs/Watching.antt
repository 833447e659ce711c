-- Who is awake, who sleeps and for whom, and what it is to wake those that wait for some tasks.
-- Read against: main, a, b and c, of which main and a are awake, and b and c sleep and watch a. To wake those that watch a leaves main, a, b and c awake; to wake those that watch b leaves
-- b and c where they are, or awake too: what is told is who is awake at least, since to wake one more is no harm. Of a tree in which main has created a, and a has created d, the tasks a, main and d are at or above d.
use Rattle.std.specs.Prelude.{◌≡◌, ℕ, ◌<◌, ◌≤◌, ◌⊎◌, ◌++◌, true, false, List, [], ◌∷◌, length, None, Option, Some, slice_get, Vec}
use Rattle.std.specs.declared.alloc.Global.{Global}
use Rattle.oss_model.specs.Order.{IsIn}
use Rattle.oss_model.specs.declared.task_no.TaskNo.{TaskNo}
use Rattle.oss_tree.specs.declared.task.Task.{Task as TreeTask}
use Rattle.oss_tree.specs.Tasks.{number}
use Rattle.oss_core.specs.Ordering.{AreInOrder, AreOnce}
use Rattle.oss_wakeups.specs.declared.watch.Watch.{Watch}

-- The task sleeps.
abbrev pub IsAsleep : Watch → ℕ → Type 0
IsAsleep w v = slice_get w.asleep.items v ≡ Some true

-- The first task watches the second.
pub record IsWatching (w : Watch) (v u : ℕ) : Type 0 where
  pub list : Vec TaskNo Global
  pub at_ : slice_get w.watchers.items u ≡ Some list
  pub listed : IsIn (number v) list.items

-- Each task is told of, none of these stands twice in the list, and none of them sleeps.
pub record AreApart (awake : List TaskNo) (w : Watch) : Type 0 where
  pub sizes : length w.watchers.items ≡ length w.asleep.items
  pub once : AreOnce awake
  pub there : (v : TaskNo) → IsIn v awake → v.0 < length w.asleep.items
  pub up : (v : TaskNo) → IsIn v awake → IsAsleep w v.0 → ⊥

-- So it is of those that are awake.
abbrev pub IsApart : Watch → Type 0
IsApart w = AreApart w.awake.items w

-- These tasks at least were woken, where they slept.
pub record HasWokenOf (waiting : List TaskNo) (old new : Watch) : Type 0 where
  pub watchers : new.watchers.items ≡ old.watchers.items
  pub size : length new.asleep.items ≡ length old.asleep.items
  pub apart : IsApart old → IsApart new
  pub kept : (v : TaskNo) → IsIn v old.awake.items → IsIn v new.awake.items
  pub woken : (v : TaskNo) → IsIn v waiting → IsAsleep old v.0 → IsIn v new.awake.items
  pub still : (v : ℕ) → IsAsleep old v → IsIn (number v) new.awake.items ⊎ IsAsleep new v

-- Each task that watched one of these was woken, others perhaps too: what sleeps now watches what it watched.
pub record HasWoken (these : ℕ → Type 0) (old new : Watch) : Type 0 where
  pub size : length new.asleep.items ≡ length old.asleep.items
  pub watchers_size : length new.watchers.items ≡ length old.watchers.items
  pub apart : IsApart old → IsApart new
  pub kept : (v : TaskNo) → IsIn v old.awake.items → IsIn v new.awake.items
  pub sleeps : (v u : ℕ) → IsWatching old v u → IsAsleep old v → IsIn (number v) new.awake.items ⊎ ((these u → ⊥) × IsWatching new v u × IsAsleep new v)

-- The first task is the second, or its creator, or the creator of that, and so on.
pub data IsAtOrAbove (tasks : List TreeTask) (u : ℕ) : ℕ → Type 0 where
  itself : IsAtOrAbove tasks u u
  above : {g : ℕ} (p : ℕ) (one : TreeTask) → slice_get tasks g ≡ Some one → one.parent ≡ Some (number p) → IsAtOrAbove tasks u p → IsAtOrAbove tasks u g

-- The same, where there is a second.
abbrev pub IsAtOrAboveOne : List TreeTask → ℕ → Option TaskNo → Type 0
IsAtOrAboveOne tasks u None = ⊥
IsAtOrAboveOne tasks u (Some g) = IsAtOrAbove tasks u g.0

-- It is on the way up from one task, and was passed where the way has come to another: each that is at or above the one is passed in the end.
pub record IsPassed (tasks : List TreeTask) (from : ℕ) (next : Option TaskNo) (u : ℕ) : Type 0 where
  pub on_way : IsAtOrAbove tasks u from
  pub behind : IsAtOrAboveOne tasks u next → ⊥

-- The task is new, with the next number: it is awake, and nobody watches it.
pub record IsAdded (task : TaskNo) (old new : Watch) : Type 0 where
  pub awake : new.awake.items ≡ old.awake.items ++ task ∷ []
  pub asleep : new.asleep.items ≡ old.asleep.items ++ false ∷ []
  pub list : Vec TaskNo Global
  pub nobody : list.items ≡ []
  pub watchers : new.watchers.items ≡ old.watchers.items ++ list ∷ []

-- The new tasks, with numbers up to this one, are awake; who slept sleeps, and watches whom it watched.
pub record HasGrown (count : ℕ) (old new : Watch) : Type 0 where
  pub size : length new.asleep.items ≡ count
  pub sizes : length old.watchers.items ≡ length old.asleep.items → length new.watchers.items ≡ count
  pub apart : IsApart old → IsApart new
  pub kept : (v : TaskNo) → IsIn v old.awake.items → IsIn v new.awake.items
  pub fresh : (v : ℕ) → length old.asleep.items ≤ v → v < count → IsIn (number v) new.awake.items
  pub sleeps : (v u : ℕ) → IsWatching old v u → IsAsleep old v → IsWatching new v u × IsAsleep new v

-- Those that are awake stand in point order now, and are the same; all else is as it was.
pub record HasSorted (tasks : List TreeTask) (old new : Watch) : Type 0 where
  pub asleep : new.asleep.items ≡ old.asleep.items
  pub watchers : new.watchers.items ≡ old.watchers.items
  pub awake : AreInOrder tasks old.awake.items new.awake.items

-- The first task sleeps, and watches the second; who is awake stays.
pub record HasWatched (task other : TaskNo) (old new : Watch) : Type 0 where
  pub awake : new.awake.items ≡ old.awake.items
  pub size : length new.asleep.items ≡ length old.asleep.items
  pub watchers_size : length new.watchers.items ≡ length old.watchers.items
  pub sleeps : IsAsleep new task.0
  pub watching : IsWatching new task.0 other.0
  pub others : (v : ℕ) → IsAsleep old v → IsAsleep new v
  pub back : (v : ℕ) → (v ≡ task.0 → ⊥) → IsAsleep new v → IsAsleep old v
  pub still : (v u : ℕ) → IsWatching old v u → IsWatching new v u
