-- When it is right who is awake and who sleeps; and which tasks are touched by a wave and by a pass.
-- Read against: main has created a, with out(x), and b, with in(x), and waits; a runs. It is right that a alone is awake, if b and main sleep and watch a. The wave in which a ends touches
-- a, and the pass that gives x up touches it too; so whoever watches a, or main, above it, is woken.
use Rattle.std.specs.Prelude.{◌≡◌, ℕ, ◌<◌, ◌⊎◌, ◌++◌, true, List, [], ◌∷◌, length, Some, slice_get}
use Rattle.oss_model.specs.Order.{IsIn}
use Rattle.oss_model.specs.declared.task_no.TaskNo.{TaskNo}
use Rattle.oss_code.specs.declared.code.CodeParts.{CodeParts}
use Rattle.oss_tree.specs.declared.task.Task.{Task as TreeTask}
use Rattle.oss_tree.specs.Tasks.{number}
use Rattle.oss_enabled_moves.specs.Enabled.{MayLet}
use Rattle.oss_core.specs.declared.passing.Passed.{Passed}
use Rattle.oss_core.specs.declared.turns.Turn.{Turn}
use Rattle.oss_core.specs.Awake.{IsStill}
use Rattle.oss_core.specs.Hindered.{IsFree, IsHindered, IsSpent}
use Rattle.oss_core.specs.Kept.{IsRunning, Kept}
use Rattle.oss_core.specs.Leaving.{HaveGivenUp, WasWave}
use Rattle.oss_core.specs.PointOrder.{AreInPointOrder}
use Rattle.oss_core.specs.Passing.{HaveGiven}
use Rattle.oss_core.specs.Turns.{KeepsTasks}
use Rattle.oss_wakeups.specs.declared.watch.Watch.{Watch}
use Rattle.oss_wakeups.specs.Watching.{AreApart, HasWatched, IsAsleep, IsAtOrAbove, IsWatching}

-- The task need not be asked: it does nothing any more; or it waits for another, which it watches, and gives nothing up meanwhile.
pub data MaySleep (k : Kept) (w : Watch) (v : ℕ) : Type 0 where
  spent : IsSpent k v → MaySleep k w v
  watches : (u : ℕ) → IsHindered k v u → IsStill k v → IsAsleep w v → IsWatching w v u → MaySleep k w v

-- Each task stands in this list, in point order, or need not be asked.
pub record AreWatched (k : Kept) (awake : List TaskNo) (w : Watch) : Type 0 where
  pub apart : AreApart awake w
  pub size : length w.asleep.items ≡ length k.tree.tasks
  pub ordered : AreInPointOrder k.tree.tasks awake
  pub all : (v : ℕ) → v < length k.tree.tasks → IsIn (number v) awake ⊎ MaySleep k w v

-- Each task is awake, in point order, or need not be asked.
abbrev pub IsWatch : Kept → Watch → Type 0
IsWatch k w = AreWatched k w.awake.items w

-- Nothing hinders the task, and it may have something left to do.
pub record StaysAwake (k : Kept) (v : ℕ) : Type 0 where
  pub free : IsFree k v
  pub left : IsSpent k v → ⊥

-- So it is of each of these.
abbrev pub StayAwake : Kept → List TaskNo → Type 0
StayAwake k awake = (v : TaskNo) → IsIn v awake → StaysAwake k v.0

-- What came of a task that was awake: it does nothing any more, and is let go; or it waits for another, and sleeps; or it stays awake, behind the others.
pub data HasRested (k : Kept) (task : TaskNo) (old new : Watch) : Type 0 where
  lets_go : IsSpent k task.0 → new ≡ old → HasRested k task old new
  sleeps : (other : TaskNo) → IsHindered k task.0 other.0 → HasWatched task other old new → HasRested k task old new
  stays : StaysAwake k task.0 → new.awake.items ≡ old.awake.items ++ task ∷ [] → new.asleep.items ≡ old.asleep.items → new.watchers.items ≡ old.watchers.items → HasRested k task old new

-- A wave had these turns, and left the tasks that were there with their points.
pub record IsWaveOf (turns : List Turn) (old new : Kept) : Type 0 where
  pub wave : WasWave turns old new
  pub tasks : KeepsTasks old.tree.tasks new.tree.tasks

-- A pass gave these up.
pub record IsPassOf (passed : List Passed) (old new : Kept) : Type 0 where
  pub given_up : HaveGivenUp passed old new
  pub tasks : HaveGiven old.tree.tasks new.tree.tasks

-- A task at or above one that has had one of these turns, and has ended.
pub record IsAboveEnded (tasks : List TreeTask) (turns : List Turn) (u : ℕ) : Type 0 where
  pub turn : Turn
  pub listed : IsIn turn turns
  pub one : TreeTask
  pub at_ : slice_get tasks turn.task.0 ≡ Some one
  pub ended : one.ended ≡ true
  pub above : IsAtOrAbove tasks u turn.task.0

-- A task at or above one of which something was passed.
pub record IsAbovePassed (tasks : List TreeTask) (passed : List Passed) (u : ℕ) : Type 0 where
  pub one : Passed
  pub listed : IsIn one passed
  pub above : IsAtOrAbove tasks u one.task.0

-- No cell may be given up by a let.
abbrev pub HasNoLet : Kept → Type 0
HasNoLet k = (v c : ℕ) → MayLet k.tasks k.tree.tasks v c → ⊥

-- It was right who is awake and who sleeps; and since then a wave had these turns.
pub record IsBehindWave (turns : List Turn) (now : Kept) (w : Watch) : Type 0 where
  pub code : CodeParts
  pub before : Kept
  pub ran : IsRunning code before
  pub watch : IsWatch before w
  pub wave : IsWaveOf turns before now

-- The same of a pass, which gave these up.
pub record IsBehindPass (passed : List Passed) (now : Kept) (w : Watch) : Type 0 where
  pub code : CodeParts
  pub before : Kept
  pub ran : IsRunning code before
  pub watch : IsWatch before w
  pub pass : IsPassOf passed before now
