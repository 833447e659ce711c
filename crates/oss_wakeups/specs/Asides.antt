-- Tasks that are set aside while the others act: each can make its next act, and is not looked at before its own turn.
-- Read against: main has created a and b, which share nothing, and c, which waits for a; and main waits. Then a and b are set aside, c sleeps and watches a, main sleeps too, and nobody is awake. In a
-- turn of a, a alone is awake, and b is aside; behind it c and what a has created are awake too.
use Rattle.std.specs.Prelude.{◌≡◌, ℕ, ◌<◌, ◌⊎◌, ◌++◌, false, List, [], ◌∷◌, length, slice_set}
use Rattle.oss_model.specs.Order.{IsIn}
use Rattle.oss_model.specs.declared.task_no.TaskNo.{TaskNo}
use Rattle.oss_tree.specs.Tasks.{number}
use Rattle.oss_enabled_moves.specs.Enabled.{MayStep}
use Rattle.oss_core.specs.Awake.{IsStill}
use Rattle.oss_core.specs.Kept.{Kept}
use Rattle.oss_core.specs.PointOrder.{AreInPointOrder}
use Rattle.oss_wakeups.specs.declared.watch.Watch.{Watch}
use Rattle.oss_wakeups.specs.Watches.{HasRested, MaySleep}
use Rattle.oss_wakeups.specs.Watching.{AreApart}

-- The task may make its next act.
abbrev pub CanAct : Kept → ℕ → Type 0
CanAct k v = MayStep k.tasks k.tree.tasks k.seen v

-- The task could make its next act where the core kept this, and is not the one whose turn it is.
abbrev pub StoodAside : Kept → ℕ → ℕ → Type 0
StoodAside from task v = CanAct from v × (v ≡ task → ⊥)

-- Each task stands in this list, in point order; or need not be asked; or is one of these, and gives nothing up meanwhile.
pub record AreWatchedBut (aside : ℕ → Type 0) (k : Kept) (awake : List TaskNo) (w : Watch) : Type 0 where
  pub apart : AreApart awake w
  pub size : length w.asleep.items ≡ length k.tree.tasks
  pub ordered : AreInPointOrder k.tree.tasks awake
  pub all : (v : ℕ) → v < length k.tree.tasks → IsIn (number v) awake ⊎ (MaySleep k w v ⊎ (aside v × IsStill k v))

-- So it is of those that are awake.
abbrev pub IsWatchBut : (ℕ → Type 0) → Kept → Watch → Type 0
IsWatchBut aside k w = AreWatchedBut aside k w.awake.items w

-- None of these may make an act.
abbrev pub AreIdle : Kept → List TaskNo → Type 0
AreIdle k awake = (v : TaskNo) → IsIn v awake → CanAct k v.0 → ⊥

-- Each of these may make one.
abbrev pub AreFree : Kept → List TaskNo → Type 0
AreFree k free = (v : TaskNo) → IsIn v free → CanAct k v.0

-- Between turns: of those that are awake none may make an act, and who may make one stands aside.
pub record IsSetAside (k : Kept) (w : Watch) : Type 0 where
  pub watch : IsWatchBut (CanAct k) k w
  pub idle : AreIdle k w.awake.items

-- The task is awake now, behind the others.
pub record HasTaken (task : TaskNo) (old new : Watch) : Type 0 where
  pub awake : new.awake.items ≡ old.awake.items ++ task ∷ []
  pub asleep : new.asleep.items ≡ slice_set old.asleep.items task.0 false
  pub watchers : new.watchers.items ≡ old.watchers.items

-- What came of a task that was awake: it can act, and is set aside; or it cannot, and rests.
pub data HasSetAside (k : Kept) (task : TaskNo) (before after : List TaskNo) (old new : Watch) : Type 0 where
  acts : CanAct k task.0 → after ≡ before ++ task ∷ [] → new ≡ old → HasSetAside k task before after old new
  rests : (CanAct k task.0 → ⊥) → after ≡ before → HasRested k task old new → HasSetAside k task before after old new
