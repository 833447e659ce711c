-- What waves and passes leave as it was.
-- Read against: main has created a, with out(x), and b, with in(x), and waits; a runs and ends. The wave in which it ends has the one turn of a: main and b, what they owe, and
-- which cells were given up are as they were. The pass behind it gives up x: no body has changed, and of the tree only what it tells of a.
use Rattle.std.specs.Prelude.{◌≡◌, ℕ, ◌<◌, ◌⊎◌, ◌++◌, true, List, length, Some, slice_get}
use Rattle.oss_model.specs.Order.{IsIn}
use Rattle.oss_ranges.specs.Cells.{value_at}
use Rattle.oss_deps.specs.declared.opened.Open.{Open}
use Rattle.oss_kept_tasks.specs.declared.held.Held.{Held}
use Rattle.oss_kept_tasks.specs.declared.held.Owed.{Owed}
use Rattle.oss_enabled_moves.specs.Enabled.{MayStep}
use Rattle.oss_core.specs.declared.passing.Passed.{Passed}
use Rattle.oss_core.specs.declared.turns.Turn.{Turn}
use Rattle.oss_core.specs.Kept.{Kept}

-- The task had one of these turns.
pub record HasTurn (turns : List Turn) (v : ℕ) : Type 0 where
  pub one : Turn
  pub listed : IsIn one turns
  pub task : one.task.0 ≡ v

-- A wave had these turns, and no others: of a task that had none nothing is kept otherwise, and the tree knows what it knew. Tasks may have been opened behind all others, and no cell
-- was given up.
pub record HaveTurned (turns : List Turn) (old new : Kept) : Type 0 where
  pub held : (v : ℕ) → v < length old.tasks → (HasTurn turns v → ⊥) → slice_get new.tasks v ≡ slice_get old.tasks v
  pub tree : (v : ℕ) → v < length old.tree.tasks → (HasTurn turns v → ⊥) → slice_get new.tree.tasks v ≡ slice_get old.tree.tasks v
  pub opened : List Open
  pub opens : new.seen.opens ≡ old.seen.opens ++ opened
  pub given : (t c : ℕ) → new.seen.given t c ≡ old.seen.given t c

-- The same of a wave whose turns were each of a task that might step.
pub record WasWave (turns : List Turn) (old new : Kept) : Type 0 where
  pub turned : HaveTurned turns old new
  pub may : (v : ℕ) → HasTurn turns v → MayStep old.tasks old.tree.tasks old.seen v

-- The task is one of those of which something was passed.
pub record HasGiven (passed : List Passed) (v : ℕ) : Type 0 where
  pub one : Passed
  pub listed : IsIn one passed
  pub task : one.task.0 ≡ v

-- The task has the body that it had, and owes at most what it owed.
pub record OwesLess (before after : Held) : Type 0 where
  pub body : after.body ≡ before.body
  pub owed : (c : ℕ) (way : Owed) → value_at after.owed.pieces c ≡ Some way → value_at before.owed.pieces c ≡ Some way

-- These cells were passed, and no others: no body has changed, and nothing was opened; and of a task of which nothing was passed no cell was given up, and the tree knows what it knew.
pub record HaveGivenUp (passed : List Passed) (old new : Kept) : Type 0 where
  pub held : (v : ℕ) (before : Held) → slice_get old.tasks v ≡ Some before → (after : Held) × (slice_get new.tasks v ≡ Some after) × OwesLess before after
  pub tree : (v : ℕ) → (HasGiven passed v → ⊥) → slice_get new.tree.tasks v ≡ slice_get old.tree.tasks v
  pub opens : new.seen.opens ≡ old.seen.opens
  pub given : (t c : ℕ) → new.seen.given t c ≡ true → (old.seen.given t c ≡ true) ⊎ HasGiven passed t
