-- Acts of one task, and what they leave as it was.
-- Read against: main has created a and b, and stands before its wait; a may step, and its next act is its end. It is made: main and b are kept as they were, the tree knows of both
-- what it knew, nothing was opened, and no cell was given up. Main's wait may not be made as yet: then all is as it was.
use Rattle.std.specs.Prelude.{◌≡◌, ℕ, ◌<◌, ◌++◌, Bool, true, false, List, length, slice_get}
use Rattle.oss_model.specs.declared.moving.Move.TheVariants as moves
use Rattle.oss_model.specs.declared.task_no.TaskNo.{TaskNo}
use Rattle.oss_code.specs.declared.code.CodeParts.{CodeParts}
use Rattle.oss_deps.specs.declared.opened.Open.{Open}
use Rattle.oss_enabled_moves.specs.Enabled.{MayStep}
use Rattle.oss_core.specs.Changes.{IsMade}
use Rattle.oss_core.specs.Kept.{Kept}
use Rattle.oss_core.specs.Turns.{KeepsTasks}

-- One task has acted: of no other anything is kept otherwise, and of no other the tree knows more. Tasks may have been opened behind all others, no cell was given up, and the tasks of the
-- tree are there, with their points.
pub record HasActedAlone (v : ℕ) (old new : Kept) : Type 0 where
  pub held : (w : ℕ) → w < length old.tasks → (w ≡ v → ⊥) → slice_get new.tasks w ≡ slice_get old.tasks w
  pub tree : (w : ℕ) → w < length old.tree.tasks → (w ≡ v → ⊥) → slice_get new.tree.tasks w ≡ slice_get old.tree.tasks w
  pub opened : List Open
  pub opens : new.seen.opens ≡ old.seen.opens ++ opened
  pub given : (t c : ℕ) → new.seen.given t c ≡ old.seen.given t c
  pub keeps : KeepsTasks old.tree.tasks new.tree.tasks

-- The next act of the task might be made, and was; or it might not, and nothing has changed.
abbrev pub HasActed : Bool → CodeParts → TaskNo → Kept → Kept → Type 0
HasActed true code task old new = MayStep old.tasks old.tree.tasks old.seen task.0 × IsMade code old new (moves.Step task) × HasActedAlone task.0 old new
HasActed false code task old new = (MayStep old.tasks old.tree.tasks old.seen task.0 → ⊥) × (new ≡ old)
