-- What the steps of one task leave as it was, and when its first step can be made.
-- Read against: a, with the point 0.0, has made no step, and may step; it makes two. Before them its point is noted, since the first of them is its first; and of main and b nothing is kept
-- otherwise.
use Rattle.std.specs.Prelude.{◌≡◌, ◌<◌, ◌⊎◌, ℕ, false, List, [], ◌∷◌, ◌++◌, Some, slice_get}
use Rattle.oss_body.specs.Relation.{has_begun}
use Rattle.oss_kept_tasks.specs.declared.held.Held.{Held}
use Rattle.oss_tree.specs.Tasks.{HasPoint}
use Rattle.oss_enabled_moves.specs.Enabled.{MayStep}
use Rattle.oss_core.specs.Acting.{HasActedAlone}
use Rattle.oss_core.specs.Kept.{Kept}

-- The task has made so many steps, and no other has changed; if it has made one, it might step at the beginning, and if it has made none, nothing has changed.
pub record HaveStepsLeft (v acts : ℕ) (old new : Kept) : Type 0 where
  pub alone : HasActedAlone v old new
  pub may : 0 < acts → MayStep old.tasks old.tree.tasks old.seen v
  pub still : acts ≡ 0 → new ≡ old

-- The task has made no step, and its first can be made.
pub record MayBegin (v : ℕ) (k : Kept) : Type 0 where
  pub held : Held
  pub is : slice_get k.tasks v ≡ Some held
  pub first : has_begun held.body ≡ false
  pub may : MayStep k.tasks k.tree.tasks k.seen v

-- The point of the task is noted behind the others, if its first step can be made.
abbrev pub HasNoted : ℕ → Kept → List (List ℕ) → List (List ℕ) → Type 0
HasNoted v k before after = (MayBegin v k × ((point : List ℕ) × HasPoint k.tree.tasks v point × (after ≡ before ++ point ∷ []))) ⊎ ((MayBegin v k → ⊥) × (after ≡ before))
