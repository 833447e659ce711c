-- What is not complete, or not done, stays so, unless something at it or below it has changed.
use Rattle.std.proofs.Common.{◌≡◌, ℕ, sym, subst, List, Bool, true, Some}
use Rattle.std.specs.Prelude.{slice_get}
use Rattle.oss_model.specs.Forest.{IsDone, done}
use Rattle.oss_model.specs.Order.{IsIn}
use Rattle.oss_tree.specs.declared.task.Task.{Task as TreeTask}
use Rattle.oss_tree.specs.Tasks.{IsClosed, IsComplete, complete, number}
use Rattle.oss_deps.specs.declared.opened.Open.{Open}
use Rattle.oss_deps.specs.Opens.{HasOpened, IsChild, opened_forest}

-- a task of a set that is complete was so before, where of each of the set the tree knew what it knows, if the task is closed, and with a task its children are in the set
pub complete_before : (old new : List TreeTask) (these : ℕ → Type 0) → ((u : ℕ) → these u → (one : TreeTask) → slice_get new u ≡ Some one → IsClosed one → slice_get old u ≡ Some one)
    → ((u : ℕ) → these u → (one : TreeTask) → slice_get new u ≡ Some one → IsClosed one → (k c : ℕ) → slice_get one.children k ≡ Some (number c) → these c) → (u : ℕ) → IsComplete new u → these u → IsComplete old u
complete_before old new these same below u (complete one is closed children) t =
    complete one (same u t one is closed) closed (λ k c e. complete_before old new these same below c (children k c e) (below u t one is closed k c e))

-- an access of a set that is done was so before, where each entry is there still, no task of the set has given up the cell since, and with a task those that it has created are in the set
pub done_before : (old new : List Open) (given later_given : ℕ → ℕ → Bool) (c : ℕ) (these : ℕ → Type 0) → ((o : Open) → IsIn o old → IsIn o new) → ((t : ℕ) → these t → later_given t c ≡ true → given t c ≡ true)
    → ((o : Open) → IsIn o old → these o.parent → these o.task) → (u : ℕ) → IsDone (opened_forest new later_given c) u → these u → IsDone (opened_forest old given c) u
done_before old new given later_given c these more kept below u (done gave children) t =
    done (kept u t gave) (λ v child. done_before old new given later_given c these more kept below v (children v (later v child)) (inside v child))
  where
    opened : (v : ℕ) → HasOpened old c v → HasOpened new c v
    opened v o = record { entry = o.entry; listed = more o.entry o.listed; number = o.number; named = o.named }

    later : (v : ℕ) → IsChild old c u v → IsChild new c u v
    later v child = record { above = opened u child.above; opened = opened v child.opened; parent = child.parent }

    inside : (v : ℕ) → IsChild old c u v → these v
    inside v child = subst these child.opened.number (below child.opened.entry child.opened.listed (subst these (sym child.parent) t))
