-- An opening, where the tasks of accesses are told by a function.
use Rattle.std.proofs.Common.{◌≡◌, ℕ, refl, [], ◌∷◌, ◌++◌, Option, Some, None}
use Rattle.oss_links.specs.Claims.{OpeningsHold}
use Rattle.oss_links.specs.Held.{IsAccessOf, IsAdded, with_task}
use Rattle.oss_links.proofs.AlikeLemmas.{added_is, held_renamed, is_added}
use Rattle.oss_links.proofs.GrowLemmas.{held_grows, not_e}

pub openings_hold : OpeningsHold
openings_hold opens given c w n task_of o p e are hung is =
    held_renamed (opens ++ o ∷ []) given c n (IsAdded (IsAccessOf task_of) o.task e) (IsAccessOf (with_task task_of o.task e)) (added_is task_of o.task e free) (is_added task_of o.task e free)
    (held_grows opens given c w n (IsAccessOf task_of) o p e are hung is)
  where
    free : task_of e ≡ None
    free = go (task_of e) refl
      where
        go : (x : Option ℕ) → task_of e ≡ x → task_of e ≡ None
        go None h = h
        go (Some t) h = absurd (not_e opens given c w n (IsAccessOf task_of) o p e are hung is t e h refl)
