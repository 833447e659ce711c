-- Both walks number the tasks of a run alike. So what the second walk tells of a number belongs to the task that the first walk knows by that number.
-- Read against: main creates a task with a task in it, and then another. Both walks know by the number 0 the task at the path 0, by 1 the one at 0, 0, and by 2 the one at 1.
use Rattle.std.specs.Prelude.{◌≡◌, ℕ, List, [], ◌∷◌, length, Option, Some, None}
use Rattle.oss_model.specs.Bodies.{Program, Start}
use Rattle.oss_model.specs.Sequence.{IsAtEnd, Running}
use Rattle.oss_freed.specs.Freed.{freed}
use Rattle.oss_lacks.specs.Asking.{Asking}
use Rattle.oss_lacks.specs.Nests.{Nest}
use Rattle.oss_lacks.specs.Walks.{Walks, at_stop}
use Rattle.oss_missing_waits.specs.Holding.{Holding}
use Rattle.oss_missing_waits.specs.Waits.{Mended, Waits, at_stop as held_at_stop}

-- Of each number both walks know that the same task has ended, or that it has not.
abbrev pub AreOneByOne : List (Option Asking) → List (Option Holding) → Type 0
AreOneByOne [] [] = Unit {0}
AreOneByOne (None ∷ ts) (None ∷ hs) = AreOneByOne ts hs
AreOneByOne (Some t ∷ ts) (Some h ∷ hs) = (t.path ≡ h.path) × AreOneByOne ts hs
AreOneByOne _ _ = ⊥

-- So it is where both have come to an end of the free run.
abbrev pub WalksNumberAlike : Type 0 → Type 0
WalksNumberAlike S = (w : Mended) (P : Program S) (main : Start S) (first : List ℕ) (z y : Running S) (n : Nest Asking) (m : Nest Holding)
    → Walks P main first z n → IsAtEnd (freed (length first) P) z → Waits w P main first y m → IsAtEnd (freed (length first) P) y → AreOneByOne (at_stop n).ended (held_at_stop m).ended
