-- The acts of a sequential run so far, the newest first, and what they alone tell: which task acts next, and which cells tasks have declared and touched.
-- Read against: behind the creation of a task by main, that task acts, at the path `0 ∷ []`, and has created none; behind its end main acts, and has created one. A store of
-- cell 2 between the two is a touch of cell 2 for the task and for main.
use Rattle.std.specs.Prelude.{◌≡◌, ℕ, ◌+◌, ◌==◌, Bool, true, false, List, [], ◌∷◌, ◌⊎◌}
use Rattle.oss_model.specs.Bodies.{Act}
use Rattle.oss_model.specs.Bodies.Act.{Created, Ended, Folded, Load, Store}
use Rattle.oss_model.specs.Context.{in_clauses}
use Rattle.oss_model.specs.Order.{IsSuffix}

-- Where the run stands: the path of the task that acts next, and how many tasks that has created.
pub record Place : Type 0 where
  pub path : List ℕ
  pub created : ℕ

-- Behind the end of the task at this path its creator acts, which has created it last. Main has none.
abbrev pub above : List ℕ → ℕ → Place
above [] n = record { path = []; created = n }
above (k ∷ p) n = record { path = p; created = k + 1 }

-- Where the run stands behind an act: a creation of either kind goes down to the new task, and an end up to the creator.
abbrev pub place_next : {S : Type 0} → Act S → Place → Place
place_next (Created o included) at = record { path = at.created ∷ at.path; created = 0 }
place_next Ended at = above at.path at.created
place_next _ at = at

-- Where the run stands behind these acts. It begins with main.
abbrev pub place_of : {S : Type 0} → List (Act S) → Place
place_of [] = record { path = []; created = 0 }
place_of (a ∷ trail) = place_next a (place_of trail)

-- The act touches the cell.
abbrev pub touches : {S : Type 0} → Act S → ℕ → Bool
touches (Load d) c = d == c
touches (Store d v) c = d == c
touches (Folded d op v slot) c = d == c
touches _ c = false

-- The act, made at this place, creates the task at the path, and a clause of it names the cell.
abbrev pub Declares : {S : Type 0} → Act S → Place → List ℕ → ℕ → Type 0
Declares (Created o included) at q c = (q ≡ at.created ∷ at.path) × (in_clauses o.clauses c ≡ true)
Declares _ at q c = ⊥

-- By these acts the task at the path, or one below it, has touched the cell.
abbrev pub Touched : {S : Type 0} → List (Act S) → List ℕ → ℕ → Type 0
Touched [] q c = ⊥
Touched (a ∷ trail) q c = ((touches a c ≡ true) × IsSuffix q (place_of trail).path) ⊎ Touched trail q c

-- By these acts the task at the path was created with a clause that names the cell.
abbrev pub Declared : {S : Type 0} → List (Act S) → List ℕ → ℕ → Type 0
Declared [] q c = ⊥
Declared (a ∷ trail) q c = Declares a (place_of trail) q c ⊎ Declared trail q c
