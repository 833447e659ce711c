-- What is kept beside the free run is right for what is known of its tasks.
-- Read against: while a child of main acts, it is kept how it was created, and of main nothing but its point; of the child nothing is told yet. At its end it is told what its clauses lack, and main acts.
use Rattle.std.specs.Prelude.{◌≡◌, ◌<◌, ℕ, Bool, true, false, List, [], ◌∷◌, ◌++◌, length, map, reverse, Option, Some, None, filter_map, slice_set}
use Rattle.oss_model.specs.Bodies.{Ask, Frame, Order}
use Rattle.oss_model.specs.Order.{written}
use Rattle.oss_machine.specs.Frames.{CodeScript}
use Rattle.oss_task_needs.specs.Asking.{Asked}
use Rattle.oss_task_needs.specs.declared.mending.Mending.{Mending}
use Rattle.oss_open_needs.specs.Opening.{Open}
use Rattle.oss_open_needs.specs.Stacks.{AreTasks}
use Rattle.oss_lacks.specs.declared.creation.Creation.{Creation}
use Rattle.oss_lacks.specs.declared.following.Following.{Following}
use Rattle.oss_lacks.specs.declared.lacks.TaskLacks.{TaskLacks}
use Rattle.oss_lacks.specs.Asking.{Asking, asking, behind_ask, created_by, open_of, tell_creator}
use Rattle.oss_lacks.specs.Lacks.{AreTaskLacks, IsTaskLacks}
use Rattle.oss_lacks.specs.Nests.{Nest, Numbered, closed, opened, with_acting}
use Rattle.oss_lacks.specs.Walks.{at_stop}

-- The task was created so.
pub record IsCreation (t : Numbered Asking) (c : Creation) : Type 0 where
  pub number : c.number ≡ t.number
  pub point : c.point ≡ written t.task.path
  pub line : c.line ≡ t.task.line
  pub clauses : c.clauses ≡ t.task.clauses
  pub final : c.is_final ≡ t.task.final

-- These tasks were created so, one by one.
abbrev pub AreCreations : List (Numbered Asking) → List Creation → Type 0
AreCreations [] [] = Unit {0}
AreCreations (t ∷ ts) (c ∷ cs) = IsCreation t c × AreCreations ts cs
AreCreations _ _ = ⊥

-- Of each of these tasks that has ended this is told, and nothing of another.
abbrev pub AreTold : List (Option Asking) → List (Option TaskLacks) → Type 0
AreTold [] [] = Unit {0}
AreTold (None ∷ ts) (None ∷ ks) = AreTold ts ks
AreTold (Some t ∷ ts) (Some k ∷ ks) = IsTaskLacks t k × AreTold ts ks
AreTold _ _ = ⊥

-- What is told of those of which something is.
abbrev pub told_in : List (Option TaskLacks) → List TaskLacks
told_in slots = filter_map (λ (slot : Option TaskLacks). slot) slots

-- All of them have ended.
abbrev pub AllEnded : {A : Type 0} → List (Option A) → Type 0
AllEnded [] = Unit {0}
AllEnded (Some t ∷ ts) = AllEnded ts
AllEnded (None ∷ ts) = ⊥

-- Once the task with this number has ended, and then those that wait for it, whatever is known of them then, all that were created have.
abbrev pub AllWillEnd : {A : Type 0} → ℕ → List (Numbered A) → List (Option A) → Type 0
AllWillEnd n [] ended = AllEnded ended
AllWillEnd {A} n (creator ∷ above) ended = (n < length ended) × ((t : A) → AllWillEnd creator.number above (slice_set ended n (Some t)))

abbrev pub open_in : Numbered Asking → Open
open_in k = open_of k.task

-- This is kept of a nest with these parts.
pub record Follows (acting : Numbered Asking) (above : List (Numbered Asking)) (ended : List (Option Asking)) (f : Following) : Type 0 where
  pub needs : AreTasks (open_in acting) (map open_in above) f.needs
  pub current : IsCreation acting f.current
  pub older : AreCreations above (reverse f.above)
  pub told : AreTold ended f.tasks.items
  pub ends : AllWillEnd acting.number above ended

abbrev pub IsFollowing : Nest Asking → Following → Type 0
IsFollowing n f = Follows n.acting n.above n.ended f

-- Parts of a step

-- What the task that acts asks has become this.
abbrev pub Asks : (Asked → Asked) → Following → Following → Type 0
Asks up old new = (n : Nest Asking) → IsFollowing n old → IsFollowing (with_acting (asking up n.acting.task) n) new

-- It creates one, by this order on this line. It has created so many, and is final or not.
abbrev pub Opens : Order CodeScript → ℕ → ℕ → Bool → Following → Following → Type 0
Opens o line created final old new =
    (f : Frame CodeScript) (n : Nest Asking) → n.acting.task.path ≡ f.path → created ≡ f.context.created → final ≡ f.context.final → IsFollowing n old → IsFollowing (opened (created_by f o line) n) new

-- It ends.
abbrev pub Ends : Following → Following → Type 0
Ends old new = (n : Nest Asking) → IsFollowing n old → IsFollowing (closed tell_creator n) new

-- It ends, and this tells whether it has a creator.
pub record IsClosed (old new : Following) (more : Bool) : Type 0 where
  pub ends : Ends old new
  pub last : more ≡ false → (n : Nest Asking) → IsFollowing n old → n.above ≡ []
  pub less : more ≡ true → length new.above < length old.above

-- It asks this on this line.
abbrev pub Notes : Ask CodeScript → ℕ → ℕ → Bool → Following → Following → Type 0
Notes q line created final old new =
    (f : Frame CodeScript) (n : Nest Asking) → n.acting.task.path ≡ f.path → created ≡ f.context.created → final ≡ f.context.final → IsFollowing n old → IsFollowing (behind_ask f q line n) new

-- All that are open have ended.
abbrev pub HaveEnded : Following → Following → Type 0
HaveEnded old new = (n : Nest Asking) → IsFollowing n old → AreTaskLacks (at_stop n).ended (told_in new.tasks.items)

-- What is told of a task that was created so.
abbrev pub told_of : Creation → Mending → TaskLacks
told_of c m = record { task = c.point; line = c.line; clauses = c.clauses; is_final = c.is_final; mending = m }

-- There is one place more, with this number.
pub record IsOneMore (old new : List (Option TaskLacks)) (number : ℕ) : Type 0 where
  pub number_is : number ≡ length old
  pub more : new ≡ old ++ None ∷ []

-- The creator acts, and of the task that has ended it is told what its clauses lack.
pub record IsReturned (m : Mending) (old new : Following) : Type 0 where
  pub creator : Creation
  pub above : old.above ≡ new.above ++ creator ∷ []
  pub current : new.current ≡ creator
  pub tasks : new.tasks.items ≡ slice_set old.tasks.items old.current.number (Some (told_of old.current m))
  pub needs : new.needs ≡ old.needs

-- That is so, or there is no creator.
abbrev pub IsBack : Mending → Following → Following → Bool → Type 0
IsBack m old new true = IsReturned m old new
IsBack m old new false = old.above ≡ []
