-- How the open tasks of the second walk are kept, and what was told of those that have ended.
-- Read against: while a child of main acts, it is kept with the number 0, and above it main; of number 0 nothing is told. At its end what was told of it stands under 0, and main acts.
use Rattle.std.specs.Prelude.{◌≡◌, is_some, ◌<◌, ℕ, Bool, true, false, List, [], ◌∷◌, ◌++◌, length, reverse, Option, Some, None, slice_get, slice_set}
use Rattle.oss_syntax.specs.declared.access.Mode.TheVariants.{Write}
use Rattle.oss_syntax.specs.declared.tree.program.Item.{Item}
use Rattle.oss_model.specs.Bodies.{Ask, Frame}
use Rattle.oss_machine.specs.Frames.{CodeScript}
use Rattle.oss_ranges.specs.Cells.{value_at}
use Rattle.oss_pieces.specs.Layouts.{grids_from}
use Rattle.oss_pieces.specs.Rows.{Grid}
use Rattle.oss_needs.specs.declared.clause.Clause.{Clause}
use Rattle.oss_lent_cells.specs.Lent.{counted_if}
use Rattle.oss_missing_lines.specs.declared.missing.Late.{Late}
use Rattle.oss_lacks.specs.declared.lacks.TaskLacks.{TaskLacks}
use Rattle.oss_lacks.specs.Following.{AllWillEnd}
use Rattle.oss_lacks.specs.Nests.{Nest, Numbered, closed, opened, with_acting}
use Rattle.oss_missing_waits.specs.declared.following.Following.{Following}
use Rattle.oss_missing_waits.specs.declared.following.OpenTask.{OpenTask}
use Rattle.oss_missing_waits.specs.Holding.{Holding, IsUse, lent_when, new_task}
use Rattle.oss_missing_waits.specs.Kept.{IsHolding}
use Rattle.oss_missing_waits.specs.Lines.{AreLines, AreTaskLines}
use Rattle.oss_missing_waits.specs.Waits.{IsBehindAsk, Mended, at_stop, tell_nothing}

-- By what main has each cell.
abbrev pub may_write : Option Clause
may_write = Some (record { mode = Write; strong = true; fresh = false })

-- By what a task has a cell, as it was found: by what its clauses say once they are mended, as that counts.
abbrev pub said_by : Option TaskLacks → ℕ → Option Clause
said_by None c = None
said_by (Some k) c = counted_if k.is_final (value_at k.mending.clauses.pieces c)

abbrev pub said_in : List TaskLacks → ℕ → ℕ → Option Clause
said_in ks n = said_by (slice_get ks n)

-- They are mended so.
abbrev pub AreSaid : Mended → List TaskLacks → Type 0
AreSaid w ks = (n c : ℕ) → w n c ≡ said_in ks n c

-- The task is kept so.
pub record IsTask (all : List Item) (t : Numbered Holding) (k : OpenTask) : Type 0 where
  pub number : k.number ≡ t.number
  pub holds : IsHolding all t.task k.task

-- These are, one by one.
abbrev pub AreTasks : List Item → List (Numbered Holding) → List OpenTask → Type 0
AreTasks all [] [] = Unit {0}
AreTasks all (t ∷ ts) (k ∷ ks) = IsTask all t k × AreTasks all ts ks
AreTasks all _ _ = ⊥

-- By what the task that acts, and those that wait for it, have each cell: main is the last of them.
abbrev pub AreMended : Mended → Numbered Holding → List (Numbered Holding) → Type 0
AreMended w k [] = (c : ℕ) → k.task.has c ≡ may_write
AreMended w k (creator ∷ above) = ((c : ℕ) → k.task.has c ≡ w k.number c) × AreMended w creator above

-- These are the lines of those of these tasks that have ended.
abbrev pub AreTold : List Item → List (Option Holding) → List (List Late) → Type 0
AreTold all [] [] = Unit {0}
AreTold all (None ∷ ts) (ls ∷ rest) = AreTold all ts rest
AreTold all (Some h ∷ ts) (ls ∷ rest) = AreLines all h.told ls × AreTold all ts rest
AreTold all _ _ = ⊥

-- A nest with these parts is kept so.
pub record Follows (all : List Item) (w : Mended) (acting : Numbered Holding) (above : List (Numbered Holding)) (ended : List (Option Holding)) (f : Following) : Type 0 where
  pub current : IsTask all acting f.current
  pub older : AreTasks all above (reverse f.above)
  pub mended : AreMended w acting above
  pub told : AreTold all ended f.told.items
  pub ends : AllWillEnd acting.number above ended

abbrev pub IsFollowing : List Item → Mended → Nest Holding → Following → Type 0
IsFollowing all w n f = Follows all w n.acting n.above n.ended f

-- What is known has become something of which this holds, and that is kept, over globals that lie so, by what was found of the clauses of tasks.
abbrev pub Steps : List Grid → List TaskLacks → (Mended → Nest Holding → Nest Holding → Type 0) → Following → Following → Type 0
Steps layout ks Goes old new =
    (all : List Item) (w : Mended) (n : Nest Holding) → layout ≡ grids_from all 0 → AreSaid w ks → IsFollowing all w n old → (m : Nest Holding) × (Goes w n m × IsFollowing all w m new)

-- The task that acts creates one after `created` others, lends to it or does not, and the new one acts.
pub record IsOpened (created line : ℕ) (lends : Bool) (w : Mended) (old new : Nest Holding) : Type 0 where
  pub used : Holding
  pub use_is : IsUse (λ d. is_some (w (length old.ended) d)) line old.acting.task used
  pub new_is : new ≡ opened (new_task (created ∷ old.acting.task.path) line (w (length old.ended))) (with_acting (lent_when lends created line (w (length old.ended)) used) old)

-- What the task that acts asks. It has created so many, and is final or not.
pub record IsNoted (q : Ask CodeScript) (line created : ℕ) (final : Bool) (w : Mended) (old new : Nest Holding) : Type 0 where
  pub behind : (f : Frame CodeScript) → old.acting.task.path ≡ f.path → created ≡ f.context.created → final ≡ f.context.final → IsBehindAsk w f q line old new

-- The task that acts ends, and this tells whether it has a creator.
pub record IsClosed (old new : Following) (more : Bool) : Type 0 where
  pub ends : (all : List Item) (w : Mended) (n : Nest Holding) → IsFollowing all w n old → IsFollowing all w (closed tell_nothing n) new
  pub last : more ≡ false → (all : List Item) (w : Mended) (n : Nest Holding) → IsFollowing all w n old → n.above ≡ []
  pub less : more ≡ true → length new.above < length old.above

-- All that are open have ended: what acts is main.
pub record HaveEnded (old new : Following) : Type 0 where
  pub main : (all : List Item) (w : Mended) (n : Nest Holding) → IsFollowing all w n old → AreLines all (at_stop n).acting.task.told new.current.task.told
  pub tasks : (all : List Item) (w : Mended) (n : Nest Holding) → IsFollowing all w n old → AreTaskLines all (at_stop n).ended new.told.items

-- There is one place more, with this number.
pub record IsOneMore (old new : List (List Late)) (number : ℕ) : Type 0 where
  pub number_is : number ≡ length old
  pub slot : List Late
  pub more : new ≡ old ++ slot ∷ []

-- The creator acts, and the lines of the task that has ended stand in its place.
pub record IsReturned (old new : Following) : Type 0 where
  pub creator : OpenTask
  pub above : old.above ≡ new.above ++ creator ∷ []
  pub current : new.current ≡ creator
  pub told : new.told.items ≡ slice_set old.told.items old.current.number old.current.task.told
