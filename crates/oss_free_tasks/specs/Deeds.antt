-- What the next act of the free run is for the task that acts. It is told by counts alone: how many ticks the task has done, how many tasks it has created, how deep it
-- stands, and whether it awaits one. No clause has a say.
-- Read against: a task with fuel for 1 stands at its first tick before a tick, and at its second before OutOfFuel. Of 3 cells a load of cell 2 finds the number in it, and one of cell 3
-- stands before NoRight. A task that has created 65,535 stands at the beginning of one more before TooManyTasks.
use Rattle.std.specs.Prelude.{◌≡◌, ◌≢◌, ℕ, Bool, true, false, if◌then◌else◌, nat_lt, nat_le, List, ◌∷◌, slice_index, slice_set}
use Rattle.oss_syntax.specs.declared.fault.FaultKind.TheVariants as fault
use Rattle.oss_model.specs.Bodies.{Act, Ask, Frame, IsHalt, Order, word_of}
use Rattle.oss_model.specs.Bodies.Act.{Awaited, Created, Ended, Fault, Ticked}
use Rattle.oss_model.specs.Moves.{combine, found_by}
use Rattle.oss_model.specs.Sequence.{direct_cells}
use Rattle.oss_freed.specs.Freed.{freed_order}
use Rattle.oss_free_tasks.specs.declared.deed.Deed.{Deed}
use Rattle.oss_free_tasks.specs.declared.deed.Deed.TheVariants as deeds

-- What a task that stands so deep and has created so many comes to where it would create one more: this, or the fault of a limit.
abbrev pub limited : ℕ → ℕ → ℕ → Deed → Deed
limited depth created line passed =
    if nat_le 64 depth then deeds.Stops fault.TooDeep line else if nat_le 65535 created then deeds.Stops fault.TooManyTasks line else passed

-- what a touch of a cell of so many comes to: this, or a fault past the last
abbrev pub within : ℕ → ℕ → ℕ → Deed → Deed
within n c line passed = if nat_lt c n then passed else deeds.Stops fault.NoRight line

-- What an ask comes to, of a task that has done so many ticks, with this fuel, stands so deep and has created so many, where there are so many cells and this is in them.
abbrev pub asked_deed : {S : Type 0} → ℕ → ℕ → ℕ → ℕ → ℕ → List ℕ → Ask S → ℕ → Deed
asked_deed n fuel depth ticks created cells Ask.Begin line = limited depth created line (deeds.Stops fault.TooManyTasks line)
asked_deed n fuel depth ticks created cells Ask.Tick line = if nat_lt ticks fuel then deeds.Ticks else deeds.Stops fault.OutOfFuel line
asked_deed n fuel depth ticks created cells (Ask.Read c) line = within n c line (deeds.Finds (slice_index cells c))
asked_deed n fuel depth ticks created cells (Ask.Write c v) line = within n c line (deeds.Finds 0)
asked_deed n fuel depth ticks created cells (Ask.Fold c op v) line = within n c line (deeds.Finds 0)
asked_deed n fuel depth ticks created cells (Ask.Create o) line = limited depth created line deeds.Creates
asked_deed n fuel depth ticks created cells Ask.Await line = deeds.Stops fault.TooManyTasks line
asked_deed n fuel depth ticks created cells Ask.Wait line = deeds.Finds 0
asked_deed n fuel depth ticks created cells (Ask.WaitOn named) line = deeds.Finds 0
asked_deed n fuel depth ticks created cells (Ask.Release clauses) line = deeds.Finds 0
asked_deed n fuel depth ticks created cells (Ask.Print text) line = deeds.Finds 0
asked_deed n fuel depth ticks created cells Ask.End line = deeds.Ends
asked_deed n fuel depth ticks created cells (Ask.Fails kind) line = deeds.Stops kind line

-- The same where the task awaits one, or does not.
abbrev pub free_deed : {S : Type 0} → ℕ → ℕ → ℕ → ℕ → ℕ → Bool → List ℕ → Ask S → ℕ → Deed
free_deed n fuel depth ticks created true cells q line = deeds.Awaits
free_deed n fuel depth ticks created false cells q line = asked_deed n fuel depth ticks created cells q line

-- the ask is for a creation
abbrev pub creates : {S : Type 0} → Ask S → Bool
creates (Ask.Create o) = true
creates _ = false

-- The memory behind what a task asks for and goes on from.
abbrev pub cells_behind : {S : Type 0} → Ask S → List ℕ → List ℕ
cells_behind (Ask.Write c v) cells = slice_set cells c (word_of v)
cells_behind (Ask.Fold c op v) cells = slice_set cells c (combine op (slice_index cells c) (word_of v))
cells_behind _ cells = cells

-- A task behind one more answer: of its counts none has changed.
pub record IsAnswered {S : Type 0} (v : ℕ) (f g : Frame S) : Type 0 where
  pub script : g.script ≡ f.script
  pub answers : g.answers ≡ v ∷ f.answers
  pub ticks : g.context.ticks ≡ f.context.ticks
  pub created : g.context.created ≡ f.context.created
  pub final : g.context.final ≡ f.context.final
  pub awaits : g.awaits ≡ f.awaits

-- The act leaves the task the one that acts, which goes on with this answer, and memory is as the ask tells.
pub record IsFinding {S : Type 0} (f : Frame S) (a : Act S) (q : Ask S) (cells : List ℕ) (v : ℕ) : Type 0 where
  pub goes : IsHalt a → ⊥
  pub found : found_by a cells ≡ v
  pub memory : direct_cells a cells ≡ cells_behind q cells
  pub stays : a ≢ Ended
  pub alone : (o : Order S) (i : Bool) → a ≢ Created o i
  pub after : IsAnswered v f (Rattle.oss_model.specs.Bodies.frame_after a v f)

-- The act is what the deed tells, where the program asks this.
abbrev pub IsDeed : {S : Type 0} → ℕ → Frame S → Act S → Ask S → List ℕ → Deed → Type 0
IsDeed n f a q cells deeds.Ticks = a ≡ Ticked
IsDeed n f a q cells deeds.Awaits = a ≡ Awaited
IsDeed n f a q cells (deeds.Finds v) = IsFinding f a q cells v
IsDeed {S} n f a q cells deeds.Creates = (o : Order S) × (q ≡ Ask.Create o) × (a ≡ Created (freed_order n o) f.context.final) × (f.awaits ≡ false)
IsDeed n f a q cells deeds.Ends = a ≡ Ended
IsDeed n f a q cells (deeds.Stops kind line) = (key : List ℕ) × (a ≡ Fault kind line key)
