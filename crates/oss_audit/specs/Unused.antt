-- Cells that a task's clauses name, and that neither it nor a task below it touches in the sequential run. What a task declares orders it
-- against other tasks (OmpSs-2, the task directive and its dependency clauses), so a clause that names more than is touched costs parallelism.
-- A task is known by its path, also where it is included and runs in the body of another. A touch is a load, a store or a fold; a release and a wait are none.
-- Read against `long a[10];` and a task out(a) over the ten cells, which writes a[0] and creates a task out(a[5]) that writes a[5]: of the first one the cells
-- 1 to 4 and 6 to 9 are unused, of the second one none. Main declares nothing. Of `task out(a)`, in which `task out(a)` writes a[0] of two cells, cell 1 is unused twice,
-- also where main reads it later on.
use Rattle.std.specs.Prelude.{◌≡◌, ◌≤◌, ◌<◌, ◌⊎◌, ℕ, Bool, true, List, [], ◌∷◌}
use Rattle.oss_syntax.specs.declared.fault.FaultKind.{FaultKind}
use Rattle.oss_model.specs.Bodies.{Frame, Order, Program, Start, Touches, stack_from, stage_act, top_frame}
use Rattle.oss_model.specs.Bodies.Act.{Created, Over}
use Rattle.oss_model.specs.Context.{in_clauses}
use Rattle.oss_model.specs.Machine.{State}
use Rattle.oss_model.specs.Memory.{Event, Happened}
use Rattle.oss_model.specs.Moves.{act_now}
use Rattle.oss_model.specs.Order.{IsBefore, IsIn, IsSuffix, written}
use Rattle.oss_model.specs.Rights.{Touch}
use Rattle.oss_model.specs.Sequence.{IsAtEnd, Running, Sequential}
use Rattle.oss_model.specs.declared.answer.Answer.{Answer}
use Rattle.oss_model.specs.declared.answer.Answer.TheVariants as answers
use Rattle.oss_body.specs.Acting.{acting}
use Rattle.oss_meaning.specs.Results.{IsOutcome, Outcome}
use Rattle.oss_audit.specs.declared.unused.Unused.{Unused}

-- The task at this path, or one below it, has touched the cell.
pub record HasTouched {S : Type 0} (P : Program S) (s : State S) (q : List ℕ) (c : ℕ) : Type 0 where
  pub event : Event S
  pub happened : Happened s event
  pub touch : Touch
  pub slot : Bool
  pub touches : Touches (stage_act P event.start event.past) c touch slot
  pub below : IsSuffix q (acting P event.start event.past).path

-- The task at this path was created, included or not, with a clause that names the cell.
pub record HasDeclared {S : Type 0} (P : Program S) (s : State S) (q : List ℕ) (c : ℕ) : Type 0 where
  pub event : Event S
  pub happened : Happened s event
  pub order : Order S
  pub included : Bool
  pub creates : stage_act P event.start event.past ≡ Created order included
  pub path : q ≡ (acting P event.start event.past).context.created ∷ (acting P event.start event.past).path
  pub named : in_clauses order.clauses c ≡ true

-- The task at this path has a clause that names the cell, and neither it nor a task below it has touched the cell.
pub record IsUnused {S : Type 0} (P : Program S) (s : State S) (q : List ℕ) (c : ℕ) : Type 0 where
  pub declared : HasDeclared P s q c
  pub untouched : HasTouched P s q c → ⊥

-- The item tells of a cell: it names the task at this path, and the cell is in its range.
pub record Tells (u : Unused) (q : List ℕ) (c : ℕ) : Type 0 where
  pub point : u.point ≡ written q
  pub from : u.range.lo ≤ c
  pub to : c < u.range.hi

-- An item of the list tells of the cell.
pub record IsTold (us : List Unused) (q : List ℕ) (c : ℕ) : Type 0 where
  pub item : Unused
  pub listed : IsIn item us
  pub tells : Tells item q c

-- The first item stands before the second: its point does; or it is of the same point, and a cell lies between the two ranges, so that they are longest runs.
abbrev pub IsAhead : Unused → Unused → Type 0
IsAhead u v = IsBefore u.point v.point ⊎ ((u.point ≡ v.point) × (u.range.hi < v.range.lo))

-- Each item stands before all that follow it.
abbrev pub Rises : List Unused → Type 0
Rises [] = Unit {0}
Rises (u ∷ us) = ((v : Unused) → IsIn v us → IsAhead u v) × Rises us

-- The list has the unused cells of all tasks in this state, as longest runs of neighbouring cells, in point order and rising. Each item has the point of a path and
-- a cell, so it tells of an unused cell: there is none of a task that was not created, and none without cells.
pub record AreUnused {S : Type 0} (P : Program S) (s : State S) (us : List Unused) : Type 0 where
  pub rises : Rises us
  pub points : (u : Unused) → IsIn u us → (q : List ℕ) × (u.point ≡ written q)
  pub some : (u : Unused) → IsIn u us → u.range.lo < u.range.hi
  pub only : (q : List ℕ) (c : ℕ) → IsTold us q c → IsUnused P s q c
  pub all : (q : List ℕ) (c : ℕ) → IsUnused P s q c → IsTold us q c

-- What the audit of a program tells, which begins so: where its sequential run comes to its end, the answer of the run and the unused cells of all tasks; where
-- it comes to a fault, the fault and no cells.
pub data IsAudited {S : Type 0} (P : Program S) (main : Start S) (first : List ℕ) : Answer → List Unused → Type 0 where
  ends : {z : Running S} {us : List Unused} → Sequential P main first z → (end : IsAtEnd P z) → act_now P end.task.body ≡ Over → AreUnused P z.state us
      → IsAudited P main first (answers.Done z.printed z.state.cells) us
  fails : {o : Outcome} {kind : FaultKind} {line : ℕ} {text : List ℕ} → IsOutcome P main first o → o.answer ≡ answers.Fault kind line text
      → IsAudited P main first (answers.Fault kind line text) []
