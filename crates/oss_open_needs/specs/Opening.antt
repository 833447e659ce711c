-- An open task, and what its acts make of what it asks.
-- Read against: a task with `in(x)` and no other clause has asked nothing when it begins. It loads x, releases `in(x)`, and waits for the cell y. Of x it has then asked the release and the load, the last one first, and of y the wait.
use Rattle.std.specs.Prelude.{◌≡◌, ℕ, Bool, List, [], ◌∷◌, Option}
use Rattle.oss_syntax.specs.declared.access.Access.{Access}
use Rattle.oss_syntax.specs.declared.access.Range.{Range}
use Rattle.oss_ranges.specs.declared.piece.Piece.{Piece}
use Rattle.oss_ranges.specs.Cells.{value_at}
use Rattle.oss_needs.specs.declared.clause.Clause.{Clause}
use Rattle.oss_needs.specs.declared.clause.Given.{Given}
use Rattle.oss_needs.specs.declared.demand.Demand.{Demand}
use Rattle.oss_needs.specs.declared.demand.Demand.TheVariants.{Release, Wait}
use Rattle.oss_needs.specs.Givens.{given_of}
use Rattle.oss_needs.specs.Lacks.{mended}
use Rattle.oss_task_needs.specs.Asking.{AreKept, Asked, asks, asks_for, nothing_asked}
use Rattle.oss_task_needs.specs.Mends.{IsMending, only_before}
use Rattle.oss_task_needs.specs.Saying.{given_at}
use Rattle.oss_task_needs.specs.declared.mending.Mending.{Mending}
use Rattle.oss_open_needs.specs.declared.open_task.OpenTask.{OpenTask}

-- What clauses say of each cell, and what the task has asked of each so far.
pub record Open : Type 0 where
  pub given : ℕ → Given
  pub asked : Asked

-- The task with these clauses, before its first act.
abbrev pub opened : Bool → List Access → Open
opened final clauses = record { given = given_of final clauses; asked = nothing_asked }

-- This is kept of the task.
pub record IsOpen (t : Open) (k : OpenTask) : Type 0 where
  pub given : (c : ℕ) → given_at k.givens c ≡ t.given c
  pub asked : AreKept t.asked (value_at k.needs)

-- What it asks has become this; its clauses are what they were.
abbrev pub asking : (Asked → Asked) → Open → Open
asking up t = record { given = t.given; asked = up t.asked }

abbrev pub OpenWith : (Asked → Asked) → OpenTask → OpenTask → Type 0
OpenWith up old new = (t : Open) → IsOpen t old → IsOpen (asking up t) new

-- A demand more on the cells of a range.
abbrev pub Asks : Demand → Range → OpenTask → OpenTask → Type 0
Asks d range old new = OpenWith (asks d range.lo range.hi) old new

-- A release asks for the mode of each of its clauses, and a wait names the cells of its ranges.
abbrev pub releases : List Access → Asked → Asked
releases [] asked = asked
releases (a ∷ rest) asked = releases rest (asks (Release a.mode) a.range.lo a.range.hi asked)

abbrev pub waits : List Range → Asked → Asked
waits [] asked = asked
waits (r ∷ rest) asked = waits rest (asks Wait r.lo r.hi asked)

-- The creation of a task whose clauses, mended, say this.
abbrev pub AsksFor : List (Piece Clause) → OpenTask → OpenTask → Type 0
AsksFor clauses old new = OpenWith (asks_for (value_at clauses)) old new

-- What the clauses of the task say of each cell of the program once what they lack is mended.
abbrev pub mended_of : Open → ℕ → Option Clause
mended_of t c = only_before 1048576 c (mended (t.given c) (t.asked c))

-- That is what the clauses of the task of which this is kept lack, and what they say with it.
abbrev pub IsMendingOf : OpenTask → Mending → Type 0
IsMendingOf k m = (t : Open) → IsOpen t k → IsMending t.given t.asked m
