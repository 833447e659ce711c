-- What is kept of a task, and what its acts, the creation of a child and the end of a child make of it.
-- Read against: a task that has done nothing keeps the chain to its creation; a `taskwait` of it looks at what is left below it, and a release of x keeps, for x,
-- the chain to the release.
use Rattle.std.specs.Prelude.{◌≡◌, ◌≤◌, ◌<◌, ◌⊎◌, ℕ, suc, ◌-◌, ◌^◌, Bool, true, false, ◌&&◌, if◌then◌else◌, nat_lt, List, Option, Some, None, slice_get, length}
use Rattle.oss_syntax.specs.declared.access.Access.{Access}
use Rattle.oss_ranges.specs.declared.piece.Piece.{Piece}
use Rattle.oss_ranges.specs.Cells.{value_at}
use Rattle.oss_body.specs.declared.act.Act.{Act as CodeAct}
use Rattle.oss_body.specs.declared.act.Act.TheVariants as acts
use Rattle.oss_span.specs.declared.best.Best.{Best}
use Rattle.oss_span.specs.declared.best.Mark.{Mark}
use Rattle.oss_span.specs.declared.frame.Frame.{Frame}
use Rattle.oss_span.specs.declared.marks.Marks.{Marks}
use Rattle.oss_span.specs.declared.marks.Change.TheVariants.{Close}
use Rattle.oss_span.specs.declared.marks.Way.TheVariants.{Given, Start}
use Rattle.oss_span.specs.declared.node.Node.{Node}
use Rattle.oss_span.specs.declared.node.Node.TheVariants.{Gives}
use Rattle.oss_span.specs.declared.node.Verb.{Verb}
use Rattle.oss_span.specs.declared.node.Verb.TheVariants as verbs
use Rattle.oss_span.specs.declared.close.Before.{Before}
use Rattle.oss_span.specs.declared.run.Run.{Run}
use Rattle.oss_span.specs.Acts.{IsSealed, after_act}
use Rattle.oss_span.specs.Bests.{better, better_mark, no_best}
use Rattle.oss_span.specs.Changes.{changed_at, is_strong_fold}
use Rattle.oss_span.specs.Tables.{IsGreatest, IsGreatestOf, painted, released}

-- Acts

-- The act is a tick.
abbrev pub is_tick : CodeAct → Bool
is_tick acts.Tick = true
is_tick _ = false

-- The longest chain to what stands in the way of the first act; before any other nothing does.
pub record IsStartOf (f : Frame) (best : Best) : Type 0 where
  pub first : f.run.acts ≡ 0 → IsGreatest Start f.table.pieces 0 1048576 best
  pub later : (n : ℕ) → f.run.acts ≡ suc n → best ≡ no_best

-- The longest chain to what a wait waits for; any other act waits for nothing of this kind.
abbrev pub IsWaitOf : Frame → CodeAct → Best → Type 0
IsWaitOf f acts.Wait best = best ≡ f.left
IsWaitOf f acts.Await best = best ≡ f.newest
IsWaitOf f (acts.WaitOn ranges) best = IsGreatestOf Given f.table.pieces ranges best
IsWaitOf f _ best = best ≡ no_best

-- The longest chain to what the next act waits for, beside the act before it.
pub record IsOther (f : Frame) (act : CodeAct) (best : Best) : Type 0 where
  pub start : Best
  pub wait : Best
  pub is_start : IsStartOf f start
  pub is_wait : IsWaitOf f act wait
  pub best_is : best ≡ better start wait

-- The cells of these accesses are released by the last act.
pub record IsReleased (clauses : List Access) (old new : Frame) (nodes more : List Node) : Type 0 where
  pub best : Best
  pub sealed : IsSealed old.task old.run new.run nodes more best
  pub cells : (c : ℕ) → value_at new.table.pieces c ≡ released best.mark clauses c (value_at old.table.pieces c)
  pub rest : (new.task ≡ old.task) × (new.wait ≡ old.wait) × (new.left ≡ old.left) × (new.newest ≡ old.newest)

-- The act is done, and this is the chain to it.
abbrev pub IsDoneBy : CodeAct → Run → Frame → Frame → List Node → List Node → Type 0
IsDoneBy (acts.Release clauses false) run old new nodes more = IsReleased clauses (record old { run = run }) new nodes more
IsDoneBy (acts.Create creation true) run old new nodes more = (new ≡ record old { run = run; newest = no_best }) × (more ≡ nodes)
IsDoneBy _ run old new nodes more = (new ≡ record old { run = run }) × (more ≡ nodes)

-- The task does this act. It had done fewer than 18,446,744,073,709,551,615, so a number of 64 bits still tells how many it has done.
pub record IsActed (act : CodeAct) (old new : Frame) (nodes more : List Node) : Type 0 where
  pub other : Best
  pub is_other : IsOther old act other
  pub done_ : IsDoneBy act (after_act other (is_tick act) old.run) old new nodes more
  pub counted : old.run.acts < 2 ^ 64 - 1

-- Creations

-- The frame of a new task with these accesses.
pub record IsOpened (task : ℕ) (wait : Bool) (accesses : List Access) (old creator child : Frame) (nodes more : List Node) : Type 0 where
  pub best : Best
  pub sealed : IsSealed old.task old.run creator.run nodes more best
  pub same : (creator.task ≡ old.task) × (creator.wait ≡ old.wait) × (creator.left ≡ old.left) × (creator.newest ≡ old.newest) × (creator.table ≡ old.table)
  pub cells : (c : ℕ) → value_at child.table.pieces c ≡ painted (value_at old.table.pieces c) accesses c None
  pub run : child.run ≡ record { acts = 0; ticks = best.mark.ticks; count = 0; before = best }
  pub rest : (child.task ≡ task) × (child.wait ≡ wait) × (child.left ≡ no_best) × (child.newest ≡ no_best)

-- Ends

-- Nodes are only added.
abbrev pub Grows : {A : Type 0} → List A → List A → Type 0
Grows {A} old new = (i : ℕ) (n : A) → slice_get old i ≡ Some n → slice_get new i ≡ Some n

-- What stands before the giving of a cell: its release; else the end with what the clause wait adds, or what stands in the way of the join.
abbrev pub before_giving : Marks → Best → Before
before_giving m kept =
    if m.is_freed then record { ticks = m.freed.ticks; end = m.freed.end; cell = None }
    else (if is_strong_fold m && nat_lt kept.mark.ticks m.join_way.ticks
    then record { ticks = m.join_way.ticks; end = m.join_way.end; cell = None }
    else record { ticks = kept.mark.ticks; end = kept.mark.end; cell = Some kept.cell })

abbrev pub verb_of : Marks → Verb
verb_of m = if is_strong_fold m then verbs.Join else verbs.Let

-- The chain to the giving of a cell, at a node that stands behind so many others.
pub record IsValue (base : ℕ) (nodes : List Node) (task : ℕ) (m : Marks) (kept : Best) (value : Mark) : Type 0 where
  pub at_ : ℕ
  pub base_is : base ≤ at_
  pub end_is : value.end ≡ Some at_
  pub node : slice_get nodes at_ ≡ Some (Gives task (verb_of m) (before_giving m kept).end (before_giving m kept).cell)
  pub ticks : value.ticks ≡ (before_giving m kept).ticks

-- A cell of a task that has ended, and what its creator keeps of it then.
pub record IsClosedCell (base : ℕ) (nodes : List Node) (task : ℕ) (m : Marks) (kept : Best) (old new : Option Marks) (lets : Best) : Type 0 where
  pub value : Mark
  pub is_value : IsValue base nodes task m kept value
  pub new_is : new ≡ changed_at (Close (better_mark value m.given) m.mode) old
  pub most : value.ticks ≤ lets.mark.ticks

-- All cells of the task below one.
pub record AreClosed (base : ℕ) (nodes : List Node) (task : ℕ) (kept : Best) (child old new : List (Piece Marks)) (upto : ℕ) (lets : Best) : Type 0 where
  pub cell : (c : ℕ) (m : Marks) → c < upto → value_at child c ≡ Some m → IsClosedCell base nodes task m kept (value_at old c) (value_at new c) lets
  pub past : (c : ℕ) → upto ≤ c → value_at new c ≡ value_at old c
  pub others : (c : ℕ) → value_at child c ≡ None → value_at new c ≡ value_at old c
  pub one : (lets ≡ no_best) ⊎ ((c : ℕ) × (m : Marks) × (value : Mark) × (value_at child c ≡ Some m) × IsValue base nodes task m kept value × (lets ≡ record { mark = value; cell = c }))

-- The end, with what the clause wait adds.
abbrev pub kept_of : Bool → Best → Best → Best
kept_of wait last left = if wait then better last left else last

-- A child has ended.
pub record IsClosed (old new child : Frame) (nodes more : List Node) : Type 0 where
  pub last : Best
  pub lets : Best
  pub sealed_run : Run
  pub sealed_nodes : List Node
  pub sealed : IsSealed child.task child.run sealed_run nodes sealed_nodes last
  pub grows : Grows sealed_nodes more
  pub cells : AreClosed (length sealed_nodes) more child.task (kept_of child.wait last child.left) child.table.pieces old.table.pieces new.table.pieces 1048576 lets
  pub newest : new.newest ≡ better (better last lets) child.left
  pub left : new.left ≡ better old.left new.newest
  pub rest : (new.task ≡ old.task) × (new.wait ≡ old.wait) × (new.run ≡ old.run)
