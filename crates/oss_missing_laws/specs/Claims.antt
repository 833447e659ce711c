-- What holds of one act, one task and one cell.
-- Read against: a task with `out(x)` that loads x first. The clause covers the load, no child hinders it, and the cell is unwritten: the demand breaks the clause, and the judge finds Unwritten.
use Rattle.std.specs.Prelude.{◌≡◌, ◌&&◌, ◌||◌, ℕ, Bool, true, false, not, List, ◌∷◌, ◌++◌, Option, Some}
use Rattle.oss_syntax.specs.declared.access.Access.{Access}
use Rattle.oss_model.specs.Context.{lend_cell, lacks_right, made_mark}
use Rattle.oss_model.specs.Rights.{Mark, Touch, Written, holds_uncovered, is_released, touch_fault}
use Rattle.oss_needs.specs.declared.clause.Clause.{Clause}
use Rattle.oss_needs.specs.declared.demand.Demand.{Demand}
use Rattle.oss_needs.specs.declared.demand.Demand.TheVariants.{Create, Wait}
use Rattle.oss_needs.specs.Claims.{is_nothing}
use Rattle.oss_needs.specs.Demands.{gives_value}
use Rattle.oss_needs.specs.Givens.{given_of}
use Rattle.oss_needs.specs.Lacks.{is_broken, is_unmet, lack_of}
use Rattle.oss_needs.specs.Meeting.{is_met, is_right, mark_behind, mark_by, right_by}
use Rattle.oss_task_needs.specs.Asking.{creates}
use Rattle.oss_lent_cells.specs.declared.holder.Lent.{Lent}
use Rattle.oss_lent_cells.specs.Lent.{lend_by}
use Rattle.oss_missing_waits.specs.Holding.{hinderer}
use Rattle.oss_missing_laws.specs.Entries.{demand_by, entry_by, fault_by, is_free, lending_of}

-- The fault of a touch is told by its reasons; and there is none exactly where the cell is not released, no child hinders the touch, and the clauses meet what it asks.
pub record TouchesAreJudged : Type 0 where
  pub fault : (g : Option Clause) (ds : List Demand) (released : Bool) (lent : Option Lent) (t : Touch)
      → touch_fault (entry_by g ds released lent).right (entry_by g ds released lent).lent (entry_by g ds released lent).mark t ≡ fault_by released (right_by g) (hinderer g t lent) (mark_behind (mark_by g) ds) t
  pub passes : (g : Option Clause) (ds : List Demand) (released : Bool) (lent : Option Lent) (t : Touch)
      → is_right (touch_fault (entry_by g ds released lent).right (entry_by g ds released lent).lent (entry_by g ds released lent).mark t)
      ≡ ((not released && is_free (hinderer g t lent)) && is_met (right_by g) (mark_behind (mark_by g) ds) (demand_by t))

-- What the judge tests of a cell where a task is created, where the cell is released, and where it is waited for: that it is not released, and that the clauses meet what is asked.
pub record NamesAreJudged : Type 0 where
  pub released : (g : Option Clause) (ds : List Demand) (released : Bool) (lent : Option Lent) → is_released (entry_by g ds released lent).right ≡ released
  pub covers : (g : Option Clause) (ds : List Demand) (lent : Option Lent) (k : Clause)
      → holds_uncovered (entry_by g ds false lent).right (right_by (Some k)) ≡ not (is_met (right_by g) (mark_behind (mark_by g) ds) (Create k))
  pub waits : (g : Option Clause) (ds : List Demand) (lent : Option Lent)
      → lacks_right (entry_by g ds false lent).right ≡ not (is_met (right_by g) (mark_behind (mark_by g) ds) Wait)

-- A clause meets a demand behind others exactly where the demand is not unmet, and does not break what the clause says of writing the cell first, if the others have not broken it.
abbrev pub MetIsUnbroken : Type 0
MetIsUnbroken = (c : Clause) (d : Demand) (ds : List Demand) → is_broken c ds ≡ false
    → is_met (right_by (Some c)) (mark_behind (mark_by (Some c)) ds) d ≡ not (is_broken c (d ∷ ds) || is_unmet c d)

-- The marks of acts: behind a demand that gives a value the cell is written, and behind another its mark is what it was; behind a creation it is what the creation makes of it.
pub record MarksAreKept : Type 0 where
  pub gives : (m : Mark) (d : Demand) (ds : List Demand) → gives_value d ≡ true → mark_behind m (d ∷ ds) ≡ Written
  pub leaves : (m : Mark) (d : Demand) (ds : List Demand) → gives_value d ≡ false → mark_behind m (d ∷ ds) ≡ mark_behind m ds
  pub makes : (m : Mark) (k : Option Clause) (ds : List Demand) → mark_behind m (creates k ds) ≡ made_mark (right_by k) (mark_behind m ds)

-- What is lent behind a creation is what the judge lends by the right of the new task.
abbrev pub LendingIsKept : Type 0
LendingIsKept = (number line : ℕ) (k : Option Clause) (lent : Option Lent) → lending_of (lend_by number line k lent) ≡ lend_cell (right_by k) (lending_of lent)

-- What lacks nothing behind more demands lacked nothing before them: lacks only grow.
abbrev pub LacksGrow : Type 0
LacksGrow = (final : Bool) (clauses : List Access) (c : ℕ) (more ds : List Demand) → is_nothing (lack_of (given_of final clauses c) (more ++ ds)) ≡ true
    → is_nothing (lack_of (given_of final clauses c) ds) ≡ true
