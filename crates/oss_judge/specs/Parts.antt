-- Parts of the judge, for the functions of which it is made.
use Rattle.std.specs.Prelude.{ℕ, Bool, true, false, if◌then◌else◌, List, Option, Some, None}
use Rattle.oss_syntax.specs.declared.access.Access.{Access}
use Rattle.oss_syntax.specs.declared.access.Mode.{Mode}
use Rattle.oss_syntax.specs.declared.access.Mode.TheVariants.{Read, Write, Fold}
use Rattle.oss_syntax.specs.declared.access.Op.{Op}
use Rattle.oss_syntax.specs.declared.access.Range.{Range}
use Rattle.oss_syntax.specs.declared.fault.FaultKind.{FaultKind}
use Rattle.oss_syntax.specs.declared.fault.FaultKind.TheVariants as fault
use Rattle.oss_model.specs.Rights.{Right, Holds, Mark, Unwritten, any_cell, is_released, holds_uncovered}
use Rattle.oss_model.specs.Context.{lacks_right}

-- The mode of a right, and whether it is strong.
abbrev pub held_part : Right → Option (Mode × Bool)
held_part (Holds mode strong) = Some (mode, strong)
held_part _ = None

-- The right is one to write.
abbrev pub is_write : Right → Bool
is_write (Holds Write strong) = true
is_write _ = false

-- The operator, where the right is that of a reduction.
abbrev pub fold_part : Right → Option Op
fold_part (Holds (Fold op) strong) = Some op
fold_part _ = None

-- The fault where the cell was not written.
abbrev pub unwritten_fault : Mark → Option FaultKind
unwritten_fault Unwritten = Some fault.Unwritten
unwritten_fault _ = None

-- The fault where a task has released a cell of clauses, or has no right that covers what they give.
abbrev pub cover_fault : (ℕ → Right) → (ℕ → Right) → List Access → Option FaultKind
cover_fault own given clauses =
    if any_cell (λ c. is_released (own c)) clauses then Some fault.Released
    else if any_cell (λ c. holds_uncovered (own c) (given c)) clauses then Some fault.NotCovered
    else None

-- The fault of a wait for the children's accesses to these cells.
abbrev pub wait_fault : (ℕ → Right) → List Access → Option FaultKind
wait_fault own named =
    if any_cell (λ c. is_released (own c)) named then Some fault.Released
    else if any_cell (λ c. lacks_right (own c)) named then Some fault.NotCovered
    else None

-- The access to a range of which a wait speaks.
abbrev pub reading : Range → Access
reading range = record { range = range; mode = Read; strong = true; fresh = false }
