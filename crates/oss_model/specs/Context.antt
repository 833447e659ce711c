-- What one task may do at a moment: its context, and the judge of ticks, creations, releases and waits.
-- A creation lends the new task's cells (OmpSs-2, task directive), taskwait takes all back and taskwait on
-- those it names (taskwait directive), release ends a right (release directive, and the early release of Perez,
-- Beltran, Labarta and Ayguadé, IPDPS 2017). The limits, the order of the tests and the marks of what is written are
-- rules of this language.
-- Read against: a task with inout(a) over two cells that releases a[0] and then creates a task with in(a),
-- where the creation is the fault Released; and a main that creates 65,534 tasks, where the beginning of a
-- further creation passes, a function that a clause of it calls creates the 65,535th, and that further creation
-- itself is then the fault TooManyTasks. And a task with out(x) that creates a task with out(x) of its own, waits for
-- it and reads x: the creation has marked x as written for the creator, and the wait has taken it back.
use Rattle.std.specs.Prelude.{ℕ, zero, suc, ◌+◌, nat_lt, nat_le, ◌==◌, Bool, true, false, ◌||◌, if◌then◌else◌, List, [], ◌∷◌, length, slice_index_or, Option, Some, None}
use Rattle.oss_syntax.specs.declared.access.Access.{Access}
use Rattle.oss_syntax.specs.declared.access.Mode.TheVariants.{Read, Write}
use Rattle.oss_syntax.specs.declared.fault.FaultKind.{FaultKind}
use Rattle.oss_syntax.specs.declared.fault.FaultKind.TheVariants as fault
use Rattle.oss_model.specs.Rights.{Right, NoRight, Released, Holds, Lending, Free, Reading, Writing, Mark, Written, in_access, right_from, mark_from, is_mixed, any_cell, is_released, holds_uncovered}

-- What a context holds for one cell.
pub record Entry : Type 0 where
  pub right : Right
  pub lent : Lending
  pub mark : Mark

-- What the judge knows of a task.
pub record Context : Type 0 where
  -- one for each cell of the program
  pub entries : List Entry
  -- how many ticks the task has done, and how many it may do
  pub ticks : ℕ
  pub fuel : ℕ
  -- how many tasks it has created
  pub created : ℕ
  -- how many tasks stand above it
  pub depth : ℕ
  -- a final task includes the tasks that it creates
  pub final : Bool

-- What holds past the last cell.
abbrev pub no_entry : Entry
no_entry = record { right = NoRight; lent = Free; mark = Written }

-- The right to a cell.
abbrev pub right_of : Context → ℕ → Right
right_of x c = (slice_index_or x.entries c no_entry).right

-- What is lent of a cell.
abbrev pub lent_of : Context → ℕ → Lending
lent_of x c = (slice_index_or x.entries c no_entry).lent

-- The mark of a cell.
abbrev pub mark_of : Context → ℕ → Mark
mark_of x c = (slice_index_or x.entries c no_entry).mark

-- The values of a function at k and the numbers after it, n of them.
unfoldable pub table_from : {A : Type 0} → (ℕ → A) → ℕ → ℕ → List A
table_from f k zero = []
table_from f k (suc n) = f k ∷ table_from f (suc k) n

-- The context with these entries in place of its own.
abbrev pub with_entries : (ℕ → Entry) → Context → Context
with_entries f x = record x { entries = table_from f 0 (length x.entries) }

-- Main may write every cell, and has lent nothing. Each cell has its first value.
abbrev pub main_context : ℕ → ℕ → Context
main_context cells fuel = record {
  entries = table_from (λ c. record { right = Holds Write true; lent = Free; mark = Written }) 0 cells;
  ticks = 0;
  fuel = fuel;
  created = 0;
  depth = 0;
  final = false;
}

-- The fault of a tick.
abbrev pub tick_fault : Context → Option FaultKind
tick_fault x = if nat_lt x.ticks x.fuel then None else Some fault.OutOfFuel

-- The fault of the beginning of a creation, before its clauses are evaluated.
abbrev pub create_fault : Context → Option FaultKind
create_fault x = if nat_le 64 x.depth then Some fault.TooDeep else if nat_le 65535 x.created then Some fault.TooManyTasks else None

-- The fault of a creation after its clauses were evaluated: each test looks at all cells of all clauses before
-- the next begins.
abbrev pub clause_fault : Context → List Access → Bool → Option FaultKind
clause_fault x clauses final =
    if any_cell (is_mixed final clauses) clauses then Some fault.MixedAccess
    else if any_cell (λ c. is_released (right_of x c)) clauses then Some fault.Released
    else if any_cell (λ c. holds_uncovered (right_of x c) (right_from final clauses c)) clauses then Some fault.NotCovered
    else None

-- The first fault, else the second.
abbrev pub or_else : Option FaultKind → Option FaultKind → Option FaultKind
or_else None other = other
or_else (Some kind) other = Some kind

-- The fault of a creation itself. An expression of its clauses may have created tasks, so their number is
-- tested again.
abbrev pub creation_fault : Context → List Access → Bool → Option FaultKind
creation_fault x clauses final = or_else (create_fault x) (clause_fault x clauses final)

-- The cell is one of the clauses.
abbrev pub in_clauses : List Access → ℕ → Bool
in_clauses [] c = false
in_clauses (a ∷ rest) c = in_access a c || in_clauses rest c

-- The fault of a release. The clauses are none of a reduction.
abbrev pub release_fault : Context → List Access → Option FaultKind
release_fault x clauses =
    if any_cell (λ c. is_released (right_of x c)) clauses then Some fault.Released
    else if any_cell (λ c. holds_uncovered (right_of x c) (right_from false clauses c)) clauses then Some fault.NotCovered
    else None

-- The right is none.
abbrev pub lacks_right : Right → Bool
lacks_right NoRight = true
lacks_right _ = false

-- The fault of a wait for the children's accesses to these cells. Every mode will do here.
abbrev pub wait_on_fault : Context → List Access → Option FaultKind
wait_on_fault x named =
    if any_cell (λ c. is_released (right_of x c)) named then Some fault.Released
    else if any_cell (λ c. lacks_right (right_of x c)) named then Some fault.NotCovered
    else None

-- The context of a new task.
abbrev pub child_context : Context → List Access → Bool → Context
child_context x clauses last = record {
  entries = table_from (λ c. record { right = right_from (x.final || last) clauses c; lent = Free; mark = mark_from (x.final || last) clauses c }) 0 (length x.entries);
  ticks = 0;
  fuel = x.fuel;
  created = 0;
  depth = x.depth + 1;
  final = x.final || last;
}

-- What is lent of a cell after a child got this right to it.
abbrev pub lend_cell : Right → Lending → Lending
lend_cell (Holds Read strong) Free = Reading
lend_cell (Holds Read strong) old = old
lend_cell (Holds m strong) old = Writing
lend_cell _ old = old

-- The context of a creator after it lent these rights.
abbrev pub lend : (ℕ → Right) → Context → Context
lend given x = with_entries (λ c. record { right = right_of x c; lent = lend_cell (given c) (lent_of x c); mark = mark_of x c }) x

-- The mark of a cell after a child got this right to it: what the child may write counts as written.
abbrev pub made_mark : Right → Mark → Mark
made_mark (Holds Write strong) old = Written
made_mark _ old = old

-- The context of a creator after it gave these rights to a new task.
abbrev pub made : (ℕ → Right) → Context → Context
made given x = with_entries (λ c. record { right = right_of x c; lent = lent_of x c; mark = made_mark (given c) (mark_of x c) }) x

-- The context after a write of the cell, or a fold into it.
abbrev pub wrote : ℕ → Context → Context
wrote cell x = with_entries (λ c. record { right = right_of x c; lent = lent_of x c; mark = if c == cell then Written else mark_of x c }) x

-- The context after a release: the whole right to each cell is gone.
abbrev pub release : List Access → Context → Context
release clauses x = with_entries (λ c. record { right = if in_clauses clauses c then Released else right_of x c; lent = lent_of x c; mark = mark_of x c }) x

-- The context after a wait for all children.
abbrev pub waited : Context → Context
waited x = with_entries (λ c. record { right = right_of x c; lent = Free; mark = mark_of x c }) x

-- The context after a wait for the children's accesses to these cells.
abbrev pub waited_on : List Access → Context → Context
waited_on named x = with_entries (λ c. record { right = right_of x c; lent = if in_clauses named c then Free else lent_of x c; mark = mark_of x c }) x
