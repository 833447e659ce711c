-- The numbers of a task's entries follow each other: its own, and then one for each of its cells, in rising order.
-- Read against: the task 7 of `Roles` has the cells 4 and 5. Of the cells below 4 it has none, and of those below 5 one, so its entry on 4 is 8
-- and that on 5 is 9; on cell 6 it has none.
use Rattle.std.specs.Prelude.{◌+◌, ℕ, Bool, true, false, if◌then◌else◌, Option, Some, None}
use Rattle.oss_model.specs.Rights.{Right, Holds}
use Rattle.oss_words.specs.Sums.{below, num}

-- A task with this right to a cell has the cell: it may touch it, or its children may.
abbrev pub has_cell : Right → Bool
has_cell (Holds mode strong) = true
has_cell _ = false

-- How many of the cells below this one a task with these rights has.
abbrev pub cells_below : (ℕ → Right) → ℕ → ℕ
cells_below own c = below (λ d. num (has_cell (own d))) c

-- The number of the entry of the task with this number and these rights on a cell that it has.
abbrev pub entry_number : ℕ → (ℕ → Right) → ℕ → ℕ
entry_number t own c = t + 1 + cells_below own c

-- The entry of the task with this number and these rights on a cell, if it has the cell.
abbrev pub entry_on : ℕ → (ℕ → Right) → ℕ → Option ℕ
entry_on t own c = if has_cell (own c) then Some (entry_number t own c) else None
