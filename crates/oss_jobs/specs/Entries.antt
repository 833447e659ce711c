-- Entries on cells, as they are kept: of a task's entries on neighbouring cells, which follow each other, one number is kept for all.
-- Read against: a child with the number 7 has the cells 4, 5 and 9. Its entries there are 8, 9 and 10. For 4 and 5 the number 1,048,580 is kept,
-- which is 1,048,576 and 8 less 4, and for 9 the number 1,048,577. A child that has the cell 5 under the number 20 alone, and is entered after it,
-- has the entry 21 there, and that on 4 is still 8.
use Rattle.std.specs.Prelude.{ℕ, ◌+◌, ◌-◌, min, if◌then◌else◌, List, [], ◌∷◌, Option, Some, None}
use Rattle.oss_ranges.specs.Cells.{is_within}
use Rattle.oss_syntax.specs.declared.access.Access.{Access}

-- How many cells accesses name, of which no two name one: the cells 4, 5 and 9 are three.
abbrev pub cells_in : List Access → ℕ
cells_in [] = 0
cells_in (a ∷ rest) = (a.range.hi - a.range.lo) + cells_in rest

-- The number that is kept for the cells from `lo` on, whose first entry is this: of 8 on cell 4 it is 1,048,580. No cell has the number 1,048,576.
abbrev pub base_of : ℕ → ℕ → ℕ
base_of lo first = (1048576 + first) - lo

-- The entry on a cell, by what is kept for it. The sum is one of 32 bits, and no entry makes it greater.
abbrev pub entry_told : Option ℕ → ℕ → Option ℕ
entry_told None cell = None
entry_told (Some base) cell = Some (min (base + cell) 4294967295 - 1048576)

-- An entry of a task whose number is 0, as that of the task with this number: of the first cell's entry, 1, and the number 7 it is 8. The sum is
-- one of 32 bits, and no entry makes it greater.
abbrev pub moved : ℕ → Option ℕ → Option ℕ
moved t None = None
moved t (Some entry) = Some (min (t + entry) 4294967295)

-- What is kept for a cell after accesses have got their entries, from this number on: for the cells of an access that of the access, and else what was kept.
abbrev pub entered : ℕ → List Access → ℕ → Option ℕ → Option ℕ
entered first [] cell kept = kept
entered first (a ∷ rest) cell kept =
    entered (first + (a.range.hi - a.range.lo)) rest cell (if is_within a.range.lo a.range.hi cell then Some (base_of a.range.lo first) else kept)

-- An entry, or 0 if there is none, which is the entry of no cell.
abbrev pub or_zero : Option ℕ → ℕ
or_zero None = 0
or_zero (Some entry) = entry
