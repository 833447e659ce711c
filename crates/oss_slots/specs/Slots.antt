-- The private slots of a task's reductions. A fold under a strong reduction goes into the slot of the task for the cell, and
-- not into the cell; the slot is joined into the cell later (OmpSs-2, reduction clause).
-- Read against: after the slots of the cells 3 to 5 were added for `+`, folds of 7 and of 2 ^ 64 - 1 into that of the cell 4
-- make it 6, those of 3 and 5 stay 0, and no other cell has a slot.
use Rattle.std.specs.Prelude.{◌≡◌, ◌≤◌, ◌<◌, ◌+◌, ◌-◌, ◌==◌, ℕ, true, if◌then◌else◌, List, [], length, Option, Some, None, is_some, option_map, slice_index}
use Rattle.oss_model.specs.Moves.{combine, neutral_value}
use Rattle.oss_ranges.specs.Cells.{is_within, value_at}
use Rattle.oss_ranges.specs.declared.piece.Piece.{Piece}
use Rattle.oss_slots.specs.declared.home.Home.{Home}
use Rattle.oss_syntax.specs.declared.access.Op.{Op}

-- A slot: its operator, and the fold of the values since it was added or last taken from. A slot for `&` into which 6 and 3
-- were folded is `And` with 2.
pub record Slot : Type 0 where
  pub op : Op
  pub value : ℕ

-- Where the value of a cell stands among all values: behind that of the first cell of its range. With the range from 3 on at
-- 10, the value of 4 stands at 11.
abbrev pub place_of : Home → ℕ → ℕ
place_of home cell = home.first + (cell - home.lo)

-- What contracts see of slots: where the values of the ranges stand, and all values. What they mean is `slot_at`. With the
-- cells 3 to 5 at 0, and the values 0, 6, 0, the slot of the cell 4 has the value 6.
pub record Kept : Type 0 where
  pub homes : List (Piece Home)
  pub values : List ℕ

-- The slot of a cell whose value stands there, if it has one: at 10 for the cells from 3 on, that of 4 has the value at 11.
abbrev pub slot_by : List ℕ → ℕ → Option Home → Option Slot
slot_by values cell None = None
slot_by values cell (Some home) = Some (record { op = home.op; value = slice_index values (place_of home cell) })

-- The slot of a cell, if it has one: after those of 3 to 5 were added, that of 4 is a slot, and 6 has none.
abbrev pub slot_at : Kept → ℕ → Option Slot
slot_at slots cell = slot_by slots.values cell (value_at slots.homes cell)

-- The cell has a slot: 4 has one after those of 3 to 5 were added, and 6 has none.
abbrev pub HasSlot : Kept → ℕ → Type 0
HasSlot slots cell = is_some (slot_at slots cell) ≡ true

-- The value of a slot: 2 of `And` with 2.
abbrev pub value_of : Slot → ℕ
value_of slot = slot.value

-- The value of the slot of a cell, if it has one: 6 of the cell 4 after folds of 7 and 2 ^ 64 - 1 into its slot for `+`.
abbrev pub value_in : Kept → ℕ → Option ℕ
value_in slots cell = option_map value_of (slot_at slots cell)

-- No cell has a slot: neither has 4, nor any other.
abbrev pub none : Kept
none = record { homes = []; values = [] }

-- Each cell has the same slot, or none, whatever else is kept: the values 0, 6, 0 and 0, 6, 0, 9 with the cells 3 to 5 at 0
-- mean the same slots.
abbrev pub SameSlots : Kept → Kept → Type 0
SameSlots new old = (cell : ℕ) → slot_at new cell ≡ slot_at old cell

-- A slot as it is added: with the neutral value of its operator, which is 2 ^ 64 - 1 for `&`, and else 0.
abbrev pub fresh : Op → Slot
fresh op = record { op = op; value = neutral_value op }

-- The cells of a range get a slot for an operator, and the others keep what they had: with 3 to 5 for `&`, that of 4 has
-- 2 ^ 64 - 1.
abbrev pub Adds : ℕ → ℕ → Op → Kept → Kept → Type 0
Adds lo hi op old new = (cell : ℕ) → slot_at new cell ≡ (if is_within lo hi cell then Some (fresh op) else slot_at old cell)

-- A slot after one more fold, as `slot_more` of the machine has it: `Xor` with 5 is `Xor` with 6 after a fold of 3.
abbrev pub folded : ℕ → Slot → Slot
folded value slot = record { op = slot.op; value = combine slot.op slot.value value }

-- A slot after its value was taken, as it was added: `And` with 2 is `And` with 2 ^ 64 - 1.
abbrev pub emptied : Slot → Slot
emptied slot = fresh slot.op

-- The slot of one cell changes so, and no other does: with `folded 3` at 4, that of 4 alone has a fold of 3 more.
abbrev pub Changes : ℕ → (Slot → Slot) → Kept → Kept → Type 0
Changes cell change old new = (other : ℕ) → slot_at new other ≡ (if other == cell then option_map change (slot_at old other) else slot_at old other)

-- Each cell that has a slot has a value of its own: it is among all values, and no other cell's stands there. With 3 to 5 at
-- 0, there are at least three values, and no other range stands at 0, 1 or 2.
pub record IsHoused (homes : List (Piece Home)) (values : List ℕ) : Type 0 where
  pub within : (cell : ℕ) (home : Home) → value_at homes cell ≡ Some home → (home.lo ≤ cell) × (place_of home cell < length values)
  pub apart : (cell other : ℕ) (home neighbour : Home) → value_at homes cell ≡ Some home → value_at homes other ≡ Some neighbour → place_of home cell ≡ place_of neighbour other → cell ≡ other
