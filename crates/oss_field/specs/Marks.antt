-- What a seat keeps of an entry whose value is left, while it joins that value into the cell.
-- Read against: entry 14 is a strong reduction by + of task 13 on cell 5. The task has ended and left 6 in it, and 14 may be joined. A seat holds the join of 14. It reads the number of the
-- cell, 5, then the value, 6, and then the state word of 14, whose first child is 20; then that of 20, whose next sibling is 23; and then that of 23, which leads nowhere. So it keeps of 14 that
-- its cell is 5, that its value is 6, that 20 and 23 are children, and that 23 is the last. All this stays so: the task has ended, so it makes no child any more, and nobody writes the value again.
use Rattle.std.specs.Prelude.{ℕ}

-- What is kept: the value that is left; the number of the cell; that there is no child; one of the children; the last of them.
pub data Fact : Type 0 where
  value_is : ℕ → Fact
  cell_is : ℕ → Fact
  has_none : Fact
  has_child : ℕ → Fact
  has_last : ℕ → Fact

-- Of which entry it is kept.
pub record Mark : Type 0 where
  pub entry : ℕ
  pub fact : Fact
