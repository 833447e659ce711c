-- The range of one cell.
use Rattle.std.specs.Prelude.{ℕ, ◌+◌, min}
use Rattle.std.proofs.Common.{lit<}
use Rattle.std.proofs.Math.Nat.{min-le_right, lt_of_le_of_lt}
use Rattle.std.proofs.Math.Numerals.{lt-add-one, add-one-le}
use Rattle.oss_syntax.specs.declared.access.Range.{Range}

-- The range of one cell. A program has at most 1,048,576 cells.
abbrev pub cell_range : ℕ → Range
cell_range c = record {
  lo = min c 1048575;
  hi = min c 1048575 + 1;
  ordered = lt-add-one (min c 1048575);
  within = add-one-le (lt_of_le_of_lt (min-le_right c 1048575) (lit< tt));
}
