use Rattle.std.proofs.Common.{◌≡◌, drop}
use Rattle.oss_explain.specs.Noting.{in_ranges}
use Rattle.oss_explain.proofs.holders.is_in.Given as goal

-- no range so far has the cell
abbrev pub invariant-loop-range : goal.invariant-loop-range
invariant-loop-range l = in_ranges (drop l.range-index l.ranges) l.cell ≡ in_ranges l.ranges l.cell
