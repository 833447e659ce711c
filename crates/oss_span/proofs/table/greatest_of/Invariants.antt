use Rattle.std.proofs.Common.{take}
use Rattle.oss_span.specs.Tables.{IsGreatestOf}
use Rattle.oss_span.proofs.table.greatest_of.Given as goal

-- the longest of the ranges so far
abbrev pub invariant-loop-range : goal.invariant-loop-range
invariant-loop-range l = IsGreatestOf l.way l.table.pieces (take l.range-index l.ranges) l.best
