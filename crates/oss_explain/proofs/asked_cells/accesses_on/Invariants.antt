use Rattle.std.proofs.Common.{◌≡◌, ◌++◌, drop}
use Rattle.oss_meaning.specs.Clauses.{waited_for}
use Rattle.oss_meaning.specs.Sections.{declared_on}
use Rattle.oss_explain.proofs.asked_cells.accesses_on.Given as goal

-- what is left goes behind what is there
abbrev pub invariant-loop-range : goal.invariant-loop-range
invariant-loop-range l = l.named.items ++ declared_on waited_for (drop l.range-index l.ranges) ≡ declared_on waited_for l.ranges
