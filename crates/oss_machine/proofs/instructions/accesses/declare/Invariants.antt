use Rattle.std.proofs.Common.{◌≡◌, ◌++◌, take}
use Rattle.oss_meaning.specs.Sections.{declared_on}
use Rattle.oss_machine.proofs.instructions.accesses.declare.Given as goal

-- what the ranges so far declare is added
abbrev pub invariant-loop-range : goal.invariant-loop-range
invariant-loop-range l = l.accesses.items ≡ l.fn.accesses.items ++ declared_on l.declared (take l.range-index l.ranges)
