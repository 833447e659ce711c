use Rattle.std.proofs.Common.{◌≡◌, ◌++◌, drop}
use Rattle.oss_sections.specs.RangeCells.{AreJoined, cells_of}
use Rattle.oss_machine.proofs.instructions.turns.add_ranges.Given as goal

-- the cells so far, with those of the ranges that are left
abbrev pub invariant-loop-range : goal.invariant-loop-range
invariant-loop-range l = record {
  cells : cells_of l.joined ++ cells_of (drop l.range-index l.ranges) ≡ cells_of l.fn.joined ++ cells_of l.ranges;
  joined : AreJoined l.fn.joined → AreJoined l.joined;
}
