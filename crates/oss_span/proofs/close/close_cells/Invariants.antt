use Rattle.std.proofs.Common.{length, ◌-◌, ◌≤◌}
use Rattle.oss_span.specs.Frames.{AreClosed, Grows}
use Rattle.oss_span.proofs.close.close_cells.Given as goal

-- the cells so far are given up
abbrev pub invariant-loop-from : goal.invariant-loop-from
invariant-loop-from l = record {
  high : l.from ≤ 1048576;
  cells : AreClosed (length l.initial.nodes) l.nodes l.task l.kept l.child.pieces l.initial.creator.pieces l.creator.pieces l.from l.lets;
  few : length l.initial.nodes ≤ length l.nodes;
  grows : Grows l.initial.nodes l.nodes;
}

abbrev pub decreases-loop-from : goal.decreases-loop-from
decreases-loop-from l = 1048576 - l.from
