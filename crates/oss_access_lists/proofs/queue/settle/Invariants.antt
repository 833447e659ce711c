use Rattle.oss_access_lists.specs.Tables.{AreTables, left_in}
use Rattle.oss_access_lists.proofs.queue.settle.Given as goal

abbrev pub invariant-loop-head : goal.invariant-loop-head
invariant-loop-head l = AreTables l.hangs l.stand l.posted l.behind l.head

abbrev pub decreases-loop-head : goal.decreases-loop-head
decreases-loop-head l = left_in l.stand
