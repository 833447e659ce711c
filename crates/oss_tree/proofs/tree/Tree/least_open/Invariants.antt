use Rattle.std.proofs.Common.{◌-◌, length}
use Rattle.oss_tree.proofs.FindLemmas.{Standing}
use Rattle.oss_tree.proofs.tree.Tree.least_open.Given as goal

abbrev pub invariant-loop-child : goal.invariant-loop-child
invariant-loop-child l = Standing l.self.tasks l.at.0

abbrev pub decreases-loop-child : goal.decreases-loop-child
decreases-loop-child l = length l.self.tasks - l.at.0
