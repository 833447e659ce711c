use Rattle.std.proofs.Common.{◌≡◌, ◌+◌, ◌*◌, ◌++◌, drop, map}
use Rattle.oss_lower_laws.specs.ExpressionCode.{arguments_code, expr_code}
use Rattle.oss_lower_expressions.proofs.ExprWeights.{weight, weights}
use Rattle.oss_lower_expressions.proofs.expressions.+expressions.Given as goal

-- what is written and what is left are the instructions of all arguments
abbrev pub invariant-arguments-loop-one : goal.invariant-arguments-loop-one
invariant-arguments-loop-one l =
    l.out ++ arguments_code (map (expr_code l.site.names.now l.site.scope.now) (drop l.one-index l.values)) l.site.line l.above
    ≡ l.fn.out ++ arguments_code (map (expr_code l.site.names.now l.site.scope.now) l.values) l.site.line l.depth

-- each function has a smaller part of the expression than its caller, or stands below it
abbrev pub decreases-value : goal.decreases-value
decreases-value l = 8 * weight l.expr.now

abbrev pub decreases-place : goal.decreases-place
decreases-place l = 8 * weight l.expr.now

abbrev pub decreases-row_index : goal.decreases-row_index
decreases-row_index l = 8 * weight l.row.now + 1

abbrev pub decreases-index_place : goal.decreases-index_place
decreases-index_place l = 8 * (weight l.base.now + weight l.index.now) + 2

abbrev pub decreases-index_value : goal.decreases-index_value
decreases-index_value l = 8 * (weight l.base.now + weight l.index.now) + 3

abbrev pub decreases-prefix_value : goal.decreases-prefix_value
decreases-prefix_value l = 8 * weight l.operand.now + 1

abbrev pub decreases-binary : goal.decreases-binary
decreases-binary l = 8 * (weight l.left.now + weight l.right.now) + 2

abbrev pub decreases-and : goal.decreases-and
decreases-and l = 8 * (weight l.left.now + weight l.right.now) + 1

abbrev pub decreases-or : goal.decreases-or
decreases-or l = 8 * (weight l.left.now + weight l.right.now) + 1

abbrev pub decreases-arguments : goal.decreases-arguments
decreases-arguments l = 8 * weights l.values.now + 1

abbrev pub decreases-call : goal.decreases-call
decreases-call l = 8 * weights l.values.now + 2
