use Rattle.std.proofs.Common.{◌≡◌, ◌+◌, ◌*◌, length}
use Rattle.oss_expressions.specs.ExpressionReading.{read_more, read_operations, read_whole}
use Rattle.oss_expressions.specs.Operands.{read_above}
use Rattle.oss_expressions.proofs.expressions.+expression.Given as goal

-- each function calls one with a level less, or one that stands lower
abbrev pub decreases-whole : goal.decreases-whole
decreases-whole l = 64 * l.levels

abbrev pub decreases-unary : goal.decreases-unary
decreases-unary l = 64 * l.levels

abbrev pub decreases-next_value : goal.decreases-next_value
decreases-next_value l = 64 * l.levels + 1

abbrev pub decreases-more_values : goal.decreases-more_values
decreases-more_values l = 64 * l.levels + 2

abbrev pub decreases-values : goal.decreases-values
decreases-values l = 64 * l.levels + 3

abbrev pub decreases-arguments : goal.decreases-arguments
decreases-arguments l = 64 * l.levels + 4

abbrev pub decreases-call : goal.decreases-call
decreases-call l = 64 * l.levels + 5

abbrev pub decreases-named : goal.decreases-named
decreases-named l = 64 * l.levels + 6

abbrev pub decreases-brackets : goal.decreases-brackets
decreases-brackets l = 64 * l.levels + 6

abbrev pub decreases-primary : goal.decreases-primary
decreases-primary l = 64 * l.levels + 7

abbrev pub decreases-index : goal.decreases-index
decreases-index l = 64 * l.levels + 7

abbrev pub decreases-second_index : goal.decreases-second_index
decreases-second_index l = 64 * l.levels + 8

abbrev pub decreases-postfix : goal.decreases-postfix
decreases-postfix l = 64 * l.levels + 9

abbrev pub decreases-operand : goal.decreases-operand
decreases-operand l = 64 * l.levels + 10

abbrev pub decreases-above : goal.decreases-above
decreases-above l = 64 * l.levels + 11 + 3 * l.more

abbrev pub decreases-operation : goal.decreases-operation
decreases-operation l = 64 * l.levels + 12 + 3 * l.more

abbrev pub decreases-operations : goal.decreases-operations
decreases-operations l = 64 * l.levels + 13 + 3 * l.more

-- what is read behind the values so far is what is read of the whole, and nothing is taken of what is not shown
abbrev pub invariant-more_values-values : goal.invariant-more_values-values
invariant-more_values-values l = record {
  same : read_more (read_whole l.levels) l.found l.tokens.seen ≡ read_more (read_whole l.levels) l.fn.found l.fn.tokens.seen;
  behind : l.tokens.behind ≡ l.fn.tokens.behind;
}

abbrev pub decreases-more_values-values : goal.decreases-more_values-values
decreases-more_values-values l = length l.tokens.seen

abbrev pub invariant-operations-operations : goal.invariant-operations-operations
invariant-operations-operations l = record {
  same : read_operations l.level (read_above l.more l.levels) l.value l.tokens.seen ≡ read_operations l.level (read_above l.more l.levels) l.fn.left l.fn.tokens.seen;
  behind : l.tokens.behind ≡ l.fn.tokens.behind;
}

abbrev pub decreases-operations-operations : goal.decreases-operations-operations
decreases-operations-operations l = length l.tokens.seen
