use Rattle.std.proofs.Common.{◌≡◌, ◌+◌, ◌*◌, length}
use Rattle.oss_parse.specs.Inner.{read_parts, read_parts_behind}
use Rattle.oss_parse.proofs.statements.+statement.Given as goal

-- each function calls one with a level less, or one that stands lower
abbrev pub decreases-within : goal.decreases-within
decreases-within l = 64 * l.levels

abbrev pub decreases-part : goal.decreases-part
decreases-part l = 64 * l.levels

abbrev pub decreases-parts : goal.decreases-parts
decreases-parts l = 64 * l.levels + 1

abbrev pub decreases-block : goal.decreases-block
decreases-block l = 64 * l.levels + 2

abbrev pub decreases-else_branch : goal.decreases-else_branch
decreases-else_branch l = 64 * l.levels + 1

abbrev pub decreases-maybe_else : goal.decreases-maybe_else
decreases-maybe_else l = 64 * l.levels + 2

abbrev pub decreases-branches : goal.decreases-branches
decreases-branches l = 64 * l.levels + 3

abbrev pub decreases-if_statement : goal.decreases-if_statement
decreases-if_statement l = 64 * l.levels + 4

abbrev pub decreases-while_statement : goal.decreases-while_statement
decreases-while_statement l = 64 * l.levels + 3

abbrev pub decreases-for_statement : goal.decreases-for_statement
decreases-for_statement l = 64 * l.levels + 3

abbrev pub decreases-task_statement : goal.decreases-task_statement
decreases-task_statement l = 64 * l.levels + 1

abbrev pub decreases-task_loop_statement : goal.decreases-task_loop_statement
decreases-task_loop_statement l = 64 * l.levels + 1

abbrev pub decreases-directed : goal.decreases-directed
decreases-directed l = 64 * l.levels + 2

abbrev pub decreases-pragma_statement : goal.decreases-pragma_statement
decreases-pragma_statement l = 64 * l.levels + 3

abbrev pub decreases-keyword_statement : goal.decreases-keyword_statement
decreases-keyword_statement l = 64 * l.levels + 5

abbrev pub decreases-statement : goal.decreases-statement
decreases-statement l = 64 * l.levels + 6

abbrev pub decreases-item : goal.decreases-item
decreases-item l = 64 * l.levels + 7

-- what is read behind the statements so far is what is read of the whole
abbrev pub invariant-parts-parts : goal.invariant-parts-parts
invariant-parts-parts l = read_parts_behind l.levels l.found l.tokens ≡ read_parts l.levels l.fn.tokens

abbrev pub decreases-parts-parts : goal.decreases-parts-parts
decreases-parts-parts l = length l.tokens
