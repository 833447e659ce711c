use Rattle.std.proofs.Common.{◌≡◌, length}
use Rattle.oss_expressions.specs.ExpressionReading.{read_expression}
use Rattle.oss_parse.specs.Inner.{read_body}
use Rattle.oss_parse.specs.ProgramReading.{read_program_items}
use Rattle.oss_parse.proofs.ProgramLoops.{read_items_behind}
use Rattle.oss_parse.proofs.programs.program_items.Given as goal

-- what is read behind the items so far is what is read of the whole
abbrev pub invariant-items : goal.invariant-items
invariant-items l = read_items_behind l.found l.tokens ≡ read_program_items read_expression read_body l.fn.tokens

abbrev pub decreases-items : goal.decreases-items
decreases-items l = length l.tokens
