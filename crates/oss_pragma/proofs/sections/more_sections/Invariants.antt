use Rattle.std.proofs.Common.{◌≡◌, length}
use Rattle.oss_expressions.specs.ExpressionReading.{read_expression, read_more}
use Rattle.oss_pragma.specs.PragmaReading.{read_section}
use Rattle.oss_pragma.proofs.sections.more_sections.Given as goal

-- what is read behind the sections so far is what is read of the whole
abbrev pub invariant-sections : goal.invariant-sections
invariant-sections l = read_more (read_section read_expression) l.found l.tokens ≡ read_more (read_section read_expression) l.fn.found l.fn.tokens

abbrev pub decreases-sections : goal.decreases-sections
decreases-sections l = length l.tokens
