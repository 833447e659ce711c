use Rattle.std.proofs.Common.{◌≡◌, length}
use Rattle.oss_expressions.specs.ExpressionReading.{read_more}
use Rattle.oss_parse.specs.ProgramReading.{read_parameter}
use Rattle.oss_parse.proofs.programs.more_parameters.Given as goal

-- what is read behind the parameters so far is what is read of the whole
abbrev pub invariant-parameters : goal.invariant-parameters
invariant-parameters l = read_more read_parameter l.found l.tokens ≡ read_more read_parameter l.fn.found l.fn.tokens

abbrev pub decreases-parameters : goal.decreases-parameters
decreases-parameters l = length l.tokens
