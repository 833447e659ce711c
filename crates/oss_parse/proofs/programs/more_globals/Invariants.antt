use Rattle.std.proofs.Common.{◌≡◌, length}
use Rattle.oss_expressions.specs.ExpressionReading.{read_more}
use Rattle.oss_parse.specs.ProgramReading.{read_global}
use Rattle.oss_parse.proofs.programs.more_globals.Given as goal

-- what is read behind the globals so far is what is read of the whole
abbrev pub invariant-globals : goal.invariant-globals
invariant-globals l = read_more (read_global l.numbers) l.found l.tokens ≡ read_more (read_global l.numbers) l.fn.found l.fn.tokens

abbrev pub decreases-globals : goal.decreases-globals
decreases-globals l = length l.tokens
