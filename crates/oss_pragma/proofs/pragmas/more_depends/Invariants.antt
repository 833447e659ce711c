use Rattle.std.proofs.Common.{◌≡◌, length}
use Rattle.oss_expressions.specs.ExpressionReading.{read_expression}
use Rattle.oss_pragma.specs.PragmaReading.{read_more_depends}
use Rattle.oss_pragma.proofs.pragmas.more_depends.Given as goal

-- what is read behind the dependencies so far is what is read of the whole
abbrev pub invariant-depends : goal.invariant-depends
invariant-depends l = read_more_depends read_expression l.found l.tokens ≡ read_more_depends read_expression l.fn.found l.fn.tokens

abbrev pub decreases-depends : goal.decreases-depends
decreases-depends l = length l.tokens
