use Rattle.std.proofs.Common.{◌≡◌, [], length}
use Rattle.oss_expressions.specs.ExpressionReading.{read_expression}
use Rattle.oss_pragma.specs.PragmaReading.{counted_with, read_clauses}
use Rattle.oss_pragma.proofs.clauses.clauses.Given as goal

-- what is read behind the clauses so far is what is read of the whole
abbrev pub invariant-clauses : goal.invariant-clauses
invariant-clauses l = read_clauses read_expression (counted_with l.fn.kind l.found) l.tokens ≡ read_clauses read_expression (counted_with l.fn.kind []) l.fn.tokens

abbrev pub decreases-clauses : goal.decreases-clauses
decreases-clauses l = length l.tokens
