use Rattle.std.proofs.Common.{◌≡◌, length}
use Rattle.oss_grammar.specs.Reading.{from_count}
use Rattle.oss_grammar.specs.Levels.{is_operator}
use Rattle.oss_expressions.proofs.limits.excess.Given as goal

-- behind the tokens so far the same is found as from the start
abbrev pub invariant-tokens : goal.invariant-tokens
invariant-tokens l = from_count is_operator l.allowed l.left ≡ from_count is_operator l.fn.operators l.fn.tokens

abbrev pub decreases-tokens : goal.decreases-tokens
decreases-tokens l = length l.left
