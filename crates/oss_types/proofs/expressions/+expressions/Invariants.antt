use Rattle.std.proofs.Common.{◌≡◌, drop, map}
use Rattle.oss_grammar.specs.Broken.{first}
use Rattle.oss_grammar.specs.ExpressionRules.{argument_rules, findings}
use Rattle.oss_types.proofs.expressions.+expressions.Given as goal

-- the arguments so far break no rule
abbrev pub invariant-arguments-loop-value : goal.invariant-arguments-loop-value
invariant-arguments-loop-value l = first (argument_rules l.left (map (findings l.globals l.locals) (drop l.value-index l.values))) ≡ first (argument_rules l.params (map (findings l.globals l.locals) l.values))
