use Rattle.std.proofs.Common.{◌≡◌, drop}
use Rattle.oss_grammar.specs.Broken.{first}
use Rattle.oss_grammar.specs.StaticRules.{numbers_rules}
use Rattle.oss_names.proofs.simple.numbers.Given as goal

-- the numbers so far break no rule
abbrev pub invariant-loop-expr : goal.invariant-loop-expr
invariant-loop-expr l = first (numbers_rules l.globals l.locals (drop l.expr-index l.values)) ≡ first (numbers_rules l.globals l.locals l.values)
