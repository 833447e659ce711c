use Rattle.std.proofs.Common.{◌∙◌, ap}
use Rattle.oss_grammar.specs.Broken.{first}
use Rattle.oss_grammar.specs.ExpressionRules.{value_rules}
use Rattle.oss_types.proofs.expressions.value.Goals as goal

pub returns : goal.returns
returns c = c.value_in.ensures ∙ ap (λ ls. first (value_rules c.args.globals.now ls c.args.wanted c.args.expr.now)) c.all.ensures
