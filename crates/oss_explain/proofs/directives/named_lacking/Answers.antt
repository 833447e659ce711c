use Rattle.oss_explain.proofs.DirectiveLemmas.{failing_same, has_same}
use Rattle.oss_explain.proofs.HoldingLemmas.{if_ok_as}
use Rattle.oss_explain.proofs.directives.named_lacking.Goals as goal

pub failing-requires-clause-some : goal.failing-requires-clause-some
failing-requires-clause-some c = has_same c.in_ok-lacking.ensures c.requires.some

pub returns : goal.returns
returns c = if_ok_as c.failing.result (λ found h. failing_same c.args.program.now.items found c.in_ok-lacking.ensures h) c.failing.ensures
