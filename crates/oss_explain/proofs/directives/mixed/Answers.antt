use Rattle.oss_explain.proofs.DirectiveLemmas.{failing_same, has_same}
use Rattle.oss_explain.proofs.HoldingLemmas.{if_ok_as}
use Rattle.oss_explain.proofs.directives.mixed.Goals as goal

pub failing-requires-clause-some : goal.failing-requires-clause-some
failing-requires-clause-some c = has_same (c.in_ok-modes.ensures.mixed c.requires.some.0) c.requires.some.1

pub returns : goal.returns
returns c = if_ok_as c.failing.result (λ found h final. failing_same c.args.program.now.items found (c.in_ok-modes.ensures.mixed final) h) c.failing.ensures
