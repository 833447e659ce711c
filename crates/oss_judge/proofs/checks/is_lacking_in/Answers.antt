use Rattle.std.proofs.Common.{sym, ◌∙◌}
use Rattle.oss_model.specs.Context.{lacks_right}
use Rattle.oss_judge.proofs.RunLemmas.{right-fails}
use Rattle.oss_judge.proofs.checks.is_lacking_in.Goals as goal

pub loop-from-preserved : goal.loop-from-preserved
loop-from-preserved c =
    right-fails (λ r. lacks_right r) c.args.own.now.pieces c.run_from-right.result.0 c.told.result c.told.ensures
    c.loop-from.from c.run_from-right.result.1 c.args.range.hi c.run_from-right.ensures.some c.run_from-right.ensures.within c.run_from-right.ensures.alike
    (sym c.is_lacking.ensures ∙ c.if-is_lacking.false)
    ∙ c.loop-from.invariant
