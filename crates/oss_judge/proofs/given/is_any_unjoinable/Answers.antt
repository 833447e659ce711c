use Rattle.std.proofs.Common.{sym, ◌∙◌}
use Rattle.oss_model.specs.Rights.{is_unjoinable}
use Rattle.oss_judge.proofs.RunLemmas.{right-fails}
use Rattle.oss_judge.proofs.given.is_any_unjoinable.Goals as goal

pub loop-from-preserved : goal.loop-from-preserved
loop-from-preserved c =
    right-fails (λ r. is_unjoinable c.args.mode r) c.args.rights.now.pieces c.run_from-right.result.0 c.told.result c.told.ensures
    c.loop-from.from c.run_from-right.result.1 c.args.range.hi c.run_from-right.ensures.some c.run_from-right.ensures.within c.run_from-right.ensures.alike
    (sym c.is_unjoinable.ensures ∙ c.if-is_unjoinable.false)
    ∙ c.loop-from.invariant
