use Rattle.std.proofs.Common.{sym, ◌∙◌}
use Rattle.oss_model.specs.Rights.{holds_uncovered}
use Rattle.oss_judge.proofs.RunLemmas.{both-fail}
use Rattle.oss_judge.proofs.checks.is_uncovered_in.Goals as goal

pub loop-from-preserved : goal.loop-from-preserved
loop-from-preserved c =
    both-fail (λ r s. holds_uncovered r s) c.args.own.now.pieces c.args.given.now.pieces c.run_from-right.result.0 c.run_from-wanted.result.0
    c.told.result c.told-in-loop-from.result c.told.ensures c.told-in-loop-from.ensures
    c.loop-from.from c.run_from-right.result.1 c.run_from-wanted.result.1 c.args.range.hi
    c.run_from-wanted.ensures.some c.run_from-wanted.ensures.within c.run_from-right.ensures.within c.run_from-right.ensures.alike c.run_from-wanted.ensures.alike
    (sym c.is_uncovered.ensures ∙ c.if-is_uncovered.false)
    ∙ c.loop-from.invariant
