use Rattle.std.proofs.Common.{rules}
use Rattle.oss_span_check.proofs.PointLemmas.{part_end}
use Rattle.oss_span_check.proofs.point.part.Goals as goal

pub returns-else-at-earlier-clause-place : goal.returns-else-at-earlier-clause-place
returns-else-at-earlier-clause-place c = part_end c.loop-at.at c.args.later.now c.args.earlier.now c.loop-at.invariant.0 (search rules)
