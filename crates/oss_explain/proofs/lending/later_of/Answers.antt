use Rattle.std.proofs.Common.{refl}
use Rattle.oss_explain.proofs.HoldingLemmas.{if_ok_as}
use Rattle.oss_explain.proofs.LentLemmas.{several_later}
use Rattle.oss_explain.proofs.lending.later_of.Goals as goal

pub returns-in-Some-split_last : goal.returns-in-Some-split_last
returns-in-Some-split_last c =
    if_ok_as c.several.result
    (λ is h.
    several_later c.args.point.now c.args.others.now c.in-Some.second.now c.in-Some.more.now c.in-Some-split_last.field-0-1.now c.in-Some-split_last.last.now _ is c.in-Some.ensures.cases.0 c.in-Some-split_last.ensures.cases.0
    refl h)
    c.several.ensures
