use Rattle.oss_core.proofs.AddedLemmas.{added_behind, added_on}
use Rattle.oss_core.proofs.passing.note.Goals as goal

pub returns-in_ok-push-in-Some : goal.returns-in_ok-push-in-Some
returns-in_ok-push-in-Some c =
    added_on c.pop.new.self.items c.in-Some.last c.args.one c.both.result c.args.passed.now.items c.push.new.self.items c.in-Some.ensures.items c.in_ok-push-in-Some.ensures.items (c.goes_on.ensures.0 c.if-goes_on.true) c.both.ensures

pub returns-in_ok-push-in-Some-3 : goal.returns-in_ok-push-in-Some-3
returns-in_ok-push-in-Some-3 c =
    added_behind c.pop.new.self.items c.in-Some.last c.args.one c.args.passed.now.items c.push-else-goes_on.new.self.items c.push-else-goes_on-2.new.self.items c.in-Some.ensures.items c.in_ok-push-in-Some-2.ensures.items c.in_ok-push-in-Some-3.ensures.items
    (λ on. let t = c.goes_on.ensures.1 on in let f = c.if-goes_on.false in cc)
