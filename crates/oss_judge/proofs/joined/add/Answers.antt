use Rattle.std.proofs.Common.{rules}
use Rattle.oss_judge.specs.Joined.{Continues}
use Rattle.oss_judge.proofs.JoinedLemmas.{adds_behind, adds_on}
use Rattle.oss_judge.proofs.joined.add.Goals as goal

pub returns-in_ok-push-in-Some : goal.returns-in_ok-push-in-Some
returns-in_ok-push-in-Some c =
    let last = c.in-Some.last in
    let on : Continues last c.args.next = search rules in
    adds_on c.pop.new.self.items last c.args.next c.joined.result c.args.accesses.now.items c.push.new.self.items
    c.in-Some.ensures.items c.in_ok-push-in-Some.ensures.items c.requires.below c.requires.rising on
    c.joined.ensures.lo c.joined.ensures.hi c.joined.ensures.mode c.joined.ensures.strong c.joined.ensures.fresh

pub returns-in_ok-push-in-Some-3 : goal.returns-in_ok-push-in-Some-3
returns-in_ok-push-in-Some-3 c =
    let last = c.in-Some.last in
    let apart : Continues last c.args.next → ⊥ = search rules in
    adds_behind c.pop.new.self.items last c.args.next c.args.accesses.now.items c.push-else-is_continued.new.self.items c.push-else-is_continued-2.new.self.items
    c.in-Some.ensures.items c.in_ok-push-in-Some-2.ensures.items c.in_ok-push-in-Some-3.ensures.items c.requires.below c.requires.rising apart
