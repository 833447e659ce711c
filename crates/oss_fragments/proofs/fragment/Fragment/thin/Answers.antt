use Rattle.std.proofs.Common.{ap, refl, ◌∙◌, arith, length}
use Rattle.oss_access_lists.specs.Kept.{Kept}
use Rattle.oss_fragments.specs.declared.fragment.Fragment.{Fragment}
use Rattle.oss_fragments.proofs.LessLemmas.{left_as, none_spent, thinned_of}
use Rattle.oss_fragments.proofs.fragment.Fragment.thin.Goals as goal

pub returns-clause-thinner : goal.returns-clause-thinner
returns-clause-thinner c =
    let rest = c.in_ok-rest.rest in
    let left = c.in_ok-rest.ensures in
    let now : Fragment = record { lo = c.args.self.now.lo; hi = c.args.self.now.hi; asked = c.args.self.now.asked; tasks = c.reserve-2.new.self; line = c.reserve.new.self } in
    thinned_of c.args.self.now now c.as_slice.result.now rest.line.hangs rest.numbers.items c.requires.right (record { lo = refl; hi = refl; asked = refl }) c.as_slice.ensures.value
    (ap (λ (l : Kept). l.hangs) c.reserve.ensures.same) c.reserve-2.ensures.items left.same (ap (λ (l : Kept). l.head) c.reserve.ensures.same ∙ left.settled) left.size left.main left.rising
    (record { line = c.in_ok-reserve.ensures.ok; tasks = omega (arith, c.in_ok-reserve-2.ensures.ok, c.reserve-2.new.self.ok.0, ap length c.reserve-2.ensures.items) })

pub returns-then-not-has_spent-clause-left : goal.returns-then-not-has_spent-clause-left
returns-then-not-has_spent-clause-left c = none_spent c.args.self.now.line.hangs c.args.self.now.line.stand c.args.self.now.tasks.items c.requires.right.entries.size c.has_spent.result c.has_spent.ensures c.if-not-has_spent.true

pub returns-clause-left : goal.returns-clause-left
returns-clause-left c =
    left_as c.args.self.now.line.hangs c.args.self.now.line.stand c.args.self.now.tasks.items c.in_ok-rest.rest.line.hangs c.reserve.new.self.hangs c.in_ok-rest.rest.numbers.items c.reserve-2.new.self.items c.as_slice.result.now c.as_slice.ensures.value
    (ap (λ (l : Kept). l.hangs) c.reserve.ensures.same) c.reserve-2.ensures.items c.in_ok-rest.ensures.remainder
