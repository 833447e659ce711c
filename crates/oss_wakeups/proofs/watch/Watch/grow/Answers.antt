use Rattle.std.proofs.Common.{◌≡◌, ◌∙◌, ℕ, arith, length, subst, sym, vec_len}
use Rattle.oss_wakeups.specs.Watching.{HasGrown}
use Rattle.oss_wakeups.proofs.GrowingLemmas.{grown_more, grown_none}
use Rattle.oss_wakeups.proofs.watch.Watch.grow.Goals as goal

pub loop-number-init : goal.loop-number-init
loop-number-init c =
    let l : vec_len c.args.self.now.asleep ≡ length c.args.self.now.asleep.items = omega (arith, c.args.self.now.asleep.ok.0) in
    subst (λ (n : ℕ). HasGrown n c.args.self.now c.args.self.now) (sym (c.len-number.ensures ∙ l)) (grown_none c.args.self.now)

pub loop-number-preserved : goal.loop-number-preserved
loop-number-preserved c = grown_more c.loop-number.number c.args.self.now c.loop-number.self c.add.new.self c.loop-number.invariant c.in_ok-add.ensures

pub returns : goal.returns
returns c =
    let size : vec_len c.args.self.now.asleep ≡ length c.args.self.now.asleep.items = omega (arith, c.args.self.now.asleep.ok.0) in
    let start = c.len-number.ensures ∙ size in
    let few = c.requires in
    let l = c.loop-number.auto.number-end (omega (arith, start, few)) in
    let m = c.loop-number-test.false in
    let e : c.loop-number.number ≡ c.args.count = omega (arith, l, m) in
    subst (λ (n : ℕ). HasGrown n c.args.self.now c.loop-number.self) e c.loop-number.invariant
