use Rattle.std.proofs.Common.{◌∙◌, length, List, refl, subst}
use Rattle.std.proofs.lemmas.List.{take_all}
use Rattle.std.proofs.lemmas.Option.{slice_get_read}
use Rattle.oss_core.specs.declared.passing.Passed.{Passed}
use Rattle.oss_wakeups.specs.Watches.{IsAbovePassed}
use Rattle.oss_wakeups.specs.Watching.{HasWoken}
use Rattle.oss_wakeups.proofs.AboveLemmas.{passed_more, passed_none}
use Rattle.oss_wakeups.proofs.watch.Watch.wake_passed.Goals as goal

pub loop-one-init : goal.loop-one-init
loop-one-init c = passed_none c.args.tree.now.tasks c.args.self.now

pub wake_above-requires-clause-sizes : goal.wake_above-requires-clause-sizes
wake_above-requires-clause-sizes c = c.loop-one.invariant.watchers_size ∙ c.requires.sizes

pub loop-one-preserved : goal.loop-one-preserved
loop-one-preserved c = passed_more c.args.tree.now.tasks c.args.passed.now c.loop-one.one-index c.one-item.result (slice_get_read c.args.passed.now (length c.args.passed.now) c.loop-one.one-index c.one-item.result refl c.loop-one-test.true c.one-item.is) c.args.self.now c.loop-one.self c.wake_above.new.self c.loop-one.invariant c.in_ok-wake_above.ensures

pub returns : goal.returns
returns c = subst (λ (ts : List Passed). HasWoken (IsAbovePassed c.args.tree.now.tasks ts) c.args.self.now c.loop-one.self) (take_all c.loop-one.one-index c.args.passed.now c.loop-one-test.false) c.loop-one.invariant
