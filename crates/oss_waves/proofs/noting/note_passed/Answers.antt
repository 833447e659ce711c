use Rattle.oss_waves.specs.Noting.{IsGivenOf}
use Rattle.oss_waves.proofs.ListLemmas.{given_one, item_at}
use Rattle.oss_waves.proofs.noting.note_passed.Goals as goal

pub loop-one-preserved : goal.loop-one-preserved
loop-one-preserved g c =
    given_one (IsGivenOf c.args.core.now.tree.tasks) c.args.passed.now c.loop-one.one-index c.one-item.result c.in_ok-what.what c.args.lines.now c.loop-one.lines c.push.new.self
    (item_at c.args.passed.now c.loop-one.one-index c.one-item.result c.loop-one-test.true c.one-item.is) c.in_ok-what.ensures c.in_ok-push.ensures.ok c.loop-one.invariant
