use Rattle.std.proofs.Common.{refl}
use Rattle.oss_core.proofs.CallLemmas.{if_ok}
use Rattle.oss_core.proofs.PlacedLemmas.{at_in, placed_begins, placed_done, placed_next, sorted_all}
use Rattle.oss_core.proofs.ordering.in_order.Goals as goal

pub loop-task-init : goal.loop-task-init
loop-task-init c = placed_begins c.args.tree.now.tasks c.args.tasks.now c.new-placed.result.items c.new-placed.ensures.items

pub point-requires : goal.point-requires
point-requires c = c.requires.there _ (at_in c.args.tasks.now c.loop-task.task-index _ c.loop-task-test.true)

pub loop-task-preserved : goal.loop-task-preserved
loop-task-preserved c =
    placed_next c.args.tree.now.tasks c.args.tasks.now c.loop-task.placed.items c.push.new.self.items c.loop-task.task-index _ c.point.result.now _ c.loop-task-test.true c.in_ok-push.ensures.items refl refl c.point.ensures c.loop-task.invariant

pub returns : goal.returns
returns c =
    if_ok c.sorted.result
    (λ now sorted. sorted_all c.args.tree.now.tasks c.requires.tree c.args.tasks.now c.loop-task.placed.items now.items c.requires.once
    (placed_done c.args.tree.now.tasks c.args.tasks.now c.loop-task.placed.items c.loop-task.task-index c.loop-task-test.false c.loop-task.invariant) sorted)
    c.sorted.ensures
