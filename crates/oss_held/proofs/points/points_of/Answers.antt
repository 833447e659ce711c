use Rattle.oss_core.proofs.PlacedLemmas.{at_in}
use Rattle.oss_held.proofs.PointLemmas.{points_begin, points_done, points_next}
use Rattle.oss_held.proofs.points.points_of.Goals as goal

pub loop-task-init : goal.loop-task-init
loop-task-init c = points_begin c.args.tree.now.tasks c.args.tasks.now c.new-points.result c.new-points.ensures

pub point-requires : goal.point-requires
point-requires c = c.requires.there _ (at_in c.args.tasks.now c.loop-task.task-index _ c.loop-task-test.true)

pub loop-task-preserved : goal.loop-task-preserved
loop-task-preserved c =
    points_next c.args.tree.now.tasks c.args.tasks.now c.loop-task.points c.push.new.self c.loop-task.task-index _ c.point.result.now _ c.loop-task-test.true c.in_ok-push.ensures.ok c.in_ok-point.ensures c.point.ensures c.loop-task.invariant

pub returns : goal.returns
returns c = points_done c.args.tree.now.tasks c.args.tasks.now c.loop-task.points c.loop-task.task-index c.loop-task-test.false c.loop-task.invariant
