use Rattle.std.proofs.Common.{◌∙◌, ◌<◌, ℕ, refl, subst, sym}
use Rattle.oss_wakeups.proofs.WakingLemmas.{levels_fall, next_there, parent_lower, way_begins, way_ended, way_on}
use Rattle.oss_wakeups.proofs.watch.Watch.wake_above.Goals as goal

pub levels-init : goal.levels-init
levels-init c = record { woken = way_begins c.args.tree.now.tasks c.args.task c.args.self.now; there = c.requires.there }

pub wake_watchers-requires : goal.wake_watchers-requires
wake_watchers-requires c = subst (λ (n : ℕ). c.in-Some.at.0 < n) (sym (c.levels.invariant.woken.watchers_size ∙ c.requires.sizes)) (next_there c.args.tree.now.tasks c.levels.next c.in-Some.at c.in-Some.is c.levels.invariant.there)

pub task-requires : goal.task-requires
task-requires c = next_there c.args.tree.now.tasks c.levels.next c.in-Some.at c.in-Some.is c.levels.invariant.there

pub levels-smaller : goal.levels-smaller
levels-smaller c = levels_fall c.args.tree.now.tasks c.count-tasks.ensures.tree c.in-Some.at c.task.result.now c.task.ensures c.levels.next c.in-Some.is

pub levels-preserved : goal.levels-preserved
levels-preserved c = record {
  woken = way_on c.args.tree.now.tasks c.args.task.0 c.in-Some.at c.task.result.now c.levels.next c.args.self.now c.levels.self c.wake_watchers.new.self c.in-Some.is c.task.ensures c.levels.invariant.woken c.in_ok-wake_watchers.ensures;
  there = (parent_lower c.args.tree.now.tasks c.count-tasks.ensures.tree c.in-Some.at.0 c.task.result.now c.task.ensures c.task.result.now.parent refl).0;
}

pub returns : goal.returns
returns c = way_ended c.args.tree.now.tasks c.args.task.0 c.levels.next c.args.self.now c.levels.self c.in_default.not-Some c.levels.invariant.woken
