use Rattle.std.proofs.Common.{List, ◌∷◌, [], subst, sym, take}
use Rattle.std.proofs.lemmas.List.{take_all, take_more}
use Rattle.oss_model.specs.declared.task_no.TaskNo.{TaskNo}
use Rattle.oss_wakeups.specs.Watching.{HasWokenOf}
use Rattle.oss_wakeups.proofs.WakingLemmas.{woken_none, woken_then}
use Rattle.oss_wakeups.proofs.watch.Watch.wake_all.Goals as goal

pub loop-task-init : goal.loop-task-init
loop-task-init c = woken_none c.args.self.now

pub loop-task-preserved : goal.loop-task-preserved
loop-task-preserved c =
    subst (λ (xs : List TaskNo). HasWokenOf xs c.args.self.now c.wake_one.new.self) (sym (take_more c.args.waiting.now c.loop-task.task-index _ c.loop-task-test.true))
    (woken_then (take c.loop-task.task-index c.args.waiting.now) (_ ∷ []) c.args.self.now c.loop-task.self c.wake_one.new.self c.loop-task.invariant c.in_ok-wake_one.ensures)

pub returns : goal.returns
returns c = subst (λ (xs : List TaskNo). HasWokenOf xs c.args.self.now c.loop-task.self) (take_all c.loop-task.task-index c.args.waiting.now c.loop-task-test.false) c.loop-task.invariant
