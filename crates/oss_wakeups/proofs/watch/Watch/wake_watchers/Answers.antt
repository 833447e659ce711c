use Rattle.std.proofs.Common.{List, refl, subst}
use Rattle.oss_model.specs.declared.task_no.TaskNo.{TaskNo}
use Rattle.oss_core.proofs.CallLemmas.{on_ok}
use Rattle.oss_wakeups.specs.declared.watch.Watch.{Watch}
use Rattle.oss_wakeups.specs.Watching.{HasWokenOf}
use Rattle.oss_wakeups.proofs.WakingLemmas.{woken_watchers}
use Rattle.oss_wakeups.proofs.watch.Watch.wake_watchers.Goals as goal

pub returns : goal.returns
returns c =
    let mid : Watch = record { alloc = c.args.self.now.alloc; awake = c.args.self.now.awake; asleep = c.args.self.now.asleep; watchers = c.take_watchers-waiting.new.watchers } in
    on_ok c.wake_all.result
    (λ h. woken_watchers c.args.task.0 c.take_watchers-waiting.result c.new-none.result c.args.self.now mid c.wake_all.new.self c.take_watchers-waiting.ensures.taken c.take_watchers-waiting.ensures.left refl refl
    (subst (λ (xs : List TaskNo). HasWokenOf xs mid c.wake_all.new.self) c.as_slice.ensures.value h)) c.wake_all.ensures
