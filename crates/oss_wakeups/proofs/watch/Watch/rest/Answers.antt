use Rattle.std.proofs.Common.{◌∙◌, ◌<◌, ap, get_or, length, refl, subst, sym}
use Rattle.std.specs.Prelude.{Vec}
use Rattle.std.specs.declared.alloc.Global.{Global}
use Rattle.oss_model.specs.declared.task_no.TaskNo.{TaskNo}
use Rattle.oss_core.specs.Cores.{kept_of}
use Rattle.oss_core.specs.Kept.{IsRunning, Kept}
use Rattle.oss_wakeups.specs.Watches.{HasRested, IsWatch, StayAwake}
use Rattle.oss_wakeups.proofs.RestLemmas.{rest_begins, rest_done, rest_next, rest_there, stay_begins, stay_next}
use Rattle.oss_wakeups.proofs.watch.Watch.rest.Goals as goal

pub loop-task-init : goal.loop-task-init
loop-task-init g c = record {
  watched = rest_begins (kept_of g.D.Deps.seen c.args.core.now) c.args.self.now _ c.replace-awake.new.dest.items c.as_slice-task-items.result.now c.requires.watch refl refl (ap (λ (x : Vec TaskNo Global). x.items) c.replace-awake.ensures.after ∙ c.new.ensures.items)
      (c.as_slice-task-items.ensures.value ∙ ap (λ (x : Vec TaskNo Global). x.items) c.replace-awake.ensures.value);
  stay = stay_begins (kept_of g.D.Deps.seen c.args.core.now) c.replace-awake.new.dest.items (ap (λ (x : Vec TaskNo Global). x.items) c.replace-awake.ensures.after ∙ c.new.ensures.items);
  same = refl;
}

pub rest_one-requires-clause-running : goal.rest_one-requires-clause-running
rest_one-requires-clause-running g c = (c.requires.running.0, subst (IsRunning c.requires.running.0) (sym c.loop-task.invariant.same) c.requires.running.1)

pub rest_one-requires-clause-there : goal.rest_one-requires-clause-there
rest_one-requires-clause-there g c =
    subst (λ (k : Kept). (get_or c.as_slice-task-items.result.now c.loop-task.task-index (record { 0 = 0 })).0 < length k.tree.tasks) (sym c.loop-task.invariant.same)
    (rest_there (kept_of g.D.Deps.seen c.args.core.now) c.as_slice-task-items.result.now c.loop-task.task-index (record { 0 = 0 }) c.loop-task-test.true c.loop-task.self c.loop-task.invariant.watched)

pub rest_one-requires-clause-asleep : goal.rest_one-requires-clause-asleep
rest_one-requires-clause-asleep g c = c.loop-task.invariant.watched.size ∙ sym (ap (λ (k : Kept). length k.tree.tasks) c.loop-task.invariant.same)

pub rest_one-requires-clause-watchers : goal.rest_one-requires-clause-watchers
rest_one-requires-clause-watchers g c = c.loop-task.invariant.watched.apart.sizes ∙ (c.loop-task.invariant.watched.size ∙ sym (ap (λ (k : Kept). length k.tree.tasks) c.loop-task.invariant.same))

pub returns-in_err-rest_one-clause-same : goal.returns-in_err-rest_one-clause-same
returns-in_err-rest_one-clause-same g c = c.rest_one.ensures.same ∙ c.loop-task.invariant.same

pub loop-task-preserved : goal.loop-task-preserved
loop-task-preserved g c = record {
  watched = rest_next (kept_of g.D.Deps.seen c.args.core.now) c.requires.quiet c.as_slice-task-items.result.now c.loop-task.task-index (record { 0 = 0 }) c.loop-task-test.true c.loop-task.self c.rest_one.new.self c.loop-task.invariant.watched
      (subst (λ (k : Kept). HasRested k (get_or c.as_slice-task-items.result.now c.loop-task.task-index (record { 0 = 0 })) c.loop-task.self c.rest_one.new.self) c.loop-task.invariant.same c.in_ok-rest_one.ensures.rested);
  stay = stay_next (kept_of g.D.Deps.seen c.args.core.now) (get_or c.as_slice-task-items.result.now c.loop-task.task-index (record { 0 = 0 })) c.loop-task.self c.rest_one.new.self c.loop-task.invariant.stay
      (subst (λ (k : Kept). HasRested k (get_or c.as_slice-task-items.result.now c.loop-task.task-index (record { 0 = 0 })) c.loop-task.self c.rest_one.new.self) c.loop-task.invariant.same c.in_ok-rest_one.ensures.rested);
  same = c.rest_one.ensures.same ∙ c.loop-task.invariant.same;
}

pub returns-clause-watch : goal.returns-clause-watch
returns-clause-watch g c =
    subst (λ (k : Kept). IsWatch k c.loop-task.self) (sym c.loop-task.invariant.same) (rest_done (kept_of g.D.Deps.seen c.args.core.now) c.as_slice-task-items.result.now c.loop-task.task-index c.loop-task-test.false c.loop-task.self c.loop-task.invariant.watched)

pub returns-clause-awake : goal.returns-clause-awake
returns-clause-awake g c = subst (λ (k : Kept). StayAwake k c.loop-task.self.awake.items) (sym c.loop-task.invariant.same) c.loop-task.invariant.stay

pub returns-clause-same : goal.returns-clause-same
returns-clause-same g c = c.loop-task.invariant.same
