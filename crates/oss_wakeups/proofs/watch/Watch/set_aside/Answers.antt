use Rattle.std.proofs.Common.{◌∙◌, ◌<◌, ap, get_or, length, refl, subst, sym}
use Rattle.std.specs.Prelude.{Vec}
use Rattle.std.specs.declared.alloc.Global.{Global}
use Rattle.oss_model.specs.declared.task_no.TaskNo.{TaskNo}
use Rattle.oss_core.specs.Cores.{kept_of}
use Rattle.oss_core.specs.Kept.{IsRunning, Kept}
use Rattle.oss_wakeups.specs.Asides.{HasSetAside}
use Rattle.oss_wakeups.proofs.AsideLemmas.{all_aside, come_sizes, come_there, comes_first, comes_on, free_next, idle_next, none_free, none_idle, set_all_aside}
use Rattle.oss_wakeups.proofs.watch.Watch.set_aside.Goals as goal

pub loop-task-init : goal.loop-task-init
loop-task-init g c = record {
  come = comes_first (kept_of g.D.Deps.seen c.args.core.now) c.args.self.now _ c.replace-awake.new.dest.items c.as_slice-task-items.result.now _ refl refl (ap (λ (x : Vec TaskNo Global). x.items) c.replace-awake.ensures.after ∙ c.new.ensures.items)
      (c.as_slice-task-items.ensures.value ∙ ap (λ (x : Vec TaskNo Global). x.items) c.replace-awake.ensures.value);
  idle = none_idle (kept_of g.D.Deps.seen c.args.core.now) c.replace-awake.new.dest.items (ap (λ (x : Vec TaskNo Global). x.items) c.replace-awake.ensures.after ∙ c.new.ensures.items);
  free = none_free (kept_of g.D.Deps.seen c.args.core.now) _ c.new-free.ensures.items;
  same = refl;
}

pub set_one_aside-requires-clause-running : goal.set_one_aside-requires-clause-running
set_one_aside-requires-clause-running g c = (c.requires.running.0, subst (IsRunning c.requires.running.0) (sym c.loop-task.invariant.same) c.requires.running.1)

pub set_one_aside-requires-clause-there : goal.set_one_aside-requires-clause-there
set_one_aside-requires-clause-there g c =
    subst (λ (k : Kept). (get_or c.as_slice-task-items.result.now c.loop-task.task-index (record { 0 = 0 })).0 < length k.tree.tasks) (sym c.loop-task.invariant.same)
    (come_there (kept_of g.D.Deps.seen c.args.core.now) c.as_slice-task-items.result.now _ c.loop-task.task-index (record { 0 = 0 }) c.loop-task-test.true c.args.self.now c.loop-task.self c.loop-task.invariant.come c.requires.watch.0 c.requires.watch.1 c.requires.watch.2)

pub set_one_aside-requires-clause-asleep : goal.set_one_aside-requires-clause-asleep
set_one_aside-requires-clause-asleep g c =
    (come_sizes (kept_of g.D.Deps.seen c.args.core.now) _ _ c.args.self.now c.loop-task.self c.loop-task.invariant.come c.requires.watch.0 c.requires.watch.1 c.requires.watch.2).0 ∙ sym (ap (λ (k : Kept). length k.tree.tasks) c.loop-task.invariant.same)

pub set_one_aside-requires-clause-watchers : goal.set_one_aside-requires-clause-watchers
set_one_aside-requires-clause-watchers g c =
    (come_sizes (kept_of g.D.Deps.seen c.args.core.now) _ _ c.args.self.now c.loop-task.self c.loop-task.invariant.come c.requires.watch.0 c.requires.watch.1 c.requires.watch.2).1 ∙ sym (ap (λ (k : Kept). length k.tree.tasks) c.loop-task.invariant.same)

pub loop-task-preserved : goal.loop-task-preserved
loop-task-preserved g c =
    let k = kept_of g.D.Deps.seen c.args.core.now in
    let task = get_or c.as_slice-task-items.result.now c.loop-task.task-index (record { 0 = 0 }) in
    let set_ = subst (λ (x : Kept). HasSetAside x task c.loop-task.free.items c.set_one_aside.new.free.items c.loop-task.self c.set_one_aside.new.self) c.loop-task.invariant.same c.in_ok-set_one_aside.ensures.aside in
    record {
      come = comes_on k c.requires.quiet c.as_slice-task-items.result.now c.loop-task.task-index (record { 0 = 0 }) c.loop-task-test.true c.loop-task.free.items c.set_one_aside.new.free.items c.args.self.now c.loop-task.self c.set_one_aside.new.self c.loop-task.invariant.come set_;
      idle = idle_next k task c.loop-task.free.items c.set_one_aside.new.free.items c.loop-task.self c.set_one_aside.new.self c.loop-task.invariant.idle set_;
      free = free_next k task c.loop-task.free.items c.set_one_aside.new.free.items c.loop-task.self c.set_one_aside.new.self c.loop-task.invariant.free set_;
      same = c.set_one_aside.ensures.same ∙ c.loop-task.invariant.same;
    }

pub returns-clause-all : goal.returns-clause-all
returns-clause-all g c = all_aside (kept_of g.D.Deps.seen c.args.core.now) c.requires.running.1 c.as_slice-task-items.result.now c.loop-task.free.items c.loop-task.task-index c.loop-task-test.false c.args.self.now c.loop-task.self c.loop-task.invariant.come c.loop-task.invariant.idle

pub returns-clause-watch : goal.returns-clause-watch
returns-clause-watch g c = set_all_aside (kept_of g.D.Deps.seen c.args.core.now) c.as_slice-task-items.result.now c.loop-task.free.items c.loop-task.task-index c.loop-task-test.false c.args.self.now c.loop-task.self c.loop-task.invariant.come c.loop-task.invariant.idle c.loop-task.invariant.free
