use Rattle.std.proofs.Common.{subst, sym, List}
use Rattle.oss_model.specs.declared.task_no.TaskNo.{TaskNo}
use Rattle.oss_core.specs.Cores.{kept_of}
use Rattle.oss_core.specs.Kept.{Kept}
use Rattle.oss_wakeups.specs.Asides.{AreFree, CanAct, IsSetAside, StoodAside}
use Rattle.oss_wakeups.proofs.AsideLemmas.{all_awake}
use Rattle.oss_prior.specs.Choosing.{AreAdded}
use Rattle.oss_prior.proofs.ChoosingLemmas.{first_ready, nobody_acts, without_tasks}
use Rattle.oss_prior.proofs.turns.first_queue.Goals as goal

pub set_aside-requires-clause-watch : goal.set_aside-requires-clause-watch
set_aside-requires-clause-watch g c =
    let k = kept_of g.D.Deps.seen c.args.core.now in
    (without_tasks k, 0, all_awake (StoodAside (without_tasks k) 0) k c.args.watch.now c.requires.watch)

pub returns-clause-watch : goal.returns-clause-watch
returns-clause-watch g c =
    let k = kept_of g.D.Deps.seen c.args.core.now in
    subst (λ (x : Kept). IsSetAside x c.set_aside.new.self) (sym c.set_aside.ensures.same)
    (c.in_ok-free.ensures.watch (without_tasks k) 0 (all_awake (StoodAside (without_tasks k) 0) k c.args.watch.now c.requires.watch) (λ v a. absurd (nobody_acts k v a.0)))

pub returns-clause-queue : goal.returns-clause-queue
returns-clause-queue g c =
    let k = kept_of g.D.Deps.seen c.args.core.now in
    let n = kept_of g.D.Deps.seen c.set_aside.new.core in
    let a = all_awake (StoodAside (without_tasks k) 0) k c.args.watch.now c.requires.watch in
    let free = c.in_ok-free.free.items in
    first_ready n (without_tasks k) (nobody_acts k) free c.new-queue.result c.admit.new.queue c.new-queue.ensures.empty (subst (λ (x : Kept). AreFree x free) (sym c.set_aside.ensures.same) c.in_ok-free.ensures.free)
    (λ v can. c.in_ok-free.ensures.all (without_tasks k) 0 v a (subst (λ (x : Kept). CanAct x v) c.set_aside.ensures.same can))
    (subst (λ (xs : List TaskNo). AreAdded n xs c.new-queue.result c.admit.new.queue) c.as_slice.ensures.value c.in_ok-admit.ensures)
