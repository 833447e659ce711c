use Rattle.std.proofs.Common.{◌<◌, refl, subst, sym, List, ℕ}
use Rattle.oss_model.specs.Order.{IsIn}
use Rattle.oss_model.specs.declared.task_no.TaskNo.{TaskNo}
use Rattle.oss_core.specs.Cores.{kept_of}
use Rattle.oss_core.specs.Kept.{IsRunning, Kept}
use Rattle.oss_core.specs.Turns.{KeepsTasks}
use Rattle.oss_core.proofs.TreeFacts.{sizes}
use Rattle.oss_wakeups.specs.Asides.{AreFree, CanAct, IsSetAside}
use Rattle.oss_prior.specs.Choosing.{AreAdded, AreSuccessors, KeepsOthers}
use Rattle.oss_prior.specs.Turning.{HasMadeTurn}
use Rattle.oss_prior.proofs.ChoosingLemmas.{free_held, free_there}
use Rattle.oss_prior.proofs.TurnLemmas.{stays_able, turn_ready, turn_running, turn_taken}
use Rattle.oss_prior.proofs.turns.take_turn.Goals as goal

pub ready_of-requires-clause-held : goal.ready_of-requires-clause-held
ready_of-requires-clause-held g c = subst (λ (n : ℕ). c.args.task.0 < n) (sizes c.requires.running.core) c.requires.there

pub set_aside-requires-clause-running : goal.set_aside-requires-clause-running
set_aside-requires-clause-running g c = (c.args.code.now, turn_running c.args.code.now c.args.task (kept_of g.D.Deps.seen c.args.core.now) (kept_of g.D.Deps.seen c.turn.new.core) c.args.order.now c.turn.new.order c.requires.running c.requires.there c.in_ok-turn.ensures.made)

pub set_aside-requires-clause-watch : goal.set_aside-requires-clause-watch
set_aside-requires-clause-watch g c = (kept_of g.D.Deps.seen c.args.core.now, c.args.task.0, c.in_ok-turn.ensures.watch)

pub successors_of-requires-clause-there : goal.successors_of-requires-clause-there
successors_of-requires-clause-there g c = λ v i.
    let o = kept_of g.D.Deps.seen c.args.core.now in
    let n = kept_of g.D.Deps.seen c.set_aside.new.core in
    let e = c.set_aside.ensures.same in
    let free = c.in_ok-free.free.items in
    free_there (subst (λ (k : Kept). IsRunning c.args.code.now k) (sym e) (turn_running c.args.code.now c.args.task (kept_of g.D.Deps.seen c.args.core.now) (kept_of g.D.Deps.seen c.turn.new.core) c.args.order.now c.turn.new.order c.requires.running c.requires.there c.in_ok-turn.ensures.made)) free (subst (λ (k : Kept). AreFree k free) (sym e) c.in_ok-free.ensures.free) v (subst (λ (xs : List TaskNo). IsIn v xs) c.as_slice.ensures.value i)

pub successors_of-requires-clause-held : goal.successors_of-requires-clause-held
successors_of-requires-clause-held g c = λ v i.
    let o = kept_of g.D.Deps.seen c.args.core.now in
    let n = kept_of g.D.Deps.seen c.set_aside.new.core in
    let e = c.set_aside.ensures.same in
    let free = c.in_ok-free.free.items in
    free_held n free (subst (λ (k : Kept). AreFree k free) (sym e) c.in_ok-free.ensures.free) v (subst (λ (xs : List TaskNo). IsIn v xs) c.as_slice.ensures.value i)

pub admit-requires-clause-there : goal.admit-requires-clause-there
admit-requires-clause-there g c = λ v i.
    let o = kept_of g.D.Deps.seen c.args.core.now in
    let n = kept_of g.D.Deps.seen c.set_aside.new.core in
    let e = c.set_aside.ensures.same in
    let free = c.in_ok-free.free.items in
    free_there (subst (λ (k : Kept). IsRunning c.args.code.now k) (sym e) (turn_running c.args.code.now c.args.task (kept_of g.D.Deps.seen c.args.core.now) (kept_of g.D.Deps.seen c.turn.new.core) c.args.order.now c.turn.new.order c.requires.running c.requires.there c.in_ok-turn.ensures.made)) free (subst (λ (k : Kept). AreFree k free) (sym e) c.in_ok-free.ensures.free) v (subst (λ (xs : List TaskNo). IsIn v xs) c.as_slice-2.ensures.value i)

pub admit-requires-clause-held : goal.admit-requires-clause-held
admit-requires-clause-held g c = λ v i.
    let o = kept_of g.D.Deps.seen c.args.core.now in
    let n = kept_of g.D.Deps.seen c.set_aside.new.core in
    let e = c.set_aside.ensures.same in
    let free = c.in_ok-free.free.items in
    free_held n free (subst (λ (k : Kept). AreFree k free) (sym e) c.in_ok-free.ensures.free) v (subst (λ (xs : List TaskNo). IsIn v xs) c.as_slice-2.ensures.value i)

pub returns-clause-taken : goal.returns-clause-taken
returns-clause-taken g c =
    let o = kept_of g.D.Deps.seen c.args.core.now in
    let n = kept_of g.D.Deps.seen c.set_aside.new.core in
    let e = c.set_aside.ensures.same in
    let free = c.in_ok-free.free.items in
    turn_taken c.args.code.now c.args.task o n c.requires.running c.requires.there c.args.order.now c.turn.new.order
    (subst (λ (k : Kept). HasMadeTurn c.args.code.now c.args.task o k c.args.order.now c.turn.new.order) (sym e) c.in_ok-turn.ensures.made) (subst (λ (k : Kept). KeepsTasks c.args.core.now.tree.tasks k.tree.tasks) (sym e) c.in_ok-turn.ensures.keeps)
    (subst (λ (k : Kept). KeepsOthers c.args.task.0 o k) (sym e) c.in_ok-turn.ensures.others) (record { count = c.count-count.result; task = c.args.task; able = c.take_out-able.result }) c.count-count.ensures refl c.args.queue.now c.take_out-able.new.queue c.admit.new.queue
    c.in_ok-successors.successors c.requires.queue c.in_ok-own.own c.in_ok-own.ensures c.take_out-able.ensures.was c.take_out-able.ensures.left free (subst (λ (k : Kept). AreFree k free) (sym e) c.in_ok-free.ensures.free)
    (λ v can. c.in_ok-free.ensures.all o c.args.task.0 v c.in_ok-turn.ensures.watch (subst (λ (k : Kept). CanAct k v) e can))
    (subst (λ (xs : List TaskNo). AreSuccessors n (record { count = c.count-count.result; task = c.args.task; able = c.take_out-able.result }) c.take_out-able.new.queue xs c.in_ok-successors.successors) c.as_slice.ensures.value c.in_ok-successors.ensures)
    (subst (λ (xs : List TaskNo). AreAdded n xs c.take_out-able.new.queue c.admit.new.queue) c.as_slice-2.ensures.value c.in_ok-admit.ensures) c.next_of.result c.next_of.ensures

pub returns-clause-watch : goal.returns-clause-watch
returns-clause-watch g c =
    let o = kept_of g.D.Deps.seen c.args.core.now in
    let m = kept_of g.D.Deps.seen c.turn.new.core in
    subst (λ (k : Kept). IsSetAside k c.set_aside.new.self) (sym c.set_aside.ensures.same)
    (c.in_ok-free.ensures.watch o c.args.task.0 c.in_ok-turn.ensures.watch
    (stays_able c.args.code.now c.args.task o m c.args.order.now c.turn.new.order c.requires.running c.requires.there c.in_ok-turn.ensures.made c.in_ok-turn.ensures.keeps))

pub returns-clause-queue : goal.returns-clause-queue
returns-clause-queue g c =
    let o = kept_of g.D.Deps.seen c.args.core.now in
    let n = kept_of g.D.Deps.seen c.set_aside.new.core in
    let e = c.set_aside.ensures.same in
    let free = c.in_ok-free.free.items in
    turn_ready c.args.code.now c.args.task o n c.requires.running c.requires.there c.args.order.now c.turn.new.order
    (subst (λ (k : Kept). HasMadeTurn c.args.code.now c.args.task o k c.args.order.now c.turn.new.order) (sym e) c.in_ok-turn.ensures.made) (subst (λ (k : Kept). KeepsTasks c.args.core.now.tree.tasks k.tree.tasks) (sym e) c.in_ok-turn.ensures.keeps)
    (subst (λ (k : Kept). KeepsOthers c.args.task.0 o k) (sym e) c.in_ok-turn.ensures.others) (record { count = c.count-count.result; task = c.args.task; able = c.take_out-able.result }) c.count-count.ensures refl c.args.queue.now c.take_out-able.new.queue c.admit.new.queue
    c.in_ok-successors.successors c.requires.queue c.in_ok-own.own c.in_ok-own.ensures c.take_out-able.ensures.was c.take_out-able.ensures.left free (subst (λ (k : Kept). AreFree k free) (sym e) c.in_ok-free.ensures.free)
    (λ v can. c.in_ok-free.ensures.all o c.args.task.0 v c.in_ok-turn.ensures.watch (subst (λ (k : Kept). CanAct k v) e can))
    (subst (λ (xs : List TaskNo). AreSuccessors n (record { count = c.count-count.result; task = c.args.task; able = c.take_out-able.result }) c.take_out-able.new.queue xs c.in_ok-successors.successors) c.as_slice.ensures.value c.in_ok-successors.ensures)
    (subst (λ (xs : List TaskNo). AreAdded n xs c.take_out-able.new.queue c.admit.new.queue) c.as_slice-2.ensures.value c.in_ok-admit.ensures)

pub returns-clause-keeps : goal.returns-clause-keeps
returns-clause-keeps g c = subst (λ (k : Kept). KeepsTasks c.args.core.now.tree.tasks k.tree.tasks) (sym c.set_aside.ensures.same) c.in_ok-turn.ensures.keeps
