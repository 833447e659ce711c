use Rattle.std.proofs.Common.{subst, sym, List}
use Rattle.std.specs.Prelude.{take}
use Rattle.std.proofs.lemmas.List.{take_all, take_more}
use Rattle.oss_model.specs.declared.task_no.TaskNo.{TaskNo}
use Rattle.oss_core.specs.Cores.{kept_of}
use Rattle.oss_prior.specs.Choosing.{AreAdded}
use Rattle.oss_prior.proofs.ChoosingLemmas.{in_list, more_added, none_added}
use Rattle.oss_prior.proofs.choosing.admit.Goals as goal

pub loop-task-init : goal.loop-task-init
loop-task-init g c = none_added (kept_of g.D.Deps.seen c.args.core.now) c.args.queue.now

pub ready_of-requires-clause-there : goal.ready_of-requires-clause-there
ready_of-requires-clause-there g c = c.requires.there _ (in_list c.args.free.now c.loop-task.task-index _ c.loop-task-test.true)

pub ready_of-requires-clause-held : goal.ready_of-requires-clause-held
ready_of-requires-clause-held g c = c.requires.held _ (in_list c.args.free.now c.loop-task.task-index _ c.loop-task-test.true)

pub loop-task-preserved : goal.loop-task-preserved
loop-task-preserved g c =
    subst (λ (xs : List TaskNo). AreAdded (kept_of g.D.Deps.seen c.args.core.now) xs c.args.queue.now c.add.new.queue) (sym (take_more c.args.free.now c.loop-task.task-index _ c.loop-task-test.true))
    (more_added (kept_of g.D.Deps.seen c.args.core.now) (take c.loop-task.task-index c.args.free.now) _ _ c.args.queue.now c.loop-task.queue c.add.new.queue c.loop-task.invariant c.in_ok-ready_of.ensures c.in_ok-add.ensures)

pub returns : goal.returns
returns g c = subst (λ (xs : List TaskNo). AreAdded (kept_of g.D.Deps.seen c.args.core.now) xs c.args.queue.now c.loop-task.queue) (take_all c.loop-task.task-index c.args.free.now c.loop-task-test.false) c.loop-task.invariant
