use Rattle.std.proofs.Common.{subst, sym, List}
use Rattle.std.specs.Prelude.{take}
use Rattle.std.proofs.lemmas.List.{take_all, take_more}
use Rattle.oss_model.specs.declared.task_no.TaskNo.{TaskNo}
use Rattle.oss_core.specs.Cores.{kept_of}
use Rattle.oss_prior.specs.Choosing.{AreSuccessors}
use Rattle.oss_prior.proofs.ChoosingLemmas.{in_list, more_successors, no_successors}
use Rattle.oss_prior.proofs.choosing.successors_of.Goals as goal

pub loop-task-init : goal.loop-task-init
loop-task-init g c = no_successors (kept_of g.D.Deps.seen c.args.core.now) c.args.before c.args.queue.now c.new-successors.result c.new-successors.ensures.empty

pub add_successor-requires-clause-there : goal.add_successor-requires-clause-there
add_successor-requires-clause-there g c = c.requires.there _ (in_list c.args.free.now c.loop-task.task-index _ c.loop-task-test.true)

pub add_successor-requires-clause-held : goal.add_successor-requires-clause-held
add_successor-requires-clause-held g c = c.requires.held _ (in_list c.args.free.now c.loop-task.task-index _ c.loop-task-test.true)

pub loop-task-preserved : goal.loop-task-preserved
loop-task-preserved g c =
    subst (λ (xs : List TaskNo). AreSuccessors (kept_of g.D.Deps.seen c.args.core.now) c.args.before c.args.queue.now xs c.add_successor.new.successors) (sym (take_more c.args.free.now c.loop-task.task-index _ c.loop-task-test.true))
    (more_successors (kept_of g.D.Deps.seen c.args.core.now) c.args.before c.args.queue.now (take c.loop-task.task-index c.args.free.now) _ c.loop-task.successors c.add_successor.new.successors c.loop-task.invariant c.in_ok-add_successor.ensures)

pub returns : goal.returns
returns g c = subst (λ (xs : List TaskNo). AreSuccessors (kept_of g.D.Deps.seen c.args.core.now) c.args.before c.args.queue.now xs c.loop-task.successors) (take_all c.loop-task.task-index c.args.free.now c.loop-task-test.false) c.loop-task.invariant
