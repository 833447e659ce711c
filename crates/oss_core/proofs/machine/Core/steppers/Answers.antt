use Rattle.std.proofs.Common.{◌∙◌, refl, sym, subst, drop, List}
use Rattle.std.proofs.lemmas.List.{drop_all}
use Rattle.oss_model.specs.declared.task_no.TaskNo.{TaskNo}
use Rattle.oss_core.specs.Cores.{kept_of}
use Rattle.oss_core.proofs.SteppersLemmas.{AreSoFar, so_far_begins, so_far_done, so_far_next}
use Rattle.oss_core.proofs.machine.Core.steppers.Goals as goal

pub loop-task-init : goal.loop-task-init
loop-task-init g c = record {
  found = subst (λ (xs : List TaskNo). AreSoFar (kept_of g.D.Deps.seen c.args.self.now) xs c.args.asked.now) (sym c.new-steppers.ensures.items) (so_far_begins (kept_of g.D.Deps.seen c.args.self.now) c.args.asked.now c.requires.asked);
  same = refl;
}

pub loop-task-preserved : goal.loop-task-preserved
loop-task-preserved g c = record {
  found = so_far_next (kept_of g.D.Deps.seen c.args.self.now) (kept_of g.D.Deps.seen c.loop-task.self) c.args.asked.now c.loop-task.steppers.items c.add_stepper.new.steppers.items c.loop-task.task-index _ c.loop-task-test.true c.loop-task.invariant.same c.loop-task.invariant.found c.in_ok-add_stepper.ensures.added;
  same = c.add_stepper.ensures.same ∙ c.loop-task.invariant.same;
}

pub returns-clause-steppers : goal.returns-clause-steppers
returns-clause-steppers g c = so_far_done (kept_of g.D.Deps.seen c.args.self.now) c.loop-task.steppers.items (drop c.loop-task.task-index c.args.asked.now) (drop_all c.loop-task.task-index c.args.asked.now c.loop-task-test.false) c.loop-task.invariant.found
