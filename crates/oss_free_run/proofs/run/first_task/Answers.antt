use Rattle.std.proofs.Common.{ap, ◌∙◌, false}
use Rattle.oss_machine.specs.Frames.{CodeScript}
use Rattle.oss_model.specs.Bodies.{Order}
use Rattle.oss_free_run.specs.declared.task.FreeTask.{FreeTask}
use Rattle.oss_free_run.specs.FreeTasks.{new_task, settled_task}
use Rattle.oss_free_run.proofs.run.first_task.Goals as goal

pub returns : goal.returns
returns c =
    c.in_ok-settle.ensures
    ∙ ap (λ (t : FreeTask). settled_task c.args.code.now 0 t) (c.in_ok-task.ensures ∙ ap (λ (o : Order CodeScript). new_task c.args.code.now false o.script) c.main_order-order.ensures)
