use Rattle.std.proofs.Common.{ap, ◌∙◌}
use Rattle.oss_machine.specs.Machines.{Poised}
use Rattle.oss_free_run.specs.FreeTasks.{settled_task}
use Rattle.oss_free_run.proofs.task.FreeTask.go_on.Goals as goal

pub returns : goal.returns
returns c =
    c.in_ok-settle.ensures ∙ ap (λ (m : Poised). settled_task c.args.code.now c.args.depth (record (c.args.self.now) { machine = m })) c.in_ok-answer.ensures.ok
