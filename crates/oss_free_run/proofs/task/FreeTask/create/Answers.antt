use Rattle.std.proofs.Common.{ap, sym, ◌∙◌, ◌+◌, Bool, true}
use Rattle.std.specs.Prelude.{if◌then◌else◌}
use Rattle.oss_machine.specs.Machines.{Poised}
use Rattle.oss_free_run.specs.FreeTasks.{more_created, settled_task, went_on}
use Rattle.oss_free_run.proofs.task.FreeTask.create.Goals as goal

pub returns : goal.returns
returns c =
    let code = c.args.code.now in
    let depth = c.args.depth in
    let k = c.args.self.now in
    c.in_ok-settle.ensures ∙ ap (λ (m : Poised). settled_task code depth (record k { machine = m; created = k.created + 1; awaits = true })) c.in_ok-answer.ensures.ok
    ∙ ap (λ (b : Bool). if b then went_on code 0 (more_created k) else settled_task code depth (record (went_on code 0 (more_created k)) { awaits = true })) (sym c.if-self.false)
