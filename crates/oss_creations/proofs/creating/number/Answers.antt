use Rattle.std.proofs.Common.{sym, subst, ℕ, []}
use Rattle.oss_machine.specs.Machines.{asks}
use Rattle.oss_model.specs.Moves.{new_task}
use Rattle.oss_jobs.specs.Jobs.{IsJob, task_of}
use Rattle.std.specs.Prelude.{None}
use Rattle.oss_creations.proofs.creating.number.Goals as goal

pub returns-clause-child : goal.returns-clause-child
returns-clause-child c = λ code job child start found order is act.
    subst (λ (t : ℕ). IsJob code [] c.start.new.self t (new_task (asks code) (record { start = start; found = found }) order).body (λ y. None)) (sym c.start.ensures.task)
    (c.start.ensures.job code [] (task_of c.args.new.now) (new_task (asks code) (record { start = start; found = found }) order).body (λ y. None) (child start found order is act))
