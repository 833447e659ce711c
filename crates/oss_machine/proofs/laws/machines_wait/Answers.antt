use Rattle.oss_machine.proofs.LiveTheorem.{machine_asks, machine_waits}
use Rattle.oss_machine.proofs.laws.machines_wait.Goals as goal

pub returns : goal.returns
returns c = λ code s answers. record { waiting = machine_waits code s answers; asked = machine_asks code s answers }
