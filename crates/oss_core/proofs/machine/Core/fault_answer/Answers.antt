use Rattle.oss_core.specs.Stops.{fault}
use Rattle.oss_core.proofs.machine.Core.fault_answer.Goals as goal

pub returns : goal.returns
returns g c = fault c.requires.0 c.requires.1 c.in_ok-output.ensures
