use Rattle.oss_machine.proofs.LiveTheorem.{lively}
use Rattle.oss_machine.proofs.laws.codes_are_lively.Goals as goal

pub returns : goal.returns
returns c = lively
