use Rattle.oss_lower_laws.proofs.OneCode.{lowered_once}
use Rattle.oss_lower_laws.proofs.laws.codes_are_one.Goals as goal

pub returns : goal.returns
returns c = lowered_once
