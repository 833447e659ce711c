use Rattle.oss_lower_laws.proofs.LiveLemmas.{programs_are_lively}
use Rattle.oss_lower_laws.proofs.laws.programs_are_lively.Goals as goal

pub returns : goal.returns
returns c = programs_are_lively
