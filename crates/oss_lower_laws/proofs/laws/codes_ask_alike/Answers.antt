use Rattle.oss_lower_laws.proofs.ProgramLemmas.{codes_ask_alike}
use Rattle.oss_lower_laws.proofs.laws.codes_ask_alike.Goals as goal

pub returns : goal.returns
returns c = codes_ask_alike
