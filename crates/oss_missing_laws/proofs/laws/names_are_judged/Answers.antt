use Rattle.oss_missing_laws.proofs.EntryLemmas.{names}
use Rattle.oss_missing_laws.proofs.laws.names_are_judged.Goals as goal

pub returns : goal.returns
returns c = names
