use Rattle.oss_missing_laws.proofs.EntryLemmas.{met_unbroken}
use Rattle.oss_missing_laws.proofs.laws.met_is_unbroken.Goals as goal

pub returns : goal.returns
returns c = met_unbroken
