use Rattle.oss_missing_laws.proofs.EntryLemmas.{touches}
use Rattle.oss_missing_laws.proofs.laws.touches_are_judged.Goals as goal

pub returns : goal.returns
returns c = touches
