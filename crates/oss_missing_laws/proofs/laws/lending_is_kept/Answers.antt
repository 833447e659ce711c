use Rattle.oss_missing_laws.proofs.EntryLemmas.{lending}
use Rattle.oss_missing_laws.proofs.laws.lending_is_kept.Goals as goal

pub returns : goal.returns
returns c = lending
