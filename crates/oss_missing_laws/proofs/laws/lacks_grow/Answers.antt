use Rattle.oss_missing_laws.proofs.EntryLemmas.{grow}
use Rattle.oss_missing_laws.proofs.laws.lacks_grow.Goals as goal

pub returns : goal.returns
returns c = grow
