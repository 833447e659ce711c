use Rattle.oss_missing_laws.proofs.EntryLemmas.{marks}
use Rattle.oss_missing_laws.proofs.laws.marks_are_kept.Goals as goal

pub returns : goal.returns
returns c = marks
