use Rattle.oss_filing.proofs.OpeningLaw as lemmas
use Rattle.oss_filing.proofs.laws.planned_rows_fit.Goals as goal

pub returns : goal.returns
returns c = lemmas.planned_rows_fit
