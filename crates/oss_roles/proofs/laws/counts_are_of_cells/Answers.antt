use Rattle.oss_roles.proofs.NumberLaw as lemmas
use Rattle.oss_roles.proofs.laws.counts_are_of_cells.Goals as goal

pub returns : goal.returns
returns c = lemmas.counts_are_of_cells
