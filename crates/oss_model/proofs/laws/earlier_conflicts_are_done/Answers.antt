use Rattle.oss_model.proofs.ConflictTheorem as lemmas
use Rattle.oss_model.specs.contracts.laws.earlier_conflicts_are_done.{S-type}
use Rattle.oss_model.proofs.laws.earlier_conflicts_are_done.Goals as goal

pub returns : goal.returns
returns g c = lemmas.earlier_conflicts_are_done (S-type g.row.S)
