use Rattle.oss_model.proofs.AgreementTheorem as lemmas
use Rattle.oss_model.specs.contracts.laws.let_agrees.{S-type}
use Rattle.oss_model.proofs.laws.let_agrees.Goals as goal

pub returns : goal.returns
returns g c = lemmas.let_agrees_law (S-type g.row.S)
