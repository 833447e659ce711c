use Rattle.oss_model.proofs.AgreementTheorem as lemmas
use Rattle.oss_model.specs.contracts.laws.step_agrees.{S-type}
use Rattle.oss_model.proofs.laws.step_agrees.Goals as goal

pub returns : goal.returns
returns g c = lemmas.step_agrees_law (S-type g.row.S)
