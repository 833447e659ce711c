use Rattle.oss_model.proofs.AgreementTheorem as lemmas
use Rattle.oss_model.specs.contracts.laws.every_state_agrees.{S-type}
use Rattle.oss_model.proofs.laws.every_state_agrees.Goals as goal

pub returns : goal.returns
returns g c = lemmas.every_state_agrees (S-type g.row.S)
