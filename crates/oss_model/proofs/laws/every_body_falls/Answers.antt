use Rattle.oss_model.proofs.PotentialLemmas as lemmas
use Rattle.oss_model.proofs.laws.every_body_falls.Goals as goal

pub returns : goal.returns
returns g c = lemmas.body_falls
