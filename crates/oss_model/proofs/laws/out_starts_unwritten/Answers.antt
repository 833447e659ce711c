use Rattle.oss_model.proofs.MarkLemmas as lemmas
use Rattle.oss_model.specs.contracts.laws.out_starts_unwritten.{S-type}
use Rattle.oss_model.proofs.laws.out_starts_unwritten.Goals as goal

pub returns : goal.returns
returns g c = lemmas.out_starts_unwritten (S-type g.row.S)
