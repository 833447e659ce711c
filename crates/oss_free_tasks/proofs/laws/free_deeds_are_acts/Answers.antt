use Rattle.oss_free_tasks.proofs.DeedLemmas as lemmas
use Rattle.oss_free_tasks.specs.contracts.laws.free_deeds_are_acts.{S-type}
use Rattle.oss_free_tasks.proofs.laws.free_deeds_are_acts.Goals as goal

pub returns : goal.returns
returns g c = lemmas.free_deeds_are_acts (S-type g.row.S)
