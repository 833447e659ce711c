use Rattle.oss_freed.proofs.FreedRuns as lemmas
use Rattle.oss_freed.specs.contracts.laws.freed_is_lively.{S-type}
use Rattle.oss_freed.proofs.laws.freed_is_lively.Goals as goal

pub returns : goal.returns
returns g c = lemmas.freed_is_lively (S-type g.row.S)
