use Rattle.oss_freed.proofs.FreedRuns as lemmas
use Rattle.oss_freed.specs.contracts.laws.freed_faults_are_its_own.{S-type}
use Rattle.oss_freed.proofs.laws.freed_faults_are_its_own.Goals as goal

pub returns : goal.returns
returns g c = lemmas.freed_faults_are_its_own (S-type g.row.S)
