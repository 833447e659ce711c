use Rattle.oss_missing_program_laws.proofs.ExactLaws.{told_faults_are_own}
use Rattle.oss_missing_program_laws.proofs.exact.told_faults_are_own.Goals as goal

pub returns : goal.returns
returns c = told_faults_are_own
