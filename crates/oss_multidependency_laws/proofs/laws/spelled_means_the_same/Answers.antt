use Rattle.oss_multidependency_laws.proofs.UnrolledClauses.{spelled_means_the_same}
use Rattle.oss_multidependency_laws.proofs.laws.spelled_means_the_same.Goals as goal

pub returns : goal.returns
returns c = spelled_means_the_same
