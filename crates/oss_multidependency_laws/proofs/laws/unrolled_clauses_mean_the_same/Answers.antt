use Rattle.oss_multidependency_laws.proofs.UnrolledClauses.{unrolled_clauses_mean_the_same}
use Rattle.oss_multidependency_laws.proofs.laws.unrolled_clauses_mean_the_same.Goals as goal

pub returns : goal.returns
returns c = unrolled_clauses_mean_the_same
