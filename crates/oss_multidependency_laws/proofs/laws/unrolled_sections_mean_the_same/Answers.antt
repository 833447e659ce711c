use Rattle.oss_multidependency_laws.proofs.UnrolledClauses.{unrolled_sections_mean_the_same}
use Rattle.oss_multidependency_laws.proofs.laws.unrolled_sections_mean_the_same.Goals as goal

pub returns : goal.returns
returns c = unrolled_sections_mean_the_same
