use Rattle.oss_multidependency_laws.proofs.UnrolledOutcomes.{unrolled_programs_have_one_outcome}
use Rattle.oss_multidependency_laws.proofs.laws.unrolled_programs_have_one_outcome.Goals as goal

pub returns : goal.returns
returns c = unrolled_programs_have_one_outcome
