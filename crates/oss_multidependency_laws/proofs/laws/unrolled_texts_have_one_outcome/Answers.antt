use Rattle.oss_multidependency_laws.proofs.UnrolledOutcomes.{unrolled_texts_have_one_outcome}
use Rattle.oss_multidependency_laws.proofs.laws.unrolled_texts_have_one_outcome.Goals as goal

pub returns : goal.returns
returns c = unrolled_texts_have_one_outcome
