use Rattle.oss_explain_laws.proofs.OneFailure.{failures_are_one}
use Rattle.oss_explain_laws.proofs.laws.failures_are_one.Goals as goal

pub returns : goal.returns
returns c = failures_are_one
