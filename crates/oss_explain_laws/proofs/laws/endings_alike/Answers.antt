use Rattle.oss_explain_laws.proofs.MovedEndings.{endings_alike}
use Rattle.oss_explain_laws.proofs.laws.endings_alike.Goals as goal

pub returns : goal.returns
returns c = endings_alike
