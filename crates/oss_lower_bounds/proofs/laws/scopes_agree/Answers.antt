use Rattle.oss_lower_bounds.proofs.AgreeingScopes.{scopes_agree}
use Rattle.oss_lower_bounds.proofs.laws.scopes_agree.Goals as goal

pub returns : goal.returns
returns c = scopes_agree
