use Rattle.oss_lower_bounds.proofs.CountedLocals.{scopes_are_counted}
use Rattle.oss_lower_bounds.proofs.laws.scopes_are_counted.Goals as goal

pub returns : goal.returns
returns c = scopes_are_counted
