use Rattle.oss_needs.proofs.laws.given_is_right.Goals as goal
use Rattle.oss_needs.proofs.GivenLemmas.{given_is}

pub returns : goal.returns
returns c = given_is
