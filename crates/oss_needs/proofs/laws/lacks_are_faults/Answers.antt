use Rattle.oss_needs.proofs.laws.lacks_are_faults.Goals as goal
use Rattle.oss_needs.proofs.GivenLemmas.{lacks_faults}

pub returns : goal.returns
returns c = lacks_faults
