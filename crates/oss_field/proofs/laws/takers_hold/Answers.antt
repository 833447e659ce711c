use Rattle.oss_field.proofs.MeetLemmas as lemmas
use Rattle.oss_field.proofs.laws.takers_hold.Goals as goal

pub returns : goal.returns
returns c = lemmas.takers_hold
