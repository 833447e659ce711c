use Rattle.oss_field.proofs.MeetLemmas as lemmas
use Rattle.oss_field.proofs.laws.readers_may_leave.Goals as goal

pub returns : goal.returns
returns c = lemmas.readers_may_leave
