use Rattle.oss_field.proofs.LinkMeetingLemmas as lemmas
use Rattle.oss_field.proofs.link_laws.deliveries_keep_making.Goals as goal

pub returns : goal.returns
returns c = lemmas.deliveries_keep_making
