use Rattle.oss_field.proofs.LinkMeetingLemmas as lemmas
use Rattle.oss_field.proofs.link_laws.others_may_link.Goals as goal

pub returns : goal.returns
returns c = lemmas.others_may_link
