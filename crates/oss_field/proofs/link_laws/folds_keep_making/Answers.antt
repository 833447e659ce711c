use Rattle.oss_field.proofs.LinkMeetingLemmas as lemmas
use Rattle.oss_field.proofs.link_laws.folds_keep_making.Goals as goal

pub returns : goal.returns
returns c = lemmas.folds_keep_making
