use Rattle.oss_words.proofs.SendLemmas as lemmas
use Rattle.oss_words.proofs.sending.sent_is_posted.Goals as goal

pub returns : goal.returns
returns c = lemmas.sent_is_posted
