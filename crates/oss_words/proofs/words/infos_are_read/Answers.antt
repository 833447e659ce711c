use Rattle.oss_words.proofs.BitLemmas as lemmas
use Rattle.oss_words.proofs.words.infos_are_read.Goals as goal

pub returns : goal.returns
returns c = lemmas.infos_are_read
