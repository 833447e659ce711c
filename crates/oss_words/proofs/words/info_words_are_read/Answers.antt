use Rattle.oss_words.proofs.BitLemmas as lemmas
use Rattle.oss_words.proofs.words.info_words_are_read.Goals as goal

pub returns : goal.returns
returns c = lemmas.info_words_are_read
