use Rattle.oss_words.proofs.BitLemmas as lemmas
use Rattle.oss_words.proofs.words.state_words_are_read.Goals as goal

pub returns : goal.returns
returns c = lemmas.state_words_are_read
