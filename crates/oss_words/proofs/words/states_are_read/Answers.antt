use Rattle.oss_words.proofs.BitLemmas as lemmas
use Rattle.oss_words.proofs.words.states_are_read.Goals as goal

pub returns : goal.returns
returns c = lemmas.states_are_read
