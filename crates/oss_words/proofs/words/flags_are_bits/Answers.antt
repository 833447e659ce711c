use Rattle.oss_words.proofs.BitLemmas as lemmas
use Rattle.oss_words.proofs.words.flags_are_bits.Goals as goal

pub returns : goal.returns
returns c = lemmas.flags_are_bits
