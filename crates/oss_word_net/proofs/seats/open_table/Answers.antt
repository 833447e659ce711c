use Rattle.oss_word_net.proofs.SeatLemmas.{opening}
use Rattle.oss_word_net.proofs.seats.open_table.Goals as goal

pub of_words-requires : goal.of_words-requires
of_words-requires c = opening c.args.entries c.args.words.now c.requires.some.0 c.requires.some.1 c.requires.size c.requires.zeros.0 c.requires.zeros.1
