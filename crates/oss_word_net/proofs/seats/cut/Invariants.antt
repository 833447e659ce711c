use Rattle.oss_word_net.proofs.seats.cut.Given as goal

abbrev pub ghosts-split_by : goal.ghosts-split_by
ghosts-split_by a = record { hand = a._hand.now }
