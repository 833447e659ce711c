use Rattle.oss_word_net.specs.Rows.{Parted}
use Rattle.oss_base_tests.proofs.word_net_tests.threads.give_all.Given as goal

abbrev pub invariant-loop-entry : goal.invariant-loop-entry
invariant-loop-entry l = Parted l.net.table l.seat l.entry l.end
