use Rattle.std.proofs.Common.{◌≤◌}
use Rattle.oss_word_net.specs.Rows.{Spans}
use Rattle.oss_base_tests.proofs.word_net_tests.threads.hand_of.Given as goal

abbrev pub invariant-loop-entry : goal.invariant-loop-entry
invariant-loop-entry l = record {
  span : Spans l.hand.items l.start l.entry;
  low : l.start ≤ l.entry;
}
