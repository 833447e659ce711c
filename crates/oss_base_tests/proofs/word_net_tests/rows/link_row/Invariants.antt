use Rattle.std.proofs.Common.{◌≡◌}
use Rattle.oss_word_net.specs.Rows.{Row}
use Rattle.oss_base_tests.proofs.word_net_tests.rows.link_row.Given as goal

abbrev pub invariant-loop-before : goal.invariant-loop-before
invariant-loop-before l = record {
  same : (l.seat.net ≡ l.fn.seat.net) × (l.seat.id ≡ l.fn.seat.id);
  row : Row l.seat.known l.top l.before l.siblings;
}
