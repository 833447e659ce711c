use Rattle.std.proofs.Common.{◌≡◌, ◌-◌, ◌*◌}
use Rattle.oss_word_net.specs.Rows.{Keeps}
use Rattle.oss_base_tests.proofs.word_net_tests.rows.settle.Given as goal

abbrev pub invariant-loop-seat : goal.invariant-loop-seat
invariant-loop-seat l = record {
  same : (l.seat.net ≡ l.fn.seat.net) × (l.seat.id ≡ l.fn.seat.id);
  keeps : Keeps l.fn.seat.known l.seat.known;
}

abbrev pub decreases-loop-seat : goal.decreases-loop-seat
decreases-loop-seat l = 6 * l.net.entries - l.seat.known.view.delivered
