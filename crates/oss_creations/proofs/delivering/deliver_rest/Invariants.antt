use Rattle.std.proofs.Common.{◌≡◌, ◌-◌, ◌*◌}
use Rattle.oss_acts.specs.Working.{SameWork}
use Rattle.oss_creations.proofs.delivering.deliver_rest.Given as goal

-- the seat's work is as it was
abbrev pub invariant-loop-seat : goal.invariant-loop-seat
invariant-loop-seat l = record {
  same : (l.seat.field ≡ l.fn.seat.field) × (l.seat.id ≡ l.fn.seat.id);
  work : SameWork l.fn.seat.known l.seat.known;
}

abbrev pub decreases-loop-seat : goal.decreases-loop-seat
decreases-loop-seat l = 6 * l.field.entries - l.seat.known.words.delivered
