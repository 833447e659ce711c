use Rattle.std.proofs.Common.{◌≡◌, ◌+◌, ◌-◌, ◌*◌}
use Rattle.oss_filing.specs.Owned.{Keeps}
use Rattle.oss_filing.proofs.own.settle.Given as goal

-- what was linked and given up stays
abbrev pub invariant-loop-seat : goal.invariant-loop-seat
invariant-loop-seat l = record {
  net : l.seat.net ≡ l.net.table;
  id : l.seat.id ≡ l.fn.seat.id;
  keeps : Keeps l.fn.seat.known l.seat.known;
  links : l.seat.known.view.links ≡ l.fn.seat.known.view.links;
  gives : l.seat.known.view.gives ≡ l.fn.seat.known.view.gives;
}

-- a seat delivers at most six messages for each entry
abbrev pub decreases-loop-seat : goal.decreases-loop-seat
decreases-loop-seat l = 6 * l.net.entries + 1 - l.seat.known.view.delivered
