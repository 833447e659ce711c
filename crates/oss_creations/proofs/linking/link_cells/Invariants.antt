use Rattle.std.proofs.Common.{◌≡◌, ◌+◌, ◌-◌}
use Rattle.oss_creations.specs.Creating.{HasLinked}
use Rattle.oss_creations.proofs.linking.link_cells.Given as goal

-- the entries on the cells before this one are linked
abbrev pub invariant-loop-cell : goal.invariant-loop-cell
invariant-loop-cell l = record {
  same : (l.seat.field ≡ l.fn.seat.field) × (l.seat.id ≡ l.fn.seat.id);
  linked : HasLinked l.task l.first (l.first + (l.cell - l.access.range.lo)) l.fn.seat.known l.seat.known;
}
