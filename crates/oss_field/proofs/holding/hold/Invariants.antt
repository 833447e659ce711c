use Rattle.std.proofs.Common.{◌≤◌, drop}
use Rattle.std.specs.Prelude.{vec_capacity}
use Rattle.oss_field.specs.Messages.{Bounded, Learns, Ready}
use Rattle.oss_field.specs.Standing.{On, Stays}
use Rattle.oss_field.proofs.holding.hold.Given as goal

abbrev pub invariant-loop-at : goal.invariant-loop-at
invariant-loop-at l = record {
  on : On l.words.table_id l.words.key l.place;
  bounded : Bounded l.words.key.entries l.place.me.0.known;
  stays : Stays l.fn.place l.place;
  learns : Learns l.fn.place.me.0.known l.place.me.0.known;
  ready : Ready l.held.items (drop l.at l.messages) l.place.me.0.known;
  room : 1024 ≤ vec_capacity l.held;
}
