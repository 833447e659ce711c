use Rattle.std.proofs.Common.{◌≡◌, ◌≤◌, drop}
use Rattle.std.specs.Prelude.{vec_capacity}
use Rattle.oss_word_net.specs.Asks.{On, Stays}
use Rattle.oss_word_net.specs.Plays.{Bounded}
use Rattle.oss_word_net.specs.Standing.{Learns, Ready}
use Rattle.oss_word_net.proofs.holding.hold.Given as goal

abbrev pub invariant-loop-at : goal.invariant-loop-at
invariant-loop-at l = record {
  on : On l.words.table_id l.words.key l.place;
  bounded : Bounded l.place.me.0.known × (l.place.me.0.known.entries ≡ l.words.key);
  stays : Stays l.fn.place l.place;
  learns : Learns l.fn.place.me.0.known l.place.me.0.known;
  ready : Ready l.held.items (drop l.at l.messages) l.place.me.0.known;
  room : 1024 ≤ vec_capacity l.held;
}
