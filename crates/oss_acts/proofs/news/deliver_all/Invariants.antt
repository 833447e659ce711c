use Rattle.std.proofs.Common.{◌≡◌, ◌-◌, ◌*◌}
use Rattle.oss_acts.specs.Working.{SameWork}
use Rattle.oss_acts.proofs.NewsLemmas.{Tells}
use Rattle.oss_acts.proofs.news.deliver_all.Given as goal

-- what was delivered so far is told
abbrev pub invariant-loop-news : goal.invariant-loop-news
invariant-loop-news l = record {
  same : (l.seat.field ≡ l.fn.seat.field) × (l.seat.id ≡ l.fn.seat.id);
  work : SameWork l.fn.seat.known l.seat.known;
  delivers : Tells l.fn.seat.known l.seat.known l.fn.news.items l.news.items;
}

abbrev pub decreases-loop-news : goal.decreases-loop-news
decreases-loop-news l = 6 * l.field.entries - l.seat.known.words.delivered
