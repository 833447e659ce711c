use Rattle.std.proofs.Common.{rules}
use Rattle.oss_acts.proofs.NewsLemmas.{same_more, same_none}
use Rattle.oss_creations.proofs.delivering.deliver_rest.Goals as goal

pub loop-seat-init : goal.loop-seat-init
loop-seat-init c = record { same = search rules; work = same_none c.args.seat.now.known }

pub loop-seat-preserved : goal.loop-seat-preserved
loop-seat-preserved c = record {
  same = search rules;
  work = same_more c.args.seat.now.known c.loop-seat.seat.known c.deliver_next.new.seat.known c.loop-seat.invariant.work c.deliver_next.ensures.work;
}
