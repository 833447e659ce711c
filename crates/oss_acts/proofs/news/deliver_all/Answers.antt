use Rattle.std.proofs.Common.{rules, sym, subst, List, ℕ, ◌∙◌}
use Rattle.oss_acts.proofs.NewsLemmas.{Tells, same_more, same_none, tells_more, tells_none}
use Rattle.oss_acts.proofs.news.deliver_all.Goals as goal

pub loop-news-init : goal.loop-news-init
loop-news-init c = record {
  same = search rules;
  work = same_none c.args.seat.now.known;
  delivers = tells_none c.args.seat.now.known c.args.news.now.items;
}

pub loop-news-preserved : goal.loop-news-preserved
loop-news-preserved c = record {
  same = search rules;
  work = same_more c.args.seat.now.known c.loop-news.seat.known c.deliver_one.new.seat.known c.loop-news.invariant.work c.deliver_one.ensures.work;
  delivers = tells_more c.args.seat.now.known c.loop-news.seat.known c.deliver_one.new.seat.known c.args.news.now.items c.loop-news.news.items c.deliver_one.new.news.items
      c.loop-news.invariant.delivers (subst (λ (z : List ℕ). Tells c.loop-news.seat.known c.deliver_one.new.seat.known z c.deliver_one.new.news.items) c.make_room.ensures.items c.deliver_one.ensures.delivers);
}
