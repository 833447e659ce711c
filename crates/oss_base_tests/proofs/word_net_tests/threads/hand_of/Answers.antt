use Rattle.std.proofs.Common.{arith}
use Rattle.oss_word_net.proofs.RowLemmas.{span_more}
use Rattle.oss_base_tests.proofs.word_net_tests.threads.hand_of.Goals as goal

pub loop-entry-preserved : goal.loop-entry-preserved
loop-entry-preserved c =
    let at = c.loop-entry.invariant in
    record {
      span = span_more c.loop-entry.hand.items c.push.new.self.items c.args.start c.loop-entry.entry at.span at.low c.in_ok-push.ensures.items;
      low = (let l = at.low in omega (arith, l));
    }
