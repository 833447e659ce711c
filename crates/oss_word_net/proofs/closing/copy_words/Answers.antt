use Rattle.std.proofs.Common.{arith}
use Rattle.std.specs.Slots.{slots_items}
use Rattle.oss_word_net.proofs.CloseLemmas.{one_longer}
use Rattle.oss_word_net.proofs.EndLemmas.{copied}
use Rattle.oss_word_net.proofs.closing.copy_words.Goals as goal

pub loop-at-preserved : goal.loop-at-preserved
loop-at-preserved c =
    let i = c.loop-at.invariant in
    record {
      size = one_longer c.loop-at.words.items c.push.new.self.items c.word-word.result c.loop-at.at i.size c.in-Ok.ensures.items;
      room = (let a = i.room in let b = c.push.ensures.capacity in omega (arith, a, b));
      words = copied c.loop-at.words.items (slots_items c.args.closed.now.words) c.push.new.self.items c.word-word.result c.loop-at.at i.size i.words c.word-word.ensures c.in-Ok.ensures.items;
    }
