use Rattle.std.proofs.Common.{arith}
use Rattle.std.specs.Slots.{slots_items}
use Rattle.oss_word_net.proofs.CloseLemmas.{one_longer, one_more}
use Rattle.oss_word_net.proofs.closing.copy_states.Goals as goal

pub loop-entry-preserved : goal.loop-entry-preserved
loop-entry-preserved c =
    let at = c.loop-entry.invariant in
    record {
      size = one_longer c.loop-entry.states.items c.push.new.self.items c.word-word.result c.loop-entry.entry at.size c.in-Ok.ensures.items;
      room = (let a = at.room in let b = c.push.ensures.capacity in omega (arith, a, b));
      words = one_more c.loop-entry.states.items (slots_items c.args.closed.now.words) c.push.new.self.items c.word-word.result c.loop-entry.entry at.size at.words c.word-word.ensures c.in-Ok.ensures.items;
    }
