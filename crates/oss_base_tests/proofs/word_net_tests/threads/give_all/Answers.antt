use Rattle.std.proofs.Common.{◌∙◌}
use Rattle.oss_word_net.proofs.RowLemmas.{gave_next}
use Rattle.oss_base_tests.proofs.word_net_tests.threads.give_all.Goals as goal

pub loop-entry-preserved : goal.loop-entry-preserved
loop-entry-preserved c =
    let at = c.loop-entry.invariant in
    let give = c.give.ensures in
    let settle = c.settle.ensures in
    record {
      net = settle.same.0 ∙ give.same.0 ∙ at.net;
      may = gave_next c.loop-entry.seat.known c.give.new.seat.known c.settle.new.seat.known c.loop-entry.entry c.args.share.end at.may give.released settle.keeps settle.empty;
      parts = settle.keeps.carries.parts ∙ give.released.carries.parts ∙ at.parts;
      splits = settle.keeps.carries.splits ∙ give.released.carries.splits ∙ at.splits;
    }
