use Rattle.oss_word_net.proofs.RowLemmas.{may_give_above, gave_above}
use Rattle.oss_base_tests.proofs.word_net_tests.rows.give_upper.Goals as goal

pub give-requires-clause-may : goal.give-requires-clause-may
give-requires-clause-may c = may_give_above c.args.seat.now.known c.args.top c.args._siblings c.requires.row

pub returns-clause-may : goal.returns-clause-may
returns-clause-may c = gave_above c.args.seat.now.known c.give.new.seat.known c.settle.new.seat.known c.args.top c.args._siblings c.requires.row c.give.ensures.released c.settle.ensures.keeps c.settle.ensures.empty
