use Rattle.oss_word_net.proofs.CallLemmas.{hung_top}
use Rattle.oss_word_net.proofs.linking.begin_list.Goals as goal

pub returns-clause-hung : goal.returns-clause-hung
returns-clause-hung c = hung_top c.args.place.now.me.0.known c.fill_info.new.seat.me.0.known c.open_list.new.seat.me.0.known c.args.entry c.word_of_info.result c.args.info.now c.requires.may.empty c.fill_info.ensures.known c.open_list.ensures.known
