use Rattle.oss_words.specs.declared.entry.After.TheVariants.{Sibling}
use Rattle.oss_word_net.proofs.NetLemmas.{ready_after, learnt_idle, hung_learns}
use Rattle.oss_word_net.proofs.linking.hang_behind.Goals as goal

pub hold-requires-clause-ready : goal.hold-requires-clause-ready
hold-requires-clause-ready c = ready_after c.args.held.now.items c.extend_list-sent.result.items c.args.place.now.me.0.known c.extend_list-sent.new.place.me.0.known c.requires.ready c.requires.may.empty c.extend_list-sent.ensures.sent c.extend_list-sent.ensures.hung.carries.told

pub returns-clause-idle : goal.returns-clause-idle
returns-clause-idle c = learnt_idle c.args.words.now.key c.extend_list-sent.new.place.me.0.known c.hold.new.place.me.0.known c.extend_list-sent.ensures.idle c.hold.ensures.learns

pub returns-clause-hung : goal.returns-clause-hung
returns-clause-hung c = hung_learns c.args.place.now.me.0.known c.extend_list-sent.new.place.me.0.known c.hold.new.place.me.0.known c.args.entry c.args.info.now (Sibling c.args.sibling) c.extend_list-sent.ensures.hung c.hold.ensures.learns
