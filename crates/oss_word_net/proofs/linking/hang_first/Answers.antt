use Rattle.oss_words.specs.declared.entry.After.TheVariants.{FirstOf}
use Rattle.oss_word_net.proofs.NetLemmas.{ready_after, learnt_idle, hung_learns}
use Rattle.oss_word_net.proofs.linking.hang_first.Goals as goal

pub hold-requires-clause-ready : goal.hold-requires-clause-ready
hold-requires-clause-ready c = ready_after c.args.held.now.items c.begin_children-sent.result.items c.args.place.now.me.0.known c.begin_children-sent.new.place.me.0.known c.requires.ready c.requires.may.empty c.begin_children-sent.ensures.sent c.begin_children-sent.ensures.hung.carries.told

pub returns-clause-idle : goal.returns-clause-idle
returns-clause-idle c = learnt_idle c.args.words.now.key c.begin_children-sent.new.place.me.0.known c.hold.new.place.me.0.known c.begin_children-sent.ensures.idle c.hold.ensures.learns

pub returns-clause-hung : goal.returns-clause-hung
returns-clause-hung c = hung_learns c.args.place.now.me.0.known c.begin_children-sent.new.place.me.0.known c.hold.new.place.me.0.known c.args.entry c.args.info.now (FirstOf c.args.info.now.parent) c.begin_children-sent.ensures.hung c.hold.ensures.learns
