use Rattle.std.proofs.Common.{sym, []}
use Rattle.oss_word_net.proofs.NetLemmas.{ready_after}
use Rattle.oss_word_net.proofs.linking.hang_top.Goals as goal

pub returns-clause-ready : goal.returns-clause-ready
returns-clause-ready c = ready_after c.args.held.now.items [] c.args.place.now.me.0.known c.begin_list.new.place.me.0.known c.requires.ready c.requires.may.empty (sym c.begin_list.ensures.hung.sends) c.begin_list.ensures.hung.carries.told
