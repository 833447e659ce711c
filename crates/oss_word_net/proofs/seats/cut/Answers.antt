use Rattle.std.proofs.Common.{sym, subst, ap, []}
use Rattle.oss_word_net.specs.Known.{Known}
use Rattle.oss_word_net.specs.Standing.{Settled}
use Rattle.oss_word_net.proofs.NetLemmas.{keep_settled, handed_settled}
use Rattle.oss_word_net.proofs.seats.cut.Goals as goal

pub returns-clause-settled : goal.returns-clause-settled
returns-clause-settled c = (
  keep_settled c.args._held.now.items c.args.seat.now.me.0.known c.split_by.new.seat.me.0.known c.args.hand.now c.requires.settled.0 c.requires.settled.1 c.split_by.ensures.known,
  ap (λ (k : Known). k.entries) c.split_by.ensures.known,
)

pub returns-clause-ready : goal.returns-clause-ready
returns-clause-ready c = (
  subst (λ (k : Known). Settled [] k) (sym c.split_by.ensures.other.1) (handed_settled c.args._held.now.items c.args.seat.now.me.0.known c.args.hand.now c.requires.settled.0 c.requires.own),
  ap (λ (k : Known). k.entries) c.split_by.ensures.other.1,
)
