use Rattle.std.proofs.Common.{◌≡◌, sym, subst, ◌∙◌, ap, arith}
use Rattle.oss_word_net.specs.Known.{Known}
use Rattle.oss_word_net.specs.Standing.{Standing, Netted}
use Rattle.oss_word_net.proofs.NetLemmas.{idle_of, released_learns}
use Rattle.oss_word_net.specs.Calls.{Released}
use Rattle.oss_word_net.proofs.net.WordNet.give.Goals as goal

pub give_up-sent-requires-clause-idle : goal.give_up-sent-requires-clause-idle
give_up-sent-requires-clause-idle c =
    let q = ap (λ d. d.words) (ap (λ (z : Standing). z.net) c.seat.view_is ∙ c.requires.net ∙ sym (ap (λ (z : Netted). z.table) c.self.view_is)) in
    let key : c.seat.inside.place.me.0.known.entries ≡ c.self.inside.table.shared.key = (let a = c.seat.invariant.3 in let b = c.self.invariant.0 in let d = c.self.invariant.1 in omega (arith, q, a, b, d)) in
    idle_of c.seat.inside.held.items c.seat.inside.place.me.0.known c.self.inside.table.shared.key c.seat.invariant.0 key

pub returns-clause-released : goal.returns-clause-released
returns-clause-released c = subst (λ (z : Known). Released z c.hold.new.place.me.0.known c.args.entry) (ap (λ (z : Standing). z.known) c.seat.view_is)
    (released_learns c.seat.inside.place.me.0.known c.give_up-sent.new.place.me.0.known c.hold.new.place.me.0.known c.args.entry c.give_up-sent.ensures.released c.hold.ensures.learns)
