use Rattle.std.proofs.Common.{◌≡◌, ◌≢◌, sym, subst, ap, arith, [], Bool}
use Rattle.std.specs.Prelude.{MatchBool}
use Rattle.oss_word_net.specs.Known.{Known}
use Rattle.oss_word_net.specs.Standing.{Standing}
use Rattle.oss_word_net.proofs.NetLemmas.{holds_is}
use Rattle.oss_word_net.proofs.net.WordNet.holding.Goals as goal

pub returns : goal.returns
returns c = subst (λ (k : Known). MatchBool c.has_some.result (k.view.held ≢ []) (k.view.held ≡ [])) (ap (λ (z : Standing). z.known) c.seat.view_is)
    (subst (λ (b : Bool). MatchBool b (c.seat.inside.place.me.0.known.view.held ≢ []) (c.seat.inside.place.me.0.known.view.held ≡ [])) (sym c.has_some.ensures)
    (holds_is c.seat.inside.held.items c.seat.inside.place.me.0.known c.seat.inside.held.len c.seat.invariant.0.ready (let o = c.seat.inside.held.ok in omega (arith, o))))
