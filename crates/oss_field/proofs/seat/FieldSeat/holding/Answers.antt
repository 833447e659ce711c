use Rattle.std.proofs.Common.{◌≡◌, ◌≢◌, sym, subst, ap, arith, [], Bool}
use Rattle.std.specs.Prelude.{MatchBool}
use Rattle.oss_field.specs.Known.{Known}
use Rattle.oss_field.specs.Standing.{Standing}
use Rattle.oss_field.proofs.DeliverLemmas.{holds_is}
use Rattle.oss_field.proofs.seat.FieldSeat.holding.Goals as goal

pub returns : goal.returns
returns c = subst (λ (k : Known). MatchBool c.has_some.result (k.words.held ≢ []) (k.words.held ≡ [])) (ap (λ (z : Standing). z.known) c.self.view_is)
    (subst (λ (b : Bool). MatchBool b (c.self.inside.place.me.0.known.words.held ≢ []) (c.self.inside.place.me.0.known.words.held ≡ [])) (sym c.has_some.ensures)
    (holds_is c.self.inside.held.items c.self.inside.place.me.0.known c.self.inside.held.len c.self.invariant.2.ready (let o = c.self.inside.held.ok in omega (arith, o))))
