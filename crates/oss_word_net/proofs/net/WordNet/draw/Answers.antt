use Rattle.std.proofs.Common.{◌≡◌, sym, ◌∙◌, ap, ℕ, ◌+◌, arith}
use Rattle.oss_word_net.specs.Known.{Known}
use Rattle.oss_word_net.specs.Standing.{Standing, Netted, Settled}
use Rattle.oss_word_net.proofs.NetLemmas.{drew_settled, missed_settled}
use mathlib.Core.Logic.{dite}
use native.Mathlib.Decide.{dec_le}
use Rattle.std.proofs.Common.{lt_of_not-le}
use Rattle.oss_word_net.proofs.net.WordNet.draw.Goals as goal

pub add_draw-found-requires-clause-live : goal.add_draw-found-requires-clause-live
add_draw-found-requires-clause-live c =
    let q = ap (λ d. d.words) (ap (λ (z : Standing). z.net) c.seat.view_is ∙ c.requires.net ∙ sym (ap (λ (z : Netted). z.table) c.self.view_is)) in
    let key : c.seat.inside.place.me.0.known.entries ≡ c.self.inside.table.shared.key = (let a = c.seat.invariant.3 in let b = c.self.invariant.0 in let d = c.self.invariant.1 in omega (arith, q, a, b, d)) in
    (c.seat.invariant.0.idle.live, key)

pub invariant_of-seat : goal.invariant_of-seat
invariant_of-seat c =
    let q = ap (λ d. d.words) (ap (λ (z : Standing). z.net) c.seat.view_is ∙ c.requires.net ∙ sym (ap (λ (z : Netted). z.table) c.self.view_is)) in
    let key : c.seat.inside.place.me.0.known.entries ≡ c.self.inside.table.shared.key = (let a = c.seat.invariant.3 in let b = c.self.invariant.0 in let d = c.self.invariant.1 in omega (arith, q, a, b, d)) in
    let s = c.seat.invariant.0 in
    let k : Known = c.seat.inside.place.me.0.known in
    let b : Known = c.add_draw-found.new.seat.me.0.known in
    let n : ℕ = c.add_draw-found.result in
    let both : Settled c.seat.inside.held.items b × (b.entries ≡ k.entries) = dite (dec_le (n + c.args.count) c.self.inside.table.shared.key)
    (λ le. let e = c.add_draw-found.ensures.enough le in (drew_settled c.seat.inside.held.items k b c.args.count n s (omega (arith, le, key)) e, ap (λ (z : Known). z.entries) e))
    (λ gt. let e = c.add_draw-found.ensures.short (lt_of_not-le gt) in (missed_settled c.seat.inside.held.items k b n s e, ap (λ (z : Known). z.entries) e)) in
    (both.0, c.add_draw-found.ensures.stays.bare ∙ c.seat.invariant.1, c.seat.invariant.2, ap (λ d. d.words) c.add_draw-found.ensures.stays.table ∙ c.seat.invariant.3 ∙ (let y = both.1 in omega (arith, y)))
