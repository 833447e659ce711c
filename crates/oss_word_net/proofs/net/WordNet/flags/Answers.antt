use Rattle.std.proofs.Common.{◌≡◌, sym, ◌∙◌, ap, arith}
use Rattle.oss_word_net.specs.Standing.{Standing, Netted}
use Rattle.oss_word_net.proofs.net.WordNet.flags.Goals as goal

pub read_state-requires-clause-live : goal.read_state-requires-clause-live
read_state-requires-clause-live c =
    let q = ap (λ d. d.words) (ap (λ (z : Standing). z.net) c.seat.view_is ∙ c.requires.net ∙ sym (ap (λ (z : Netted). z.table) c.self.view_is)) in
    let key : c.seat.inside.place.me.0.known.entries ≡ c.self.inside.table.shared.key = (let a = c.seat.invariant.3 in let b = c.self.invariant.0 in let d = c.self.invariant.1 in omega (arith, q, a, b, d)) in
    (c.seat.invariant.0.idle.live, key)
