use Rattle.std.proofs.Common.{◌≡◌, ◌⊎◌, inl, inr, sym, subst, ◌∙◌, ap, ◌<◌, arith, List, length}
use Rattle.oss_word_net.specs.Known.{Known}
use Rattle.oss_word_net.specs.Standing.{Standing, Netted}
use Rattle.oss_word_net.proofs.NetLemmas.{idle_of, as_many, none_held, delivered_learns}
use Rattle.oss_word_net.specs.Calls.{Delivered}
use Rattle.oss_word_net.proofs.net.WordNet.deliver.Goals as goal

pub deliver_first-sent-requires-clause-idle : goal.deliver_first-sent-requires-clause-idle
deliver_first-sent-requires-clause-idle c =
    let q = ap (λ d. d.words) (ap (λ (z : Standing). z.net) c.seat.view_is ∙ c.requires.net ∙ sym (ap (λ (z : Netted). z.table) c.self.view_is)) in
    let key : c.seat.inside.place.me.0.known.entries ≡ c.self.inside.table.shared.key = (let a = c.seat.invariant.3 in let b = c.self.invariant.0 in let d = c.self.invariant.1 in omega (arith, q, a, b, d)) in
    idle_of c.seat.inside.held.items c.seat.inside.place.me.0.known c.self.inside.table.shared.key c.seat.invariant.0 key

pub deliver_first-sent-requires-clause-some : goal.deliver_first-sent-requires-clause-some
deliver_first-sent-requires-clause-some c =
    let a = as_many c.seat.inside.held.items c.seat.inside.place.me.0.known c.seat.invariant.0.ready in
    elim (some_or c.seat.inside.held.items) [
      | inl p ↦ p
      | inr z ↦ absurd (c.requires.some (sym (ap (λ (z : Standing). z.known.view.held) c.seat.view_is) ∙ none_held c.seat.inside.place.me.0.known.view.held (sym a ∙ z)))
    ]
  where
    some_or : {A : Type 0} (xs : List A) → (0 < length xs) ⊎ (length xs ≡ 0)
    some_or xs = grind arith

pub returns-clause-delivered : goal.returns-clause-delivered
returns-clause-delivered c = subst (λ (z : Known). Delivered z c.hold.new.place.me.0.known) (ap (λ (z : Standing). z.known) c.seat.view_is)
    (delivered_learns c.seat.inside.place.me.0.known c.deliver_first-sent.new.place.me.0.known c.hold.new.place.me.0.known c.deliver_first-sent.ensures.delivered c.hold.ensures.learns)
