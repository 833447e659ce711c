use Rattle.std.proofs.Common.{◌≡◌, sym, subst, ap, ◌∙◌, ℕ, ◌+◌, List, lt_of_not-le}
use mathlib.Core.Logic.{dite}
use native.Mathlib.Decide.{dec_le}
use Rattle.atomic_table.specs.Seated.{TableId}
use Rattle.oss_field.specs.Asks.{AreInside}
use Rattle.oss_field.specs.Known.{Holding, Known}
use Rattle.oss_field.specs.Messages.{Settled}
use Rattle.oss_field.specs.Standing.{carried}
use Rattle.oss_field.proofs.MessageLemmas.{settled_on}
use Rattle.oss_field.proofs.SameLemmas.{drawn_messages}
use Rattle.oss_field.proofs.field.Field.draw.Goals as goal

pub invariant_of-seat : goal.invariant_of-seat
invariant_of-seat c =
    let e = c.add_draw-found.ensures in
    let n : ℕ = c.add_draw-found.result in
    let messages = drawn_messages c.self.inside.entries c.args.count n c.seat.inside.place.me.0.known c.add_draw-found.new.seat.me.0.known e.drawn in
    let same : c.add_draw-found.new.seat.me.0.known.bears ≡ c.seat.inside.place.me.0.known.bears = dite (dec_le (n + c.args.count) c.self.inside.entries)
    (λ le. ap (λ (k : Known). k.bears) (e.drawn.enough le))
    (λ gt. ap (λ (k : Known). k.bears) (e.drawn.too_few (lt_of_not-le gt))) in (
      e.stays.slots ∙ (c.seat.invariant.0 ∙ ap (λ (z : List Holding). carried z) (sym same)),
      subst (λ (d : TableId). AreInside d c.add_draw-found.new.seat.me.0.known.bears) (sym e.stays.table) (subst (λ (z : List Holding). AreInside c.seat.inside.place.table_id z) (sym same) c.seat.invariant.1),
      subst (λ (d : TableId). Settled c.seat.inside.held.items d.slots c.add_draw-found.new.seat.me.0.known) (sym e.stays.table) (settled_on c.seat.inside.held.items c.seat.inside.place.table_id.slots c.seat.inside.place.me.0.known c.add_draw-found.new.seat.me.0.known messages c.seat.invariant.2),
      c.seat.invariant.3,
      c.seat.invariant.4 ∙ sym messages.last,
      e.stays.live,
    )
