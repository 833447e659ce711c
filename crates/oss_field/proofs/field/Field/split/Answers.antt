use Rattle.std.proofs.Common.{◌<◌, arith, sym, subst, ap, ◌∙◌}
use Rattle.atomic_table.specs.Seated.{TableId}
use Rattle.oss_field.specs.Asks.{AreInside}
use Rattle.oss_field.specs.Known.{Known}
use Rattle.oss_field.specs.Messages.{Settled}
use Rattle.oss_field.specs.Standing.{carried}
use Rattle.oss_field.proofs.DeliverLemmas.{new_settled}
use Rattle.oss_field.proofs.MessageLemmas.{settled_on}
use Rattle.oss_field.proofs.SameLemmas.{parted_messages}
use Rattle.oss_field.proofs.field.Field.split.Goals as goal

pub invariant_of-seat : goal.invariant_of-seat
invariant_of-seat c =
    let e = c.part-place.ensures in
    let same = parted_messages c.seat.inside.place.me.0.known c.part-place.new.seat.me.0.known e.known in (
      e.stays.slots ∙ (c.seat.invariant.0 ∙ sym (ap (λ (k : Known). carried k.bears) e.known)),
      subst (λ (d : TableId). AreInside d c.part-place.new.seat.me.0.known.bears) (sym e.stays.table) (subst (λ (k : Known). AreInside c.seat.inside.place.table_id k.bears) (sym e.known) c.seat.invariant.1),
      subst (λ (d : TableId). Settled c.seat.inside.held.items d.slots c.part-place.new.seat.me.0.known) (sym e.stays.table) (settled_on c.seat.inside.held.items c.seat.inside.place.table_id.slots c.seat.inside.place.me.0.known c.part-place.new.seat.me.0.known same c.seat.invariant.2),
      c.seat.invariant.3,
      c.seat.invariant.4 ∙ sym same.last,
      e.stays.live,
    )

pub invariant_of-result : goal.invariant_of-result
invariant_of-result c =
    let e = c.part-place.ensures in
    let known = e.other.1 in (
      e.other.2 ∙ sym (ap (λ (k : Known). carried k.bears) known),
      subst (λ (k : Known). AreInside c.part-place.result.table_id k.bears) (sym known) (λ h a. elim a [ ]),
      new_settled c.in_ok-held.held.items c.part-place.result.table_id.slots c.part-place.result.me.0.known c.in_ok-held.ensures.0 known,
      c.in_ok-held.ensures.1,
      sym (ap (λ (k : Known). k.last) known),
      subst (λ (k : Known). 0 < k.words.parts) (sym known) (let one : 0 < 1 = omega arith in one),
    )
