use Rattle.std.proofs.Common.{sym, subst, ap, ◌∙◌}
use Rattle.std.specs.Prelude.{box_value}
use Rattle.atomic_table.specs.Seated.{TableId}
use Rattle.oss_field.specs.Asks.{AreInside}
use Rattle.oss_field.specs.Messages.{Settled}
use Rattle.oss_field.specs.Standing.{Fielded, Standing}
use Rattle.oss_field.proofs.MessageLemmas.{settled_on}
use Rattle.oss_field.proofs.SameLemmas.{put_messages}
use Rattle.oss_field.proofs.field.Field.put_body.Goals as goal

pub invariant_of-seat : goal.invariant_of-seat
invariant_of-seat c =
    let e = c.put_slot.ensures in
    let same = put_messages c.self.inside.table.shared.key.code.value (box_value c.args.job) c.self.inside.cells c.seat.inside.place.me.0.known c.put_slot.new.seat.me.0.known e.known in
    let q = e.same.0 ∙ (ap (λ (z : Standing). z.field) c.seat.view_is ∙ (c.requires.field ∙ sym (ap (λ (z : Fielded). z.table) c.self.view_is))) in (
      e.slots,
      subst (λ (d : TableId). AreInside d c.put_slot.new.seat.me.0.known.bears) (sym q) e.held,
      subst (λ (d : TableId). Settled c.seat.inside.held.items d.slots c.put_slot.new.seat.me.0.known) (sym e.same.0) (settled_on c.seat.inside.held.items c.seat.inside.place.table_id.slots c.seat.inside.place.me.0.known c.put_slot.new.seat.me.0.known same c.seat.invariant.2),
      c.seat.invariant.3,
      c.seat.invariant.4 ∙ sym same.last,
      e.live,
    )
