use Rattle.std.proofs.Common.{sym, subst, ap, ◌∙◌}
use Rattle.std.specs.Prelude.{box_value}
use Rattle.atomic_table.specs.Seated.{TableId}
use Rattle.oss_field.specs.Asks.{AreInside}
use Rattle.oss_field.specs.Known.{Known}
use Rattle.oss_field.specs.Messages.{Settled}
use Rattle.oss_field.specs.Standing.{carried}
use Rattle.oss_field.proofs.MessageLemmas.{settled_on}
use Rattle.oss_field.proofs.SameLemmas.{put_first_messages}
use Rattle.oss_field.proofs.field.Field.put_first.Goals as goal

pub invariant_of-seat : goal.invariant_of-seat
invariant_of-seat c =
    let e = c.put_new.ensures in
    let same = put_first_messages c.self.inside.table.shared.key.code.value (box_value c.args.job) c.self.inside.cells c.seat.inside.place.me.0.known c.put_new.new.seat.me.0.known e.put in (
      e.stays.slots ∙ (c.seat.invariant.0 ∙ sym (ap (λ (k : Known). carried k.bears) e.put.known)),
      subst (λ (d : TableId). AreInside d c.put_new.new.seat.me.0.known.bears) (sym e.stays.table) (subst (λ (k : Known). AreInside c.seat.inside.place.table_id k.bears) (sym e.put.known) c.seat.invariant.1),
      subst (λ (d : TableId). Settled c.seat.inside.held.items d.slots c.put_new.new.seat.me.0.known) (sym e.stays.table) (settled_on c.seat.inside.held.items c.seat.inside.place.table_id.slots c.seat.inside.place.me.0.known c.put_new.new.seat.me.0.known same c.seat.invariant.2),
      c.seat.invariant.3,
      c.seat.invariant.4 ∙ sym same.last,
      e.stays.live,
    )
