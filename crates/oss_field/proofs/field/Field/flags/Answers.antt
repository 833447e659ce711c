use Rattle.std.proofs.Common.{sym, subst, ap, ◌∙◌}
use Rattle.atomic_table.specs.Seated.{TableId}
use Rattle.oss_field.specs.Asks.{AreInside}
use Rattle.oss_field.specs.Known.{Known}
use Rattle.oss_field.specs.Messages.{Settled}
use Rattle.oss_field.specs.Standing.{carried}
use Rattle.oss_field.proofs.MessageLemmas.{settled_on}
use Rattle.oss_field.proofs.SameLemmas.{flags_messages}
use Rattle.oss_field.proofs.field.Field.flags.Goals as goal

pub invariant_of-seat : goal.invariant_of-seat
invariant_of-seat c =
    let e = c.read_flags.ensures in
    let same = flags_messages c.self.inside.cells c.args.entry c.read_flags.result c.seat.inside.place.me.0.known c.read_flags.new.seat.me.0.known e.known in (
      e.stays.slots ∙ (c.seat.invariant.0 ∙ sym (ap (λ (k : Known). carried k.bears) e.known)),
      subst (λ (d : TableId). AreInside d c.read_flags.new.seat.me.0.known.bears) (sym e.stays.table) (subst (λ (k : Known). AreInside c.seat.inside.place.table_id k.bears) (sym e.known) c.seat.invariant.1),
      subst (λ (d : TableId). Settled c.seat.inside.held.items d.slots c.read_flags.new.seat.me.0.known) (sym e.stays.table) (settled_on c.seat.inside.held.items c.seat.inside.place.table_id.slots c.seat.inside.place.me.0.known c.read_flags.new.seat.me.0.known same c.seat.invariant.2),
      c.seat.invariant.3,
      c.seat.invariant.4 ∙ sym same.last,
      e.stays.live,
    )
