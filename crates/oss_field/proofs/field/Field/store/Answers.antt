use Rattle.std.proofs.Common.{sym, subst, ap, ◌∙◌}
use Rattle.atomic_table.specs.Seated.{TableId}
use Rattle.oss_field.specs.Asks.{AreInside}
use Rattle.oss_field.specs.Messages.{Settled}
use Rattle.oss_field.specs.Standing.{Fielded, Standing}
use Rattle.oss_field.proofs.MessageLemmas.{settled_on}
use Rattle.oss_field.proofs.SameLemmas.{stored_messages}
use Rattle.oss_field.proofs.field.Field.store.Goals as goal

pub invariant_of-seat : goal.invariant_of-seat
invariant_of-seat c =
    let e = c.store_cell.ensures in
    let same = stored_messages c.self.inside.table.shared.key.code.value c.args.job.now c.args.cell c.args.value c.seat.inside.place.me.0.known c.store_cell.new.seat.me.0.known e.stored in
    let q = e.stays.table ∙ (ap (λ (z : Standing). z.field) c.seat.view_is ∙ (c.requires.field ∙ sym (ap (λ (z : Fielded). z.table) c.self.view_is))) in (
      e.stays.slots ∙ (c.seat.invariant.0 ∙ sym e.slots),
      subst (λ (d : TableId). AreInside d c.store_cell.new.seat.me.0.known.bears) (sym q) e.inside,
      subst (λ (d : TableId). Settled c.seat.inside.held.items d.slots c.store_cell.new.seat.me.0.known) (sym e.stays.table) (settled_on c.seat.inside.held.items c.seat.inside.place.table_id.slots c.seat.inside.place.me.0.known c.store_cell.new.seat.me.0.known same c.seat.invariant.2),
      c.seat.invariant.3,
      c.seat.invariant.4 ∙ sym same.last,
      e.stays.live,
    )
