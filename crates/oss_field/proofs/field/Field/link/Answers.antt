use Rattle.std.proofs.Common.{sym, subst, ap, ◌∙◌, ℕ}
use Rattle.atomic_table.specs.Seated.{TableId}
use Rattle.oss_field.specs.Asks.{AreInside}
use Rattle.oss_field.specs.Known.{Known}
use Rattle.oss_field.specs.Messages.{Settled}
use Rattle.oss_field.specs.Standing.{Fielded, Standing}
use Rattle.oss_field.proofs.LinkedLemmas.{linked_inside, linked_slots}
use Rattle.oss_field.proofs.field.Field.link.Goals as goal

pub link_entry-requires-clause-settled : goal.link_entry-requires-clause-settled
link_entry-requires-clause-settled c =
    let q = ap (λ (z : Standing). z.field) c.seat.view_is ∙ (c.requires.field ∙ sym (ap (λ (z : Fielded). z.table) c.self.view_is)) in
    subst (λ (n : ℕ). Settled c.seat.inside.held.items n c.seat.inside.place.me.0.known) (ap (λ (d : TableId). d.slots) q ∙ (c.self.invariant.3 ∙ sym c.self.invariant.0)) c.seat.invariant.2

pub invariant_of-seat : goal.invariant_of-seat
invariant_of-seat c =
    let e = c.link_entry.ensures in
    let q = ap (λ (z : Standing). z.field) c.seat.view_is ∙ (c.requires.field ∙ sym (ap (λ (z : Fielded). z.table) c.self.view_is)) in (
      e.stays.slots ∙ (c.seat.invariant.0 ∙ sym (linked_slots c.args.entry c.args.info.now c.args.after c.seat.inside.place.me.0.known c.link_entry.new.place.me.0.known e.linked)),
      subst (λ (d : TableId). AreInside d c.link_entry.new.place.me.0.known.bears) (sym e.stays.table) (linked_inside c.seat.inside.place.table_id c.args.entry c.args.info.now c.args.after c.seat.inside.place.me.0.known c.link_entry.new.place.me.0.known c.seat.invariant.1 e.linked),
      subst (λ (n : ℕ). Settled c.link_entry.new.held.items n c.link_entry.new.place.me.0.known) (sym (ap (λ (d : TableId). d.slots) (e.stays.table ∙ q) ∙ (c.self.invariant.3 ∙ sym c.self.invariant.0))) e.settled,
      e.room,
      c.seat.invariant.4 ∙ sym (ap (λ (k : Known). k.last) e.linked.known),
      e.stays.live,
    )
