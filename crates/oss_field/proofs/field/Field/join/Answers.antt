use Rattle.std.proofs.Common.{sym, subst, ap, ◌∙◌}
use Rattle.atomic_table.specs.Seated.{TableId}
use Rattle.oss_field.specs.Asks.{AreInside}
use Rattle.oss_field.specs.Known.{Known}
use Rattle.oss_field.specs.Messages.{SameMessages, Settled}
use Rattle.oss_field.specs.Standing.{carried}
use Rattle.oss_field.proofs.MessageLemmas.{settled_on}
use Rattle.oss_field.proofs.field.Field.join.Goals as goal

pub invariant_of-seat : goal.invariant_of-seat
invariant_of-seat c =
    let e = c.merge.ensures in
    let same : SameMessages c.seat.inside.place.me.0.known c.merge.new.seat.me.0.known = record {
      held = ap (λ (k : Known). k.words.held) e.known;
      half = ap (λ (k : Known). k.words.half) e.known;
      told = ap (λ (k : Known). k.told) e.known;
      joined = ap (λ (k : Known). k.joined) e.known;
      owes = ap (λ (k : Known). k.owes) e.known;
      last = ap (λ (k : Known). k.last) e.known;
    } in (
      e.stays.slots ∙ (c.seat.invariant.0 ∙ sym (ap (λ (k : Known). carried k.bears) e.known)),
      subst (λ (d : TableId). AreInside d c.merge.new.seat.me.0.known.bears) (sym e.stays.table) (subst (λ (k : Known). AreInside c.seat.inside.place.table_id k.bears) (sym e.known) c.seat.invariant.1),
      subst (λ (d : TableId). Settled c.seat.inside.held.items d.slots c.merge.new.seat.me.0.known) (sym e.stays.table) (settled_on c.seat.inside.held.items c.seat.inside.place.table_id.slots c.seat.inside.place.me.0.known c.merge.new.seat.me.0.known same c.seat.invariant.2),
      c.seat.invariant.3,
      c.seat.invariant.4 ∙ sym same.last,
      e.stays.live,
    )
