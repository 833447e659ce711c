use Rattle.std.proofs.Common.{◌≢◌, sym, subst, ap, ◌∙◌, ℕ, [], List}
use Rattle.atomic_table.specs.Seated.{TableId}
use Rattle.oss_field.specs.Asks.{AreInside}
use Rattle.oss_field.specs.Known.{Holding, Known}
use Rattle.oss_field.specs.Messages.{Delivered, NoJoinFirst, Settled}
use Rattle.oss_field.specs.Standing.{Fielded, Standing, carried}
use Rattle.oss_field.proofs.DeliverLemmas.{some_ready}
use Rattle.oss_field.proofs.field.Field.deliver.Goals as goal

pub deliver_first-freed-requires-clause-settled : goal.deliver_first-freed-requires-clause-settled
deliver_first-freed-requires-clause-settled c =
    let q = ap (λ (z : Standing). z.field) c.seat.view_is ∙ (c.requires.field ∙ sym (ap (λ (z : Fielded). z.table) c.self.view_is)) in
    subst (λ (n : ℕ). Settled c.seat.inside.held.items n c.seat.inside.place.me.0.known) (ap (λ (d : TableId). d.slots) q ∙ (c.self.invariant.3 ∙ sym c.self.invariant.0)) c.seat.invariant.2

pub deliver_first-freed-requires-clause-some : goal.deliver_first-freed-requires-clause-some
deliver_first-freed-requires-clause-some c =
    some_ready c.seat.inside.held.items c.seat.inside.place.me.0.known c.seat.invariant.2.ready
    (subst (λ (k : Known). k.words.held ≢ []) (sym (ap (λ (z : Standing). z.known) c.seat.view_is)) c.requires.some)

pub deliver_first-freed-requires-clause-join : goal.deliver_first-freed-requires-clause-join
deliver_first-freed-requires-clause-join c = subst (λ (k : Known). NoJoinFirst k) (sym (ap (λ (z : Standing). z.known) c.seat.view_is)) c.requires.join

pub returns-clause-delivered : goal.returns-clause-delivered
returns-clause-delivered c = subst (λ (k : Known). Delivered k c.deliver_first-freed.new.place.me.0.known c.deliver_first-freed.result.0) (ap (λ (z : Standing). z.known) c.seat.view_is) c.deliver_first-freed.ensures.delivered

pub invariant_of-seat : goal.invariant_of-seat
invariant_of-seat c =
    let e = c.deliver_first-freed.ensures in
    let q = ap (λ (z : Standing). z.field) c.seat.view_is ∙ (c.requires.field ∙ sym (ap (λ (z : Fielded). z.table) c.self.view_is)) in
    let bears = ap (λ (k : Known). k.bears) e.delivered.known in (
      e.stays.slots ∙ (c.seat.invariant.0 ∙ sym (ap (λ (z : List Holding). carried z) bears)),
      subst (λ (d : TableId). AreInside d c.deliver_first-freed.new.place.me.0.known.bears) (sym e.stays.table) (subst (λ (z : List Holding). AreInside c.seat.inside.place.table_id z) (sym bears) c.seat.invariant.1),
      subst (λ (n : ℕ). Settled c.deliver_first-freed.new.held.items n c.deliver_first-freed.new.place.me.0.known) (sym (ap (λ (d : TableId). d.slots) (e.stays.table ∙ q) ∙ (c.self.invariant.3 ∙ sym c.self.invariant.0))) e.settled,
      e.room,
      e.last,
      e.stays.live,
    )
