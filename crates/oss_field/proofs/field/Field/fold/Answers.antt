use Rattle.std.proofs.Common.{sym, subst, ap, ◌∙◌, ℕ, List}
use Rattle.atomic_table.specs.Seated.{TableId}
use Rattle.oss_field.specs.Asks.{AreInside}
use Rattle.oss_field.specs.Folding.{Folded}
use Rattle.oss_field.specs.Known.{Holding, Known}
use Rattle.oss_field.specs.Messages.{JoinFirst, Settled}
use Rattle.oss_field.specs.Standing.{Fielded, Standing, carried}
use Rattle.oss_field.proofs.field.Field.fold.Goals as goal

pub fold_first-last-requires-clause-settled : goal.fold_first-last-requires-clause-settled
fold_first-last-requires-clause-settled c =
    let q = ap (λ (z : Standing). z.field) c.seat.view_is ∙ (c.requires.field ∙ sym (ap (λ (z : Fielded). z.table) c.self.view_is)) in
    subst (λ (n : ℕ). Settled c.seat.inside.held.items n c.seat.inside.place.me.0.known) (ap (λ (d : TableId). d.slots) q ∙ (c.self.invariant.3 ∙ sym c.self.invariant.0)) c.seat.invariant.2

pub fold_first-last-requires-clause-first : goal.fold_first-last-requires-clause-first
fold_first-last-requires-clause-first c = subst (λ (k : Known). JoinFirst k c.args.entry) (sym (ap (λ (z : Standing). z.known) c.seat.view_is)) c.requires.first

pub returns-clause-folded : goal.returns-clause-folded
returns-clause-folded c = subst (λ (k : Known). Folded c.args.entry k c.fold_first-last.new.place.me.0.known) (ap (λ (z : Standing). z.known) c.seat.view_is) c.fold_first-last.ensures.folded

pub invariant_of-seat : goal.invariant_of-seat
invariant_of-seat c =
    let e = c.fold_first-last.ensures in
    let q = ap (λ (z : Standing). z.field) c.seat.view_is ∙ (c.requires.field ∙ sym (ap (λ (z : Fielded). z.table) c.self.view_is)) in
    let bears = ap (λ (k : Known). k.bears) e.folded.known in (
      e.stays.slots ∙ (c.seat.invariant.0 ∙ sym (ap (λ (z : List Holding). carried z) bears)),
      subst (λ (d : TableId). AreInside d c.fold_first-last.new.place.me.0.known.bears) (sym e.stays.table) (subst (λ (z : List Holding). AreInside c.seat.inside.place.table_id z) (sym bears) c.seat.invariant.1),
      subst (λ (n : ℕ). Settled c.fold_first-last.new.held.items n c.fold_first-last.new.place.me.0.known) (sym (ap (λ (d : TableId). d.slots) (e.stays.table ∙ q) ∙ (c.self.invariant.3 ∙ sym c.self.invariant.0))) e.settled,
      e.room,
      e.last,
      e.stays.live,
    )
