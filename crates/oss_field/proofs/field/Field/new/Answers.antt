use Rattle.std.proofs.Common.{◌≡◌, sym, subst, ◌∙◌, ap, ℕ, ◌<◌, List, [], length, arith}
use Rattle.oss_code.specs.declared.code.CodeParts.{CodeParts}
use Rattle.oss_field.specs.declared.key.FieldKey.{FieldKey}
use Rattle.atomic_table.specs.Table.{Me}
use Rattle.oss_field.specs.declared.view.SeatView.{SeatView}
use Rattle.oss_field.specs.Asks.{AreInside}
use Rattle.oss_field.specs.Known.{first_known}
use Rattle.oss_field.specs.Standing.{at_home, carried, words_at_start, slots_at_start}
use Rattle.oss_field.specs.Spent.{Rules}
use Rattle.oss_field.specs.Table.{Slot}
use Rattle.oss_field.proofs.DeliverLemmas.{first_settled}
use Rattle.oss_field.proofs.SpentLemmas.{first_rules}
use Rattle.oss_field.proofs.StartLemmas.{begins, slots_length}
use Rattle.oss_field.proofs.field.Field.new.Goals as goal

pub open_table-requires : goal.open_table-requires
open_table-requires c = record {
  rule =
      subst (λ (z : CodeParts). Rules z c.args.fuel c.args.entries c.as_slice-2.result.now (at_home c.in_ok-slots.slots.items) _) (sym c.of.ensures)
      (subst (λ (z : List Slot). Rules c.args.code.now c.args.fuel c.args.entries c.as_slice-2.result.now (at_home z) _) (sym c.in_ok-slots.ensures)
      (subst (λ (z : List ℕ). Rules c.args.code.now c.args.fuel c.args.entries z (at_home (slots_at_start c.args.job c.args.entries)) _)
      (sym (c.as_slice-2.ensures.value ∙ (c.in-Ok.ensures ∙ ap (λ (z : List ℕ). words_at_start z c.args.entries) (c.as_slice.ensures ∙ c.first.ensures))))
      (first_rules c.args.code.now c.args.fuel c.args.entries (words_at_start c.args.code.now.first c.args.entries) (at_home (slots_at_start c.args.job c.args.entries))
      (begins c.args.code.now c.args.fuel c.args.entries c.requires.entries.0 c.requires.entries.1 c.args.job c.main_is_set.ensures c.requires.main))));
}

pub invariant_of-field : goal.invariant_of-field
invariant_of-field c =
    let t = c.in_ok-table.ensures.table in
    let rule = begins c.args.code.now c.args.fuel c.args.entries c.requires.entries.0 c.requires.entries.1 c.args.job c.main_is_set.ensures c.requires.main in
    let key : c.in_ok-table.table.shared.key.code.value ≡ c.args.code.now = ap (λ (z : FieldKey). z.code.value) t.2 ∙ c.of.ensures in
    let cells : c.len.result ≡ length c.args.code.now.first = c.len.ensures ∙ ap (λ (z : List ℕ). length z) c.first-2.ensures in
    let ws = ap (λ (z : List ℕ). length z) (c.as_slice-2.ensures.value ∙ (c.in-Ok.ensures ∙ ap (λ (z : List ℕ). words_at_start z c.args.entries) (c.as_slice.ensures ∙ c.first.ensures))) in
    let ss = ap (λ (z : List Slot). length z) c.in_ok-slots.ensures in
    let e0 = c.requires.entries.0 in
    let e1 = c.requires.entries.1 in
    let few = c.requires.cells in
    let w = t.0 in
    let s = t.1 in
    let size = rule.size in
    let slots : length (slots_at_start c.args.job c.args.entries) ≡ c.args.entries = slots_length c.args.job c.args.entries e0 in (
      ap (λ (z : FieldKey). z.entries) t.2,
      cells ∙ ap (λ (z : CodeParts). length z.first) (sym key),
      omega (arith, w, ws, size, cells),
      omega (arith, s, ss, slots),
      e0,
      e1,
      omega (arith, cells, few),
    )

pub invariant_of-result : goal.invariant_of-result
invariant_of-result c =
    let me : c.in_ok-table.place.me ≡ (record { known = first_known }, []) = c.in_ok-table.ensures.seat.2 in (
      ap (λ (x : Me Slot SeatView). x.1) me ∙ ap (λ (x : Me Slot SeatView). carried x.0.known.bears) (sym me),
      subst (λ (x : Me Slot SeatView). AreInside c.in_ok-table.place.table_id x.0.known.bears) (sym me) (λ h a. elim a [ ]),
      first_settled c.in_ok-held.held.items c.in_ok-table.place.table_id.slots c.in_ok-table.place.me.0.known c.in_ok-held.ensures.0 (ap (λ (x : Me Slot SeatView). x.0.known) me),
      c.in_ok-held.ensures.1,
      sym (ap (λ (x : Me Slot SeatView). x.0.known.last) me),
      subst (λ (x : Me Slot SeatView). 0 < x.0.known.words.parts) (sym me) (let all : 0 < 65537 = omega arith in all),
    )
