use Rattle.std.proofs.Common.{sym, subst, ◌∙◌, ap, ℕ, arith, List, ◌∷◌}
use Rattle.std.specs.Prelude.{Some, ◌==◌}
use prog.Atomic.{either}
use Rattle.atomic_table.specs.Table.{State, Allows, rest}
use Rattle.oss_field.specs.declared.view.SeatView.{SeatView}
use Rattle.oss_field.specs.Layout.{body_word_of}
use Rattle.oss_field.specs.Table.{Slot, Stands}
use Rattle.oss_field.specs.Taking.{Takes}
use Rattle.oss_field.proofs.SlotLemmas.{takes_slot}
use Rattle.oss_field.proofs.slots.take_slot.Goals as goal

pub exchange_word-found-requires-clause-inside : goal.exchange_word-found-requires-clause-inside
exchange_word-found-requires-clause-inside c = let i = c.body_place.ensures in let w = c.requires.on.words in let m = c.requires.cells in let l = c.requires.inside in omega (arith, i, w, m, l)

pub exchange_word-found-requires-clause-keeps : goal.exchange_word-found-requires-clause-keeps
exchange_word-found-requires-clause-keeps c =
    let key = c.args.words.now.key in
    let id = c.args.seat.now.id in
    let me = c.args.seat.now.me in
    let slots = c.args.words.now.table_id.slots in
    let t = c.args.task in
    subst (λ (i : ℕ). Allows (λ (z : State Slot SeatView). Stands key.code.value key.fuel key.entries z.words z.homes z.views) slots id me i (λ n. either (n == 1) 2 n) (λ n w. Takes key.code.value key.fuel key.entries c.args.cells t n me w)) (sym c.body_place.ensures)
    (subst (λ (m : ℕ). Allows (λ (z : State Slot SeatView). Stands key.code.value key.fuel key.entries z.words z.homes z.views) slots id me (body_word_of m t) (λ n. either (n == 1) 2 n) (λ n w. Takes key.code.value key.fuel key.entries m t n me w)) (sym c.requires.cells)
    (takes_slot key.code.value key.fuel key.entries slots id me.0 me.1 t c.requires.inside c.requires.ready))

pub exchange-requires : goal.exchange-requires
exchange-requires c =
    let k = c.exchange_word-found.ensures.told.0 c.if-found-eq1.true in
    (c.exchange_word-found.ensures.same.0 ∙ c.requires.on.table, (Some k.0, k.5 ∙ ap (λ (r : List (ℕ × Slot)). (c.args.task, Some k.0) ∷ r) (sym (ap rest k.5))))
