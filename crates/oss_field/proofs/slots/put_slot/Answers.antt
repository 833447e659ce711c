use Rattle.std.proofs.Common.{◌≡◌, sym, subst, ◌∙◌, ap, ℕ, ◌<◌, arith, length}
use Rattle.std.specs.Prelude.{box_value}
use Rattle.atomic_table.specs.Table.{State, Me, Allows, rest}
use Rattle.oss_jobs.specs.declared.job.Job.{Job}
use Rattle.oss_jobs.specs.Jobs.{task_of}
use Rattle.oss_field.specs.declared.view.SeatView.{SeatView}
use Rattle.oss_field.specs.Layout.{body_word_of}
use Rattle.oss_field.specs.Table.{Slot, Stands}
use Rattle.oss_field.specs.Taking.{IsPut, Puts}
use Rattle.oss_field.proofs.ActLemmas.{put_inside, put_slots, put_number}
use Rattle.oss_field.proofs.SlotLemmas.{puts_slot}
use Rattle.oss_field.proofs.slots.put_slot.Goals as goal

pub write_last-requires-clause-inside : goal.write_last-requires-clause-inside
write_last-requires-clause-inside c =
    let i = c.body_place.ensures in
    let w = c.requires.on.words in
    let m = c.requires.cells in
    let s = c.requires.on.slots in
    let t : c.task-task.result ≡ c.requires.may.holding.number = c.task-task.ensures.kept ∙ (ap (λ (j : Job). task_of j) c.deref.ensures ∙ c.requires.may.given.is.task) in
    let l = put_number c.args.words.now.table_id c.args.words.now.key.code.value (box_value c.args.job) c.args.seat.now.me.0.known c.requires.may c.requires.held in
    omega (arith, i, w, m, s, t, l)

pub write_last-requires-clause-keeps : goal.write_last-requires-clause-keeps
write_last-requires-clause-keeps c =
    let key = c.args.words.now.key in
    let slots : ℕ = c.args.words.now.table_id.slots in
    let id : ℕ = c.exchange.new.seat.id in
    let s = c.requires.on.slots in
    let task : ℕ = c.task-task.result in
    let t : task ≡ c.requires.may.holding.number = c.task-task.ensures.kept ∙ (ap (λ (j : Job). task_of j) c.deref.ensures ∙ c.requires.may.given.is.task) in
    let l = put_number c.args.words.now.table_id key.code.value (box_value c.args.job) c.args.seat.now.me.0.known c.requires.may c.requires.held in
    let low : task < key.entries = omega (arith, s, t, l) in
    let one = puts_slot key.code.value key.fuel key.entries slots id c.args.seat.now.me.0 (rest c.args.seat.now.me.1) c.args.job c.requires.may task t low in
    subst (λ (i : ℕ). Allows (λ (z : State Slot SeatView). Stands key.code.value key.fuel key.entries z.words z.homes z.views) slots id c.exchange.new.seat.me i (λ _. 1) (λ _ w. Puts key.code.value c.args.cells c.exchange.new.seat.me w)) (sym c.body_place.ensures)
    (subst (λ (m : ℕ). Allows (λ (z : State Slot SeatView). Stands key.code.value key.fuel key.entries z.words z.homes z.views) slots id c.exchange.new.seat.me (body_word_of m task) (λ _. 1) (λ _ w. Puts key.code.value m c.exchange.new.seat.me w)) (sym c.requires.cells)
    (subst (λ (me : Me Slot SeatView). Allows (λ (z : State Slot SeatView). Stands key.code.value key.fuel key.entries z.words z.homes z.views) slots id me (body_word_of (length key.code.value.first) task) (λ _. 1) (λ _ w. Puts key.code.value (length key.code.value.first) me w)) (sym c.exchange.ensures.3) one))

pub returns-clause-known : goal.returns-clause-known
returns-clause-known c =
    let r = c.write_last.ensures.told c.task-task.result c.args.job (rest c.args.seat.now.me.1) (ap (λ (x : Me Slot SeatView). x.1) c.exchange.ensures.3) in
    subst (λ (x : Me Slot SeatView). IsPut c.args.words.now.key.code.value (box_value c.args.job) c.args.cells x.0.known c.write_last.new.seat.me.0.known) c.exchange.ensures.3 r.0

pub returns-clause-slots : goal.returns-clause-slots
returns-clause-slots c =
    let r = c.write_last.ensures.told c.task-task.result c.args.job (rest c.args.seat.now.me.1) (ap (λ (x : Me Slot SeatView). x.1) c.exchange.ensures.3) in
    let p = subst (λ (x : Me Slot SeatView). IsPut c.args.words.now.key.code.value (box_value c.args.job) c.args.cells x.0.known c.write_last.new.seat.me.0.known) c.exchange.ensures.3 r.0 in
    r.1 ∙ put_slots c.args.words.now.key.code.value (box_value c.args.job) c.args.cells c.args.seat.now.me.0.known c.write_last.new.seat.me.0.known p c.args.seat.now.me.1 c.requires.slots

pub returns-clause-held : goal.returns-clause-held
returns-clause-held c =
    let r = c.write_last.ensures.told c.task-task.result c.args.job (rest c.args.seat.now.me.1) (ap (λ (x : Me Slot SeatView). x.1) c.exchange.ensures.3) in
    let p = subst (λ (x : Me Slot SeatView). IsPut c.args.words.now.key.code.value (box_value c.args.job) c.args.cells x.0.known c.write_last.new.seat.me.0.known) c.exchange.ensures.3 r.0 in
    put_inside c.args.words.now.key.code.value (box_value c.args.job) c.args.cells c.args.seat.now.me.0.known c.write_last.new.seat.me.0.known p c.args.words.now.table_id c.requires.held
