use Rattle.std.proofs.Common.{◌≡◌, sym, subst, ◌∙◌, ap, ℕ, ◌∷◌, List, length}
use Rattle.std.specs.Prelude.{Some, box_value}
use Rattle.atomic_table.specs.Table.{State, Me, Allows, rest}
use Rattle.oss_jobs.specs.declared.job.Job.{Job}
use Rattle.oss_jobs.specs.Jobs.{task_of}
use Rattle.oss_field.specs.declared.view.SeatView.{SeatView}
use Rattle.oss_field.specs.Layout.{body_word_of}
use Rattle.oss_field.specs.Making.{HoldsNew, MayPutAt, PutsNew}
use Rattle.oss_field.specs.Table.{Slot, Stands}
use Rattle.oss_field.proofs.StageLemmas.{going_on, holds_slot, put_whole, puts_new}
use Rattle.oss_field.proofs.making.put_new.Goals as goal

pub hold_word-requires-clause-keeps : goal.hold_word-requires-clause-keeps
hold_word-requires-clause-keeps c =
    let key = c.args.words.now.key in
    let slots : ℕ = c.args.words.now.table_id.slots in
    let id : ℕ = c.args.seat.now.id in
    let me = c.args.seat.now.me in
    let m : ℕ = length key.code.value.first in
    let job : Job = box_value c.args.job in
    let t : c.task-task.result ≡ task_of (box_value c.args.job) = c.task-task.ensures.kept ∙ ap (λ (j : Job). task_of j) c.deref.ensures in
    let place : c.body_place.result ≡ body_word_of (length key.code.value.first) (task_of (box_value c.args.job)) =
    c.body_place.ensures ∙ (ap (λ (z : ℕ). body_word_of z c.task-task.result) c.requires.cells ∙ ap (λ (z : ℕ). body_word_of (length key.code.value.first) z) t) in
    subst (λ (i : ℕ). Allows (λ (z : State Slot SeatView). Stands key.code.value key.fuel key.entries z.words z.homes z.views) slots id me i (λ _. 2) (λ _ w. HoldsNew key.code.value c.args.cells c.deref-2.result.now me w)) (sym place)
    (subst (λ (z : ℕ). Allows (λ (z : State Slot SeatView). Stands key.code.value key.fuel key.entries z.words z.homes z.views) slots id me (body_word_of m (task_of job)) (λ _. 2) (λ _ w. HoldsNew key.code.value z c.deref-2.result.now me w)) (sym c.requires.cells)
    (subst (λ (j : Job). Allows (λ (z : State Slot SeatView). Stands key.code.value key.fuel key.entries z.words z.homes z.views) slots id me (body_word_of m (task_of job)) (λ _. 2) (λ _ w. HoldsNew key.code.value m j me w)) (sym c.deref-2.ensures)
    (holds_slot key.code.value key.fuel key.entries slots id me.0 me.1 job c.requires.may c.requires.inside)))

pub write_last-requires-clause-keeps : goal.write_last-requires-clause-keeps
write_last-requires-clause-keeps c =
    let key = c.args.words.now.key in
    let slots : ℕ = c.args.words.now.table_id.slots in
    let id : ℕ = c.exchange.new.seat.id in
    let m : ℕ = length key.code.value.first in
    let job : Job = box_value c.args.job in
    let v = c.hold_word.new.seat.me.0 in
    let others : List (ℕ × Slot) = rest c.hold_word.new.seat.me.1 in
    let t : c.task-task.result ≡ task_of (box_value c.args.job) = c.task-task.ensures.kept ∙ ap (λ (j : Job). task_of j) c.deref.ensures in
    let told : HoldsNew key.code.value c.args.cells (box_value c.args.job) c.args.seat.now.me c.hold_word.new.seat.me = subst (λ (j : Job). HoldsNew key.code.value c.args.cells j c.args.seat.now.me c.hold_word.new.seat.me) c.deref-2.ensures c.hold_word.ensures.told in
    let may : MayPutAt 1 key.code.value (box_value c.args.job) c.hold_word.new.seat.me.0.known = going_on key.code.value (box_value c.args.job) c.args.seat.now.me.0.known c.hold_word.new.seat.me.0.known (body_word_of c.args.cells (task_of (box_value c.args.job))) 2 told.0 told.1 in
    let one = puts_new key.code.value key.fuel key.entries slots id v others c.args.job may c.requires.inside in
    let same : c.exchange.new.seat.me ≡ (c.hold_word.new.seat.me.0, (task_of (box_value c.args.job), Some c.args.job) ∷ rest c.hold_word.new.seat.me.1) =
    c.exchange.ensures.3 ∙ ap (λ (z : ℕ). (c.hold_word.new.seat.me.0, (z, Some c.args.job) ∷ rest c.hold_word.new.seat.me.1)) t in
    let place : c.body_place-2.result ≡ body_word_of (length key.code.value.first) (task_of (box_value c.args.job)) =
    c.body_place-2.ensures ∙ (ap (λ (z : ℕ). body_word_of z c.task-task.result) c.requires.cells ∙ ap (λ (z : ℕ). body_word_of (length key.code.value.first) z) t) in
    subst (λ (i : ℕ). Allows (λ (z : State Slot SeatView). Stands key.code.value key.fuel key.entries z.words z.homes z.views) slots id c.exchange.new.seat.me i (λ _. 1) (λ _ w. PutsNew key.code.value c.args.cells c.exchange.new.seat.me w)) (sym place)
    (subst (λ (y : ℕ). Allows (λ (z : State Slot SeatView). Stands key.code.value key.fuel key.entries z.words z.homes z.views) slots id c.exchange.new.seat.me (body_word_of m (task_of job)) (λ _. 1) (λ _ w. PutsNew key.code.value y c.exchange.new.seat.me w)) (sym c.requires.cells)
    (subst (λ (me : Me Slot SeatView). Allows (λ (z : State Slot SeatView). Stands key.code.value key.fuel key.entries z.words z.homes z.views) slots id me (body_word_of m (task_of job)) (λ _. 1) (λ _ w. PutsNew key.code.value m me w)) (sym same) one))

pub returns-clause-put : goal.returns-clause-put
returns-clause-put c =
    let code = c.args.words.now.key.code.value in
    let job : Job = box_value c.args.job in
    let t : c.task-task.result ≡ task_of (box_value c.args.job) = c.task-task.ensures.kept ∙ ap (λ (j : Job). task_of j) c.deref.ensures in
    let told : HoldsNew code c.args.cells (box_value c.args.job) c.args.seat.now.me c.hold_word.new.seat.me = subst (λ (j : Job). HoldsNew code c.args.cells j c.args.seat.now.me c.hold_word.new.seat.me) c.deref-2.ensures c.hold_word.ensures.told in
    let same : c.exchange.new.seat.me ≡ (c.hold_word.new.seat.me.0, (task_of (box_value c.args.job), Some c.args.job) ∷ rest c.hold_word.new.seat.me.1) =
    c.exchange.ensures.3 ∙ ap (λ (z : ℕ). (c.hold_word.new.seat.me.0, (z, Some c.args.job) ∷ rest c.hold_word.new.seat.me.1)) t in
    let r = c.write_last.ensures.told c.args.job (rest c.hold_word.new.seat.me.1) (ap (λ (x : Me Slot SeatView). x.1) same) in
    let known : c.exchange.new.seat.me.0.known ≡ c.hold_word.new.seat.me.0.known = ap (λ (x : Me Slot SeatView). x.0.known) same in
    put_whole code job c.args.cells c.args.seat.now.me.0.known c.exchange.new.seat.me.0.known c.write_last.new.seat.me.0.known told.0 (known ∙ told.1) r.0 r.1
