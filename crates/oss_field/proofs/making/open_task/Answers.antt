use Rattle.std.proofs.Common.{sym, subst, ℕ, arith, refl, ◌+◌, ◌-◌, ◌%◌, ◌^◌}
use Rattle.oss_field.specs.Layout.{count_word_of}
use Rattle.oss_field.specs.Making.{Opens}
use Rattle.oss_field.specs.Steps.{Steps}
use Rattle.oss_field.proofs.OpenLemmas.{opens, opened_inside, opened_slots}
use Rattle.oss_field.proofs.making.open_task.Goals as goal

pub lower_word-requires-clause-inside : goal.lower_word-requires-clause-inside
lower_word-requires-clause-inside c =
    let i = c.count_place.ensures in
    let w = c.requires.on.words in
    let m = c.requires.cells in
    let l = c.requires.inside in
    omega (arith, i, w, m, l)

pub lower_word-requires-clause-keeps : goal.lower_word-requires-clause-keeps
lower_word-requires-clause-keeps c =
    let key = c.args.words.now.key in
    let id = c.args.seat.now.id in
    let v = c.args.seat.now.me.0 in
    subst (λ (i : ℕ). Steps key.code.value key.fuel key.entries id v i (λ x. (x + (2 ^ 64 - 1)) % 2 ^ 64) (λ x l. Opens key.code.value key.entries c.args.job.now c.args.task x v.known l)) (sym c.count_place.ensures)
    (subst (λ (m : ℕ). Steps key.code.value key.fuel key.entries id v (count_word_of m c.args.task) (λ x. (x + (2 ^ 64 - 1)) % 2 ^ 64) (λ x l. Opens key.code.value key.entries c.args.job.now c.args.task x v.known l)) (sym c.requires.cells)
    (opens key.code.value key.fuel key.entries id v c.args.job.now c.args.task c.requires.inside c.requires.may))

pub returns-clause-opened : goal.returns-clause-opened
returns-clause-opened c = (c.lower_word.result, c.lower_word.ensures.told.opened, refl)

pub returns-clause-held : goal.returns-clause-held
returns-clause-held c = opened_inside c.args.words.now.table_id c.args.words.now.key.code.value c.args.words.now.key.entries c.args.job.now c.args.task c.lower_word.result c.args.seat.now.me.0.known c.lower_word.new.seat.me.0.known c.requires.on.slots c.requires.held c.lower_word.ensures.told

pub returns-clause-slots : goal.returns-clause-slots
returns-clause-slots c = opened_slots c.args.words.now.key.code.value c.args.job.now c.args.task c.lower_word.result c.args.seat.now.me.0.known c.lower_word.new.seat.me.0.known c.lower_word.ensures.told.opened
