use Rattle.std.proofs.Common.{sym, subst, ℕ, arith}
use Rattle.oss_field.specs.Layout.{count_word_of}
use Rattle.oss_field.specs.Making.{HasBegun}
use Rattle.oss_field.specs.Steps.{Steps}
use Rattle.oss_field.proofs.MakingLemmas.{begins, begun_inside, begun_slots}
use Rattle.oss_field.proofs.making.fill_count.Goals as goal

pub fill_word-requires-clause-inside : goal.fill_word-requires-clause-inside
fill_word-requires-clause-inside c =
    let i = c.count_place.ensures in
    let w = c.requires.on.words in
    let m = c.requires.cells in
    let l = c.requires.may.inside in
    omega (arith, i, w, m, l)

pub fill_word-requires-clause-keeps : goal.fill_word-requires-clause-keeps
fill_word-requires-clause-keeps c =
    let key = c.args.words.now.key in
    let id = c.args.seat.now.id in
    let v = c.args.seat.now.me.0 in
    subst (λ (i : ℕ). Steps key.code.value key.fuel key.entries id v i (λ x. c.args.count) (λ x l. HasBegun key.code.value key.entries c.args.job.now c.args.task c.args.count v.known l)) (sym c.count_place.ensures)
    (subst (λ (m : ℕ). Steps key.code.value key.fuel key.entries id v (count_word_of m c.args.task) (λ x. c.args.count) (λ x l. HasBegun key.code.value key.entries c.args.job.now c.args.task c.args.count v.known l)) (sym c.requires.cells)
    (begins key.code.value key.fuel key.entries id v c.args.job.now c.args.task c.args.count c.requires.may))

pub returns-clause-held : goal.returns-clause-held
returns-clause-held c = begun_inside c.args.words.now.key.code.value c.args.words.now.key.entries c.args.job.now c.args.task c.args.count c.args.seat.now.me.0.known c.fill_word.new.seat.me.0.known c.fill_word.ensures.told c.args.words.now.table_id c.requires.held

pub returns-clause-slots : goal.returns-clause-slots
returns-clause-slots c = begun_slots c.args.words.now.key.code.value c.args.words.now.key.entries c.args.job.now c.args.task c.args.count c.args.seat.now.me.0.known c.fill_word.new.seat.me.0.known c.fill_word.ensures.told
