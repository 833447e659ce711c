use Rattle.std.proofs.Common.{◌<◌, length, sym, subst, ℕ, arith}
use Rattle.oss_field.specs.Asks.{IsStored}
use Rattle.oss_field.specs.Steps.{Steps}
use Rattle.oss_field.proofs.ActLemmas.{store_inside, stored_inside, stored_slots}
use Rattle.oss_field.proofs.CellLemmas.{may_store}
use Rattle.oss_field.proofs.cells.store_cell.Goals as goal

pub write_for-requires-clause-inside : goal.write_for-requires-clause-inside
write_for-requires-clause-inside c =
    let i = c.cell_place.ensures in
    let l = store_inside c.args.words.now.table_id c.args.words.now.key.code.value c.args.job.now c.args.cell c.args.seat.now.me.0.known c.args.seat.now.me.0.known c.requires.inside c.args.value c.requires.may in
    omega (arith, i, l)

pub write_for-requires-clause-keeps : goal.write_for-requires-clause-keeps
write_for-requires-clause-keeps c =
    let key = c.args.words.now.key in
    let id = c.args.seat.now.id in
    let v = c.args.seat.now.me.0 in
    let w = c.requires.on.words in
    let s = c.requires.on.slots in
    let l = store_inside c.args.words.now.table_id key.code.value c.args.job.now c.args.cell v.known v.known c.requires.inside c.args.value c.requires.may in
    let small : c.args.cell < length key.code.value.first = omega (arith, w, s, l) in
    subst (λ (i : ℕ). Steps key.code.value key.fuel key.entries id v i (λ x. c.args.value) (λ x l. IsStored key.code.value c.args.job.now c.args.cell c.args.value v.known l)) (sym c.cell_place.ensures)
    (may_store key.code.value key.fuel key.entries id v c.args.job.now c.args.cell small c.args.value c.requires.may)

pub returns-clause-inside : goal.returns-clause-inside
returns-clause-inside c = stored_inside c.args.words.now.table_id c.args.words.now.key.code.value c.args.job.now c.args.cell c.args.seat.now.me.0.known c.write_for.new.seat.me.0.known c.requires.inside c.args.value c.write_for.ensures.told

pub returns-clause-slots : goal.returns-clause-slots
returns-clause-slots c = stored_slots c.args.words.now.key.code.value c.args.job.now c.args.cell c.args.value c.args.seat.now.me.0.known c.write_for.new.seat.me.0.known c.write_for.ensures.told
