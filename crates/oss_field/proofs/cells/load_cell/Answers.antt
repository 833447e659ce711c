use Rattle.std.proofs.Common.{◌<◌, length, sym, subst, ℕ, arith}
use Rattle.oss_field.specs.Asks.{IsLoaded}
use Rattle.oss_field.specs.Steps.{Steps}
use Rattle.oss_field.proofs.ActLemmas.{load_inside, loaded_inside, loaded_slots}
use Rattle.oss_field.proofs.CellLemmas.{may_load}
use Rattle.oss_field.proofs.cells.load_cell.Goals as goal

pub read_for-requires-clause-inside : goal.read_for-requires-clause-inside
read_for-requires-clause-inside c =
    let i = c.cell_place.ensures in
    let l = load_inside c.args.words.now.table_id c.args.words.now.key.code.value c.args.job.now c.args.cell c.args.seat.now.me.0.known c.args.seat.now.me.0.known c.requires.inside c.requires.may in
    omega (arith, i, l)

pub read_for-requires-clause-keeps : goal.read_for-requires-clause-keeps
read_for-requires-clause-keeps c =
    let key = c.args.words.now.key in
    let id = c.args.seat.now.id in
    let v = c.args.seat.now.me.0 in
    let w = c.requires.on.words in
    let s = c.requires.on.slots in
    let l = load_inside c.args.words.now.table_id key.code.value c.args.job.now c.args.cell v.known v.known c.requires.inside c.requires.may in
    let small : c.args.cell < length key.code.value.first = omega (arith, w, s, l) in
    subst (λ (i : ℕ). Steps key.code.value key.fuel key.entries id v i (λ x. x) (λ x l. IsLoaded key.code.value c.args.job.now c.args.cell x v.known l)) (sym c.cell_place.ensures)
    (may_load key.code.value key.fuel key.entries id v c.args.job.now c.args.cell small c.requires.may)

pub returns-clause-inside : goal.returns-clause-inside
returns-clause-inside c = loaded_inside c.args.words.now.table_id c.args.words.now.key.code.value c.args.job.now c.args.cell c.args.seat.now.me.0.known c.read_for.new.seat.me.0.known c.requires.inside c.read_for.result c.read_for.ensures.told

pub returns-clause-slots : goal.returns-clause-slots
returns-clause-slots c = loaded_slots c.args.words.now.key.code.value c.args.job.now c.args.cell c.read_for.result c.args.seat.now.me.0.known c.read_for.new.seat.me.0.known c.read_for.ensures.told
