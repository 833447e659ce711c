use Rattle.std.proofs.Common.{◌∙◌, ap, arith}
use Rattle.oss_words.specs.declared.entry.EntryInfo.{EntryInfo}
use Rattle.oss_field.proofs.FoldedLemmas.{has_joined, may_combine, mode_folds, number_held}
use Rattle.oss_field.proofs.folding.join_value.Goals as goal

pub read_left-value-requires-clause-held : goal.read_left-value-requires-clause-held
read_left-value-requires-clause-held c = number_held c.args.cells c.args.entry c.read_number-number.result c.args.place.now.me.0.known c.read_number-number.new.seat.me.0.known c.read_number-number.ensures.reads c.requires.held

pub op_of-op-requires : goal.op_of-op-requires
op_of-op-requires c =
    let m = mode_folds c.args.cells c.args.entry c.args.info c.read_number-number.result c.read_left-value.result c.args.place.now.me.0.known c.read_number-number.new.seat.me.0.known c.read_left-value.new.seat.me.0.known c.read_number-number.ensures.reads c.read_left-value.ensures.reads c.requires.held c.requires.told c.requires.unjoined in
    (m.0, ap (λ (z : EntryInfo). z.mode) c.info_of.ensures ∙ m.1)

pub cell_number-cell-requires : goal.cell_number-cell-requires
cell_number-cell-requires c = let l = c.read_number-number.ensures.reads.inside in omega (arith, l)

pub combine_cell-requires-clause-may : goal.combine_cell-requires-clause-may
combine_cell-requires-clause-may c =
    may_combine c.args.cells c.args.entry c.args.info c.read_number-number.result c.read_left-value.result c.args.place.now.me.0.known c.read_number-number.new.seat.me.0.known c.read_left-value.new.seat.me.0.known c.read_number-number.ensures.reads c.read_left-value.ensures.reads c.requires.held c.requires.told c.requires.unjoined
    c.op_of-op.result c.info_of.result.mode (ap (λ (z : EntryInfo). z.mode) c.info_of.ensures) c.op_of-op.ensures c.cell_number-cell.result c.cell_number-cell.ensures

pub returns-clause-joined : goal.returns-clause-joined
returns-clause-joined c =
    has_joined c.args.cells c.args.entry c.args.info c.read_number-number.result c.read_left-value.result c.args.place.now.me.0.known c.read_number-number.new.seat.me.0.known c.read_left-value.new.seat.me.0.known c.read_number-number.ensures.reads c.read_left-value.ensures.reads c.requires.held c.requires.told c.requires.unjoined
    c.op_of-op.result c.info_of.result.mode (ap (λ (z : EntryInfo). z.mode) c.info_of.ensures) c.op_of-op.ensures c.cell_number-cell.result c.cell_number-cell.ensures c.combine_cell.result c.combine_cell.new.seat.me.0.known c.combine_cell.ensures.combined
