use Rattle.std.proofs.Common.{refl, ◌∙◌, ap}
use Rattle.std.specs.Prelude.{Some}
use Rattle.oss_words.specs.declared.entry.EntryInfo.{EntryInfo}
use Rattle.oss_field.specs.Masks.{child_mask}
use Rattle.oss_field.proofs.FirstLinkLemmas.{info_written}
use Rattle.oss_field.proofs.LinkedLemmas.{below_linked, below_ready, below_settled, below_told, clear_fresh, fresh_read, may_head, parent_hangs, parent_inside}
use Rattle.oss_field.proofs.hanging.link_below.Goals as goal

pub read_info-word-requires-clause-inside : goal.read_info-word-requires-clause-inside
read_info-word-requires-clause-inside c = parent_inside c.args.words.now.key.code.value c.args._job.now c.args.entry c.args.info.now c.args.cell c.args.place.now.me.0.known c.args.words.now.table_id c.args.words.now.key.entries c.requires.on.slots c.requires.held c.requires.may

pub read_info-word-requires-clause-hangs : goal.read_info-word-requires-clause-hangs
read_info-word-requires-clause-hangs c = parent_hangs c.args.words.now.key.code.value c.args._job.now c.args.entry c.args.info.now c.args.cell c.args.place.now.me.0.known c.requires.may

pub fill_info-requires-clause-fresh : goal.fill_info-requires-clause-fresh
fill_info-requires-clause-fresh c = fresh_read c.args.cells c.args.info.now.parent c.read_info-word.result c.args.info.now.task c.args.entry c.args.place.now.me.0.known c.read_info-word.new.seat.me.0.known c.read_info-word.ensures.informs.known c.requires.may.fresh

pub fill_cell_of-requires-clause-fresh : goal.fill_cell_of-requires-clause-fresh
fill_cell_of-requires-clause-fresh c = (
  Some c.args.info.now,
  info_written c.args.cells c.args.entry c.args.info.now.task c.args.info.now c.word_of_info.result c.read_info-word.new.seat.me.0.known c.fill_info.new.seat.me.0.known c.requires.fits c.word_of_info.ensures
      (fresh_read c.args.cells c.args.info.now.parent c.read_info-word.result c.args.info.now.task c.args.entry c.args.place.now.me.0.known c.read_info-word.new.seat.me.0.known c.read_info-word.ensures.informs.known c.requires.may.fresh) c.fill_info.ensures.known,
)

pub fill_clear-requires-clause-fresh : goal.fill_clear-requires-clause-fresh
fill_clear-requires-clause-fresh c = (
  Some c.args.info.now,
  c.args.cell,
  clear_fresh c.args.words.now.key.code.value c.args._job.now c.args.entry c.args.info.now c.args.cell c.args.place.now.me.0.known c.args.cells c.args.info.now.parent c.read_info-word.result c.word_of_info.result c.read_info-word.new.seat.me.0.known c.fill_info.new.seat.me.0.known c.fill_cell_of.new.seat.me.0.known
      c.requires.settled.whole c.requires.fits c.word_of_info.ensures c.read_info-word.ensures.informs.known c.fill_info.ensures.known c.fill_cell_of.ensures.known c.requires.may,
)

pub set_child-found-requires-clause-inside : goal.set_child-found-requires-clause-inside
set_child-found-requires-clause-inside c = parent_inside c.args.words.now.key.code.value c.args._job.now c.args.entry c.args.info.now c.args.cell c.args.place.now.me.0.known c.args.words.now.table_id c.args.words.now.key.entries c.requires.on.slots c.requires.held c.requires.may

pub set_child-found-requires-clause-may : goal.set_child-found-requires-clause-may
set_child-found-requires-clause-may c = may_head c.args.words.now.key.code.value c.args._job.now c.args.entry c.args.info.now c.args.cell c.args.place.now.me.0.known c.args.cells c.args.info.now.parent c.read_info-word.result c.word_of_info.result c.read_info-word.new.seat.me.0.known c.fill_info.new.seat.me.0.known c.fill_cell_of.new.seat.me.0.known
    c.requires.settled.whole c.requires.fits c.word_of_info.ensures c.read_info-word.ensures.informs.known c.fill_info.ensures.known c.fill_cell_of.ensures.known c.fill_clear.new.seat.me.0.known c.fill_clear.ensures.known refl c.requires.may

pub set_child-found-requires-clause-mask : goal.set_child-found-requires-clause-mask
set_child-found-requires-clause-mask c = c.mask_of_child-by.ensures ∙ ap (λ (z : EntryInfo). child_mask c.args.entry z.mode c.args.info.now.mode) c.info_of.ensures

pub hold_sent-requires-clause-told : goal.hold_sent-requires-clause-told
hold_sent-requires-clause-told c = below_told c.args.words.now.key.code.value c.args._job.now c.args.entry c.args.info.now c.args.cell c.args.place.now.me.0.known c.args.cells c.args.info.now.parent c.read_info-word.result c.word_of_info.result c.read_info-word.new.seat.me.0.known c.fill_info.new.seat.me.0.known c.fill_cell_of.new.seat.me.0.known
    c.requires.settled.whole c.requires.fits c.word_of_info.ensures c.read_info-word.ensures.informs.known c.fill_info.ensures.known c.fill_cell_of.ensures.known c.fill_clear.new.seat.me.0.known c.fill_clear.ensures.known c.args.words.now.key.entries c.mask_of_child-by.result c.set_child-found.result c.set_child-found.new.seat.me.0.known c.set_child-found.ensures.linked

pub hold_sent-requires-clause-ready : goal.hold_sent-requires-clause-ready
hold_sent-requires-clause-ready c = below_ready c.args.words.now.key.code.value c.args._job.now c.args.entry c.args.info.now c.args.cell c.args.place.now.me.0.known c.args.cells c.args.info.now.parent c.read_info-word.result c.word_of_info.result c.read_info-word.new.seat.me.0.known c.fill_info.new.seat.me.0.known c.fill_cell_of.new.seat.me.0.known
    c.requires.settled.whole c.requires.fits c.word_of_info.ensures c.read_info-word.ensures.informs.known c.fill_info.ensures.known c.fill_cell_of.ensures.known c.fill_clear.new.seat.me.0.known c.fill_clear.ensures.known c.args.words.now.key.entries c.mask_of_child-by.result c.set_child-found.result c.set_child-found.new.seat.me.0.known c.set_child-found.ensures.linked c.args.held.now.items c.requires.settled.ready c.requires.may.empty

pub returns-clause-settled : goal.returns-clause-settled
returns-clause-settled c = below_settled c.args.words.now.key.code.value c.args._job.now c.args.entry c.args.info.now c.args.cell c.args.place.now.me.0.known c.args.cells c.args.info.now.parent c.read_info-word.result c.word_of_info.result c.read_info-word.new.seat.me.0.known c.fill_info.new.seat.me.0.known c.fill_cell_of.new.seat.me.0.known
    c.requires.settled.whole c.requires.fits c.word_of_info.ensures c.read_info-word.ensures.informs.known c.fill_info.ensures.known c.fill_cell_of.ensures.known c.fill_clear.new.seat.me.0.known c.fill_clear.ensures.known c.args.words.now.key.entries c.mask_of_child-by.result c.set_child-found.result c.set_child-found.new.seat.me.0.known c.set_child-found.ensures.linked
    c.hold_sent.new.place.me.0.known c.hold_sent.ensures.learns c.args.held.now.items c.hold_sent.new.held.items c.requires.settled c.read_info-word.ensures.informs.again c.hold_sent.ensures.ready

pub returns-clause-linked : goal.returns-clause-linked
returns-clause-linked c = below_linked c.args.words.now.key.code.value c.args._job.now c.args.entry c.args.info.now c.args.cell c.args.place.now.me.0.known c.args.cells c.args.info.now.parent c.read_info-word.result c.word_of_info.result c.read_info-word.new.seat.me.0.known c.fill_info.new.seat.me.0.known c.fill_cell_of.new.seat.me.0.known
    c.requires.settled.whole c.requires.fits c.word_of_info.ensures c.read_info-word.ensures.informs.known c.fill_info.ensures.known c.fill_cell_of.ensures.known c.fill_clear.new.seat.me.0.known c.fill_clear.ensures.known c.args.words.now.key.entries c.mask_of_child-by.result c.set_child-found.result c.set_child-found.new.seat.me.0.known c.set_child-found.ensures.linked
    c.hold_sent.new.place.me.0.known c.hold_sent.ensures.learns (c.mask_of_child-by.ensures ∙ ap (λ (z : EntryInfo). child_mask c.args.entry z.mode c.args.info.now.mode) c.info_of.ensures)
