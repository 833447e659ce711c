use Rattle.std.proofs.Common.{◌∙◌, ap}
use Rattle.std.specs.Prelude.{Some}
use Rattle.oss_words.specs.declared.entry.EntryInfo.{EntryInfo}
use Rattle.oss_field.specs.Masks.{next_mask}
use Rattle.oss_field.proofs.FirstLinkLemmas.{info_written}
use Rattle.oss_field.proofs.LinkedLemmas.{behind_linked, behind_ready, behind_settled, behind_told, fresh_read, last_hangs, last_inside, may_follow}
use Rattle.oss_field.proofs.hanging.link_behind.Goals as goal

pub read_info-word-requires-clause-inside : goal.read_info-word-requires-clause-inside
read_info-word-requires-clause-inside c = last_inside c.args.words.now.key.code.value c.args._job.now c.args.entry c.args.info.now c.args.cell c.args.place.now.me.0.known c.args.words.now.table_id c.args.words.now.key.entries c.requires.on.slots c.requires.held c.args.last c.requires.may

pub read_info-word-requires-clause-hangs : goal.read_info-word-requires-clause-hangs
read_info-word-requires-clause-hangs c = last_hangs c.args.words.now.key.code.value c.args._job.now c.args.entry c.args.info.now c.args.cell c.args.place.now.me.0.known c.args.last c.requires.may

pub fill_info-requires-clause-fresh : goal.fill_info-requires-clause-fresh
fill_info-requires-clause-fresh c = fresh_read c.args.cells c.args.last c.read_info-word.result c.args.info.now.task c.args.entry c.args.place.now.me.0.known c.read_info-word.new.seat.me.0.known c.read_info-word.ensures.informs.known c.requires.may.fresh

pub fill_cell_of-requires-clause-fresh : goal.fill_cell_of-requires-clause-fresh
fill_cell_of-requires-clause-fresh c = (
  Some c.args.info.now,
  info_written c.args.cells c.args.entry c.args.info.now.task c.args.info.now c.word_of_info.result c.read_info-word.new.seat.me.0.known c.fill_info.new.seat.me.0.known c.requires.fits c.word_of_info.ensures
      (fresh_read c.args.cells c.args.last c.read_info-word.result c.args.info.now.task c.args.entry c.args.place.now.me.0.known c.read_info-word.new.seat.me.0.known c.read_info-word.ensures.informs.known c.requires.may.fresh) c.fill_info.ensures.known,
)

pub set_next-found-requires-clause-inside : goal.set_next-found-requires-clause-inside
set_next-found-requires-clause-inside c = last_inside c.args.words.now.key.code.value c.args._job.now c.args.entry c.args.info.now c.args.cell c.args.place.now.me.0.known c.args.words.now.table_id c.args.words.now.key.entries c.requires.on.slots c.requires.held c.args.last c.requires.may

pub set_next-found-requires-clause-may : goal.set_next-found-requires-clause-may
set_next-found-requires-clause-may c = may_follow c.args.words.now.key.code.value c.args._job.now c.args.entry c.args.info.now c.args.cell c.args.place.now.me.0.known c.args.cells c.args.last c.read_info-word.result c.word_of_info.result c.read_info-word.new.seat.me.0.known c.fill_info.new.seat.me.0.known c.fill_cell_of.new.seat.me.0.known
    c.requires.settled.whole c.requires.fits c.word_of_info.ensures c.read_info-word.ensures.informs.known c.fill_info.ensures.known c.fill_cell_of.ensures.known c.requires.may

pub set_next-found-requires-clause-mask : goal.set_next-found-requires-clause-mask
set_next-found-requires-clause-mask c = c.mask_of_next-by.ensures ∙ ap (λ (z : EntryInfo). next_mask c.args.entry z.mode c.args.info.now.mode) c.info_of.ensures

pub hold_sent-requires-clause-told : goal.hold_sent-requires-clause-told
hold_sent-requires-clause-told c = behind_told c.args.words.now.key.code.value c.args._job.now c.args.entry c.args.info.now c.args.cell c.args.place.now.me.0.known c.args.cells c.args.last c.read_info-word.result c.word_of_info.result c.read_info-word.new.seat.me.0.known c.fill_info.new.seat.me.0.known c.fill_cell_of.new.seat.me.0.known
    c.requires.settled.whole c.requires.fits c.word_of_info.ensures c.read_info-word.ensures.informs.known c.fill_info.ensures.known c.fill_cell_of.ensures.known c.args.words.now.key.entries c.mask_of_next-by.result c.set_next-found.result c.set_next-found.new.seat.me.0.known c.set_next-found.ensures.linked

pub hold_sent-requires-clause-ready : goal.hold_sent-requires-clause-ready
hold_sent-requires-clause-ready c = behind_ready c.args.words.now.key.code.value c.args._job.now c.args.entry c.args.info.now c.args.cell c.args.place.now.me.0.known c.args.cells c.args.last c.read_info-word.result c.word_of_info.result c.read_info-word.new.seat.me.0.known c.fill_info.new.seat.me.0.known c.fill_cell_of.new.seat.me.0.known
    c.requires.settled.whole c.requires.fits c.word_of_info.ensures c.read_info-word.ensures.informs.known c.fill_info.ensures.known c.fill_cell_of.ensures.known c.args.words.now.key.entries c.mask_of_next-by.result c.set_next-found.result c.set_next-found.new.seat.me.0.known c.set_next-found.ensures.linked c.args.held.now.items c.requires.settled.ready c.requires.may.empty

pub returns-clause-settled : goal.returns-clause-settled
returns-clause-settled c = behind_settled c.args.words.now.key.code.value c.args._job.now c.args.entry c.args.info.now c.args.cell c.args.place.now.me.0.known c.args.cells c.args.last c.read_info-word.result c.word_of_info.result c.read_info-word.new.seat.me.0.known c.fill_info.new.seat.me.0.known c.fill_cell_of.new.seat.me.0.known
    c.requires.settled.whole c.requires.fits c.word_of_info.ensures c.read_info-word.ensures.informs.known c.fill_info.ensures.known c.fill_cell_of.ensures.known c.args.words.now.key.entries c.mask_of_next-by.result c.set_next-found.result c.set_next-found.new.seat.me.0.known c.set_next-found.ensures.linked
    c.hold_sent.new.place.me.0.known c.hold_sent.ensures.learns c.args.held.now.items c.hold_sent.new.held.items c.requires.settled c.read_info-word.ensures.informs.again c.hold_sent.ensures.ready

pub returns-clause-linked : goal.returns-clause-linked
returns-clause-linked c = behind_linked c.args.words.now.key.code.value c.args._job.now c.args.entry c.args.info.now c.args.cell c.args.place.now.me.0.known c.args.cells c.args.last c.read_info-word.result c.word_of_info.result c.read_info-word.new.seat.me.0.known c.fill_info.new.seat.me.0.known c.fill_cell_of.new.seat.me.0.known
    c.requires.settled.whole c.requires.fits c.word_of_info.ensures c.read_info-word.ensures.informs.known c.fill_info.ensures.known c.fill_cell_of.ensures.known c.args.words.now.key.entries c.mask_of_next-by.result c.set_next-found.result c.set_next-found.new.seat.me.0.known c.set_next-found.ensures.linked
    c.hold_sent.new.place.me.0.known c.hold_sent.ensures.learns (c.mask_of_next-by.ensures ∙ ap (λ (z : EntryInfo). next_mask c.args.entry z.mode c.args.info.now.mode) c.info_of.ensures)
