use Rattle.std.specs.Prelude.{Some}
use Rattle.oss_field.proofs.FirstLinkLemmas.{info_written, linked_whole, may_begin}
use Rattle.oss_field.proofs.linking.link_first_of.Goals as goal

pub fill_cell_of-requires-clause-fresh : goal.fill_cell_of-requires-clause-fresh
fill_cell_of-requires-clause-fresh c = (Some c.args.info.now, info_written c.args.cells c.args.entry c.args.info.now.task c.args.info.now c.word_of_info.result c.args.seat.now.me.0.known c.fill_info.new.seat.me.0.known c.requires.fits c.word_of_info.ensures c.requires.may.fresh c.fill_info.ensures.known)

pub open_list-requires-clause-may : goal.open_list-requires-clause-may
open_list-requires-clause-may c = (
  c.args.cell,
  may_begin c.args.words.now.key.code.value c.args.cells c.args.entry c.args.info.now c.word_of_info.result c.args.cell c.args.seat.now.me.0.known c.fill_info.new.seat.me.0.known c.fill_cell_of.new.seat.me.0.known
      c.requires.fits c.word_of_info.ensures c.requires.may c.fill_info.ensures.known c.fill_cell_of.ensures.known,
)

pub returns-clause-known : goal.returns-clause-known
returns-clause-known c = linked_whole c.args.cells c.args.entry c.word_of_info.result c.args.cell c.args.seat.now.me.0.known c.fill_info.new.seat.me.0.known c.fill_cell_of.new.seat.me.0.known c.open_list.new.seat.me.0.known
    c.fill_info.ensures.known c.fill_cell_of.ensures.known c.open_list.ensures.known
