use Rattle.oss_field.proofs.LeftLemmas.{entry_hangs, has_left, is_written, may_write, ready_after, settled_after}
use Rattle.oss_field.proofs.MessageLemmas.{few}
use Rattle.std.proofs.Common.{[]}
use Rattle.oss_field.proofs.leaving.leave_there.Goals as goal

pub read_info-info-requires-clause-hangs : goal.read_info-info-requires-clause-hangs
read_info-info-requires-clause-hangs c = entry_hangs c.args.words.now.key.code.value c.args.job.now c.args.held.now.items c.args.words.now.key.entries c.args.cells c.args.place.now.me.0.known c.args.cell c.args.value c.args.entry c.requires.settled c.requires.may

pub write_value-requires-clause-may : goal.write_value-requires-clause-may
write_value-requires-clause-may c = may_write c.args.words.now.key.code.value c.args.job.now c.args.held.now.items c.args.words.now.key.entries c.args.cells c.args.place.now.me.0.known c.args.cell c.args.value c.args.entry c.requires.settled c.read_info-info.result c.read_info-info.new.seat.me.0.known c.read_info-info.ensures.informs.known c.requires.may

pub set_left-found-requires-clause-written : goal.set_left-found-requires-clause-written
set_left-found-requires-clause-written c = is_written c.args.words.now.key.code.value c.args.job.now c.args.held.now.items c.args.words.now.key.entries c.args.cells c.args.place.now.me.0.known c.args.cell c.args.value c.args.entry c.requires.settled c.read_info-info.result c.read_info-info.new.seat.me.0.known c.read_info-info.ensures.informs.known c.write_value.new.seat.me.0.known c.write_value.ensures.wrote

pub hold_join-requires-clause-few : goal.hold_join-requires-clause-few
hold_join-requires-clause-few c = few c.args.held.now.items [] c.args.place.now.me.0.known c.args.words.now.key.entries c.requires.settled.ready c.requires.settled.bounded

pub returns-clause-left : goal.returns-clause-left
returns-clause-left c =
    has_left c.args.words.now.key.code.value c.args.job.now c.args.held.now.items c.args.words.now.key.entries c.args.cells c.args.place.now.me.0.known c.args.cell c.args.value c.args.entry c.requires.settled c.read_info-info.result c.read_info-info.new.seat.me.0.known c.read_info-info.ensures.informs.known
    c.set_left-found.result c.write_value.new.seat.me.0.known c.set_left-found.new.seat.me.0.known c.write_value.ensures.wrote c.set_left-found.ensures.left c.requires.cells

pub returns-clause-settled : goal.returns-clause-settled
returns-clause-settled c =
    settled_after c.args.words.now.key.code.value c.args.job.now c.args.held.now.items c.args.words.now.key.entries c.args.cells c.args.place.now.me.0.known c.args.cell c.args.value c.args.entry c.requires.settled c.read_info-info.result c.read_info-info.new.seat.me.0.known c.read_info-info.ensures.informs.known
    c.set_left-found.result c.write_value.new.seat.me.0.known c.set_left-found.new.seat.me.0.known c.write_value.ensures.wrote c.set_left-found.ensures.left c.requires.cells
    c.hold_join.new.held.items c.read_info-info.ensures.informs.again
    (ready_after c.args.words.now.key.code.value c.args.job.now c.args.held.now.items c.args.words.now.key.entries c.args.cells c.args.place.now.me.0.known c.args.cell c.args.value c.args.entry c.requires.settled c.read_info-info.result c.read_info-info.new.seat.me.0.known c.read_info-info.ensures.informs.known
    c.set_left-found.result c.write_value.new.seat.me.0.known c.set_left-found.new.seat.me.0.known c.write_value.ensures.wrote c.set_left-found.ensures.left c.requires.cells
    c.hold_join.new.held.items c.hold_join.ensures.ready)
