use Rattle.std.proofs.Common.{refl, ap}
use Rattle.std.specs.Prelude.{None}
use Rattle.oss_field.specs.Known.{Known}
use Rattle.oss_field.proofs.GivenLemmas.{entry_hangs, may_whole, settled_after, whole_gave, whole_ready}
use Rattle.oss_field.proofs.giving.give_childless.Goals as goal

pub read_info-info-requires-clause-hangs : goal.read_info-info-requires-clause-hangs
read_info-info-requires-clause-hangs c = entry_hangs c.args.words.now.key.code.value c.args.job.now c.args.held.now.items c.args.words.now.key.entries c.args.cells c.args.place.now.me.0.known c.args.cell c.requires.settled c.args.entry None c.requires.may

pub give_whole-found-requires-clause-may : goal.give_whole-found-requires-clause-may
give_whole-found-requires-clause-may c = may_whole c.args.words.now.key.code.value c.args.job.now c.args.held.now.items c.args.words.now.key.entries c.args.cells c.args.place.now.me.0.known c.args.cell c.requires.settled c.args.entry None c.requires.may c.read_info-info.result c.read_info-info.new.seat.me.0.known refl c.read_info-info.ensures.informs.known

pub hold_sent-requires-clause-ready : goal.hold_sent-requires-clause-ready
hold_sent-requires-clause-ready c =
    whole_ready c.args.words.now.key.code.value c.args.job.now c.args.held.now.items c.args.words.now.key.entries c.args.cells c.args.place.now.me.0.known c.args.cell c.requires.settled c.args.entry c.read_info-info.result c.give_whole-found.result c.give_whole-found.new.seat.me.0.known c.give_whole-found.new.seat.me.0.known c.args.held.now.items c.read_info-info.new.seat.me.0.known
    c.requires.settled.ready c.requires.may.may.empty c.read_info-info.ensures.informs.known c.give_whole-found.ensures.gave

pub returns-clause-gave : goal.returns-clause-gave
returns-clause-gave c =
    whole_gave c.args.words.now.key.code.value c.args.job.now c.args.held.now.items c.args.words.now.key.entries c.args.cells c.args.place.now.me.0.known c.args.cell c.requires.settled c.args.entry c.read_info-info.result c.give_whole-found.result c.give_whole-found.new.seat.me.0.known c.hold_sent.new.place.me.0.known c.read_info-info.new.seat.me.0.known
    c.read_info-info.ensures.informs.known c.give_whole-found.ensures.gave c.hold_sent.ensures.learns

pub returns-clause-settled : goal.returns-clause-settled
returns-clause-settled c =
    settled_after c.args.words.now.key.code.value c.args.job.now c.args.held.now.items c.args.words.now.key.entries c.args.cells c.args.place.now.me.0.known c.args.cell c.requires.settled c.hold_sent.new.held.items c.read_info-info.new.seat.me.0.known c.give_whole-found.new.seat.me.0.known c.hold_sent.new.place.me.0.known c.args.entry c.read_info-info.result
    (whole_gave c.args.words.now.key.code.value c.args.job.now c.args.held.now.items c.args.words.now.key.entries c.args.cells c.args.place.now.me.0.known c.args.cell c.requires.settled c.args.entry c.read_info-info.result c.give_whole-found.result c.give_whole-found.new.seat.me.0.known c.hold_sent.new.place.me.0.known c.read_info-info.new.seat.me.0.known
    c.read_info-info.ensures.informs.known c.give_whole-found.ensures.gave c.hold_sent.ensures.learns)
    c.read_info-info.ensures.informs.known c.read_info-info.ensures.informs.again (ap (λ (z : Known). z.told) c.give_whole-found.ensures.gave.step.known) c.give_whole-found.ensures.gave.step.bounded c.hold_sent.ensures.learns c.hold_sent.ensures.ready
