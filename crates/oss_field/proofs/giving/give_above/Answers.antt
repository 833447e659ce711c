use Rattle.std.proofs.Common.{refl, sym, subst}
use Rattle.std.specs.Prelude.{Some}
use Rattle.oss_words.specs.Bits.{info_at}
use Rattle.oss_words.specs.Views.{Among}
use Rattle.oss_field.specs.Known.{Known}
use Rattle.oss_field.proofs.GivenLemmas.{both_gave, both_ready, both_told, half_given, last_hangs, may_half, settled_after}
use Rattle.oss_field.proofs.giving.give_above.Goals as goal

pub read_info-info-requires-clause-hangs : goal.read_info-info-requires-clause-hangs
read_info-info-requires-clause-hangs c = last_hangs c.args.words.now.key.code.value c.args.job.now c.args.held.now.items c.args.words.now.key.entries c.args.cells c.args.place.now.me.0.known c.args.cell c.requires.settled c.args.entry (Some c.args.last) c.requires.may c.args.last refl

pub give_half-requires-clause-may : goal.give_half-requires-clause-may
give_half-requires-clause-may c = may_half c.args.words.now.key.code.value c.args.job.now c.args.held.now.items c.args.words.now.key.entries c.args.cells c.args.place.now.me.0.known c.args.cell c.requires.settled c.args.entry (Some c.args.last) c.requires.may c.args.last c.read_info-info.result c.read_info-info.new.seat.me.0.known refl c.read_info-info.ensures.informs.known

pub give_rest-found-requires-clause-half : goal.give_rest-found-requires-clause-half
give_rest-found-requires-clause-half c = half_given c.args.words.now.key.code.value c.args.job.now c.args.held.now.items c.args.words.now.key.entries c.args.cells c.args.place.now.me.0.known c.args.cell c.requires.settled c.args.entry c.args.last c.read_info-info.result c.give_half.result c.read_info-info.new.seat.me.0.known c.give_half.new.seat.me.0.known c.read_info-info.ensures.informs.known c.give_half.ensures.gave

pub hold_sent-requires-clause-told : goal.hold_sent-requires-clause-told
hold_sent-requires-clause-told c =
    subst (λ (z : Known). Among (record { entry = c.args.last; info = info_at c.read_info-info.result }) z.told) (sym c.give_rest-found.ensures.gave.known)
    (half_given c.args.words.now.key.code.value c.args.job.now c.args.held.now.items c.args.words.now.key.entries c.args.cells c.args.place.now.me.0.known c.args.cell c.requires.settled c.args.entry c.args.last c.read_info-info.result c.give_half.result c.read_info-info.new.seat.me.0.known c.give_half.new.seat.me.0.known c.read_info-info.ensures.informs.known c.give_half.ensures.gave).told

pub hold_sent-requires-clause-ready : goal.hold_sent-requires-clause-ready
hold_sent-requires-clause-ready c =
    both_ready c.args.words.now.key.code.value c.args.job.now c.args.held.now.items c.args.words.now.key.entries c.args.cells c.args.place.now.me.0.known c.args.cell c.requires.settled c.args.entry c.args.last c.read_info-info.result c.give_half.result c.give_rest-found.result c.give_half.new.seat.me.0.known c.give_rest-found.new.seat.me.0.known c.give_rest-found.new.seat.me.0.known c.args.held.now.items c.read_info-info.new.seat.me.0.known
    c.requires.settled.ready c.requires.may.may.empty c.read_info-info.ensures.informs.known c.give_half.ensures.gave c.give_rest-found.ensures.gave

pub returns-clause-gave : goal.returns-clause-gave
returns-clause-gave c =
    both_gave c.args.words.now.key.code.value c.args.job.now c.args.held.now.items c.args.words.now.key.entries c.args.cells c.args.place.now.me.0.known c.args.cell c.requires.settled c.args.entry c.args.last c.read_info-info.result c.give_half.result c.give_rest-found.result c.give_half.new.seat.me.0.known c.give_rest-found.new.seat.me.0.known c.hold_sent.new.place.me.0.known c.read_info-info.new.seat.me.0.known c.read_info-info.ensures.informs.known c.give_half.ensures.gave c.give_rest-found.ensures.gave c.hold_sent.ensures.learns

pub returns-clause-settled : goal.returns-clause-settled
returns-clause-settled c =
    settled_after c.args.words.now.key.code.value c.args.job.now c.args.held.now.items c.args.words.now.key.entries c.args.cells c.args.place.now.me.0.known c.args.cell c.requires.settled c.hold_sent.new.held.items c.read_info-info.new.seat.me.0.known c.give_rest-found.new.seat.me.0.known c.hold_sent.new.place.me.0.known c.args.last c.read_info-info.result
    (both_gave c.args.words.now.key.code.value c.args.job.now c.args.held.now.items c.args.words.now.key.entries c.args.cells c.args.place.now.me.0.known c.args.cell c.requires.settled c.args.entry c.args.last c.read_info-info.result c.give_half.result c.give_rest-found.result c.give_half.new.seat.me.0.known c.give_rest-found.new.seat.me.0.known c.hold_sent.new.place.me.0.known c.read_info-info.new.seat.me.0.known c.read_info-info.ensures.informs.known c.give_half.ensures.gave c.give_rest-found.ensures.gave c.hold_sent.ensures.learns)
    c.read_info-info.ensures.informs.known c.read_info-info.ensures.informs.again
    (both_told c.args.words.now.key.code.value c.args.job.now c.args.held.now.items c.args.words.now.key.entries c.args.cells c.args.place.now.me.0.known c.args.cell c.requires.settled c.args.entry c.args.last c.read_info-info.result c.give_half.result c.give_rest-found.result c.give_half.new.seat.me.0.known c.give_rest-found.new.seat.me.0.known c.hold_sent.new.place.me.0.known c.read_info-info.new.seat.me.0.known c.read_info-info.ensures.informs.known c.give_half.ensures.gave c.give_rest-found.ensures.gave)
    c.give_rest-found.ensures.gave.bounded c.hold_sent.ensures.learns c.hold_sent.ensures.ready
