use Rattle.oss_field.specs.Marks.{has_last}
use Rattle.oss_field.specs.Messages.{by_mark}
use Rattle.oss_field.proofs.FoldedLemmas.{above_mark, above_midway, combined_midway, half_is, half_mark, half_told, half_unjoined, rest_gives, rest_last, rest_ready, rest_settled, rest_told, rest_work}
use Rattle.oss_field.proofs.MessageLemmas.{learns_none}
use Rattle.oss_field.proofs.folding.give_joined_above.Goals as goal

pub read_info-child-requires-clause-hangs : goal.read_info-child-requires-clause-hangs
read_info-child-requires-clause-hangs c =
    by_mark c.args.entry c.requires.last

pub join_half-was-requires-clause-combined : goal.join_half-was-requires-clause-combined
join_half-was-requires-clause-combined c =
    combined_midway c.args.held.now.items c.args.words.now.key.entries c.args.entry c.args.info c.read_info-child.new.seat.me.0.known (above_midway c.args.held.now.items c.args.words.now.key.entries c.args.cells c.args.entry c.args.info c.args.last c.read_info-child.result c.args.place.now.me.0.known c.read_info-child.new.seat.me.0.known c.requires.midway c.read_info-child.ensures.informs)

pub join_half-was-requires-clause-last : goal.join_half-was-requires-clause-last
join_half-was-requires-clause-last c =
    above_mark c.args.held.now.items c.args.words.now.key.entries c.args.cells c.args.entry c.args.info c.args.last c.read_info-child.result c.args.place.now.me.0.known c.read_info-child.new.seat.me.0.known c.requires.midway c.read_info-child.ensures.informs (has_last c.args.last) c.requires.last

pub join_rest-found-requires-clause-half : goal.join_rest-found-requires-clause-half
join_rest-found-requires-clause-half c =
    half_is c.args.held.now.items c.args.words.now.key.entries c.args.cells c.args.entry c.args.info c.args.last c.read_info-child.result c.args.place.now.me.0.known c.read_info-child.new.seat.me.0.known c.requires.midway c.read_info-child.ensures.informs c.join_half-was.result c.join_half-was.new.seat.me.0.known c.join_half-was.ensures.joins

pub join_rest-found-requires-clause-told : goal.join_rest-found-requires-clause-told
join_rest-found-requires-clause-told c =
    half_told c.args.held.now.items c.args.words.now.key.entries c.args.cells c.args.entry c.args.info c.args.last c.read_info-child.result c.args.place.now.me.0.known c.read_info-child.new.seat.me.0.known c.requires.midway c.read_info-child.ensures.informs c.join_half-was.result c.join_half-was.new.seat.me.0.known c.join_half-was.ensures.joins

pub join_rest-found-requires-clause-unjoined : goal.join_rest-found-requires-clause-unjoined
join_rest-found-requires-clause-unjoined c =
    half_unjoined c.args.held.now.items c.args.words.now.key.entries c.args.cells c.args.entry c.args.info c.args.last c.read_info-child.result c.args.place.now.me.0.known c.read_info-child.new.seat.me.0.known c.requires.midway c.read_info-child.ensures.informs c.join_half-was.result c.join_half-was.new.seat.me.0.known c.join_half-was.ensures.joins

pub join_rest-found-requires-clause-last : goal.join_rest-found-requires-clause-last
join_rest-found-requires-clause-last c =
    half_mark c.args.held.now.items c.args.words.now.key.entries c.args.cells c.args.entry c.args.info c.args.last c.read_info-child.result c.args.place.now.me.0.known c.read_info-child.new.seat.me.0.known c.requires.midway c.read_info-child.ensures.informs c.join_half-was.result c.join_half-was.new.seat.me.0.known c.join_half-was.ensures.joins (has_last c.args.last) c.requires.last

pub hold_sent-requires-clause-told : goal.hold_sent-requires-clause-told
hold_sent-requires-clause-told c =
    rest_told c.args.held.now.items c.args.words.now.key.entries c.args.cells c.args.entry c.args.info c.args.last c.read_info-child.result c.args.place.now.me.0.known c.read_info-child.new.seat.me.0.known c.requires.midway c.read_info-child.ensures.informs c.join_half-was.result c.join_half-was.new.seat.me.0.known c.join_half-was.ensures.joins c.join_rest-found.result c.join_rest-found.new.seat.me.0.known c.join_rest-found.new.seat.me.0.known c.join_rest-found.ensures.gave (learns_none c.join_rest-found.new.seat.me.0.known)

pub hold_sent-requires-clause-ready : goal.hold_sent-requires-clause-ready
hold_sent-requires-clause-ready c =
    rest_ready c.args.held.now.items c.args.words.now.key.entries c.args.cells c.args.entry c.args.info c.args.last c.read_info-child.result c.args.place.now.me.0.known c.read_info-child.new.seat.me.0.known c.requires.midway c.read_info-child.ensures.informs c.join_half-was.result c.join_half-was.new.seat.me.0.known c.join_half-was.ensures.joins c.join_rest-found.result c.join_rest-found.new.seat.me.0.known c.join_rest-found.new.seat.me.0.known c.join_rest-found.ensures.gave (learns_none c.join_rest-found.new.seat.me.0.known)

pub returns-clause-settled : goal.returns-clause-settled
returns-clause-settled c =
    rest_settled c.args.held.now.items c.args.words.now.key.entries c.args.cells c.args.entry c.args.info c.args.last c.read_info-child.result c.args.place.now.me.0.known c.read_info-child.new.seat.me.0.known c.requires.midway c.read_info-child.ensures.informs c.join_half-was.result c.join_half-was.new.seat.me.0.known c.join_half-was.ensures.joins c.join_rest-found.result c.join_rest-found.new.seat.me.0.known c.hold_sent.new.place.me.0.known c.join_rest-found.ensures.gave c.hold_sent.ensures.learns c.hold_sent.new.held.items c.hold_sent.ensures.ready

pub returns-clause-gives : goal.returns-clause-gives
returns-clause-gives c =
    rest_gives c.args.held.now.items c.args.words.now.key.entries c.args.cells c.args.entry c.args.info c.args.last c.read_info-child.result c.args.place.now.me.0.known c.read_info-child.new.seat.me.0.known c.requires.midway c.read_info-child.ensures.informs c.join_half-was.result c.join_half-was.new.seat.me.0.known c.join_half-was.ensures.joins c.join_rest-found.result c.join_rest-found.new.seat.me.0.known c.hold_sent.new.place.me.0.known c.join_rest-found.ensures.gave c.hold_sent.ensures.learns c.requires.last

pub returns-clause-last : goal.returns-clause-last
returns-clause-last c =
    rest_last c.args.held.now.items c.args.words.now.key.entries c.args.cells c.args.entry c.args.info c.args.last c.read_info-child.result c.args.place.now.me.0.known c.read_info-child.new.seat.me.0.known c.requires.midway c.read_info-child.ensures.informs c.join_half-was.result c.join_half-was.new.seat.me.0.known c.join_half-was.ensures.joins c.join_rest-found.result c.join_rest-found.new.seat.me.0.known c.hold_sent.new.place.me.0.known c.join_rest-found.ensures.gave c.hold_sent.ensures.learns

pub returns-clause-work : goal.returns-clause-work
returns-clause-work c =
    rest_work c.args.held.now.items c.args.words.now.key.entries c.args.cells c.args.entry c.args.info c.args.last c.read_info-child.result c.args.place.now.me.0.known c.read_info-child.new.seat.me.0.known c.requires.midway c.read_info-child.ensures.informs c.join_half-was.result c.join_half-was.new.seat.me.0.known c.join_half-was.ensures.joins c.join_rest-found.result c.join_rest-found.new.seat.me.0.known c.hold_sent.new.place.me.0.known c.join_rest-found.ensures.gave c.hold_sent.ensures.learns
