use Rattle.oss_field.proofs.FoldedLemmas.{combined_midway, whole_gives, whole_last, whole_ready, whole_settled, whole_told, whole_work}
use Rattle.oss_field.proofs.MessageLemmas.{learns_none}
use Rattle.oss_field.proofs.folding.give_joined.Goals as goal

pub join_whole-found-requires-clause-combined : goal.join_whole-found-requires-clause-combined
join_whole-found-requires-clause-combined c = combined_midway c.args.held.now.items c.args.words.now.key.entries c.args.entry c.args.info c.args.place.now.me.0.known c.requires.midway

pub hold_sent-requires-clause-told : goal.hold_sent-requires-clause-told
hold_sent-requires-clause-told c =
    let k1 = c.join_whole-found.new.seat.me.0.known in
    whole_told c.args.held.now.items c.args.words.now.key.entries c.args.cells c.args.entry c.args.info c.join_whole-found.result c.args.place.now.me.0.known k1 k1 c.requires.midway c.join_whole-found.ensures.joins (learns_none k1)

pub hold_sent-requires-clause-ready : goal.hold_sent-requires-clause-ready
hold_sent-requires-clause-ready c =
    let k1 = c.join_whole-found.new.seat.me.0.known in
    whole_ready c.args.held.now.items c.args.words.now.key.entries c.args.cells c.args.entry c.args.info c.join_whole-found.result c.args.place.now.me.0.known k1 k1 c.requires.midway c.join_whole-found.ensures.joins (learns_none k1)

pub returns-clause-settled : goal.returns-clause-settled
returns-clause-settled c =
    whole_settled c.args.held.now.items c.args.words.now.key.entries c.args.cells c.args.entry c.args.info c.join_whole-found.result c.args.place.now.me.0.known c.join_whole-found.new.seat.me.0.known c.hold_sent.new.place.me.0.known c.requires.midway c.join_whole-found.ensures.joins c.hold_sent.ensures.learns c.hold_sent.new.held.items c.hold_sent.ensures.ready

pub returns-clause-gives : goal.returns-clause-gives
returns-clause-gives c =
    whole_gives c.args.held.now.items c.args.words.now.key.entries c.args.cells c.args.entry c.args.info c.join_whole-found.result c.args.place.now.me.0.known c.join_whole-found.new.seat.me.0.known c.hold_sent.new.place.me.0.known c.requires.midway c.join_whole-found.ensures.joins c.hold_sent.ensures.learns c.requires.none

pub returns-clause-last : goal.returns-clause-last
returns-clause-last c =
    whole_last c.args.held.now.items c.args.words.now.key.entries c.args.cells c.args.entry c.args.info c.join_whole-found.result c.args.place.now.me.0.known c.join_whole-found.new.seat.me.0.known c.hold_sent.new.place.me.0.known c.requires.midway c.join_whole-found.ensures.joins c.hold_sent.ensures.learns

pub returns-clause-work : goal.returns-clause-work
returns-clause-work c =
    whole_work c.args.held.now.items c.args.words.now.key.entries c.args.cells c.args.entry c.args.info c.join_whole-found.result c.args.place.now.me.0.known c.join_whole-found.new.seat.me.0.known c.hold_sent.new.place.me.0.known c.requires.midway c.join_whole-found.ensures.joins c.hold_sent.ensures.learns
