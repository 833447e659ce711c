use Rattle.std.proofs.Common.{[], ◌∷◌}
use Rattle.oss_field.proofs.FoldedLemmas.{below_child, below_inside, below_none, below_notes, gives_after, midway_notes, notes_held, notes_more}
use Rattle.oss_field.proofs.folding.give_folded.Goals as goal

pub last_below-last-requires-clause-inside : goal.last_below-last-requires-clause-inside
last_below-last-requires-clause-inside c =
    below_inside c.args.words.now.key.entries c.args.cells c.args.entry c.read_below.result c.args.place.now.me.0.known c.read_below.new.seat.me.0.known c.read_below.ensures.reads c.state_of-state.result c.state_of-state.ensures c.if-state.true

pub last_below-last-requires-clause-held : goal.last_below-last-requires-clause-held
last_below-last-requires-clause-held c =
    notes_held c.args.place.now.me.0.known c.read_below.new.seat.me.0.known c.args.entry (below_notes c.args.words.now.key.entries c.args.cells c.args.entry c.read_below.result c.args.place.now.me.0.known c.read_below.new.seat.me.0.known c.read_below.ensures.reads c.state_of-state.result c.state_of-state.ensures) c.requires.midway.held

pub last_below-last-requires-clause-child : goal.last_below-last-requires-clause-child
last_below-last-requires-clause-child c =
    below_child c.args.words.now.key.entries c.args.cells c.args.entry c.read_below.result c.args.place.now.me.0.known c.read_below.new.seat.me.0.known c.read_below.ensures.reads c.state_of-state.result c.state_of-state.ensures c.if-state.true

pub give_joined_above-requires-clause-midway : goal.give_joined_above-requires-clause-midway
give_joined_above-requires-clause-midway c =
    midway_notes c.args.held.now.items c.args.words.now.key.entries c.args.entry c.args.info (c.args.entry ∷ []) c.args.place.now.me.0.known c.last_below-last.new.place.me.0.known c.requires.midway (notes_more c.args.place.now.me.0.known c.read_below.new.seat.me.0.known c.last_below-last.new.place.me.0.known (below_notes c.args.words.now.key.entries c.args.cells c.args.entry c.read_below.result c.args.place.now.me.0.known c.read_below.new.seat.me.0.known c.read_below.ensures.reads c.state_of-state.result c.state_of-state.ensures) c.last_below-last.ensures.notes)

pub give_joined-requires-clause-midway : goal.give_joined-requires-clause-midway
give_joined-requires-clause-midway c =
    midway_notes c.args.held.now.items c.args.words.now.key.entries c.args.entry c.args.info (c.args.entry ∷ []) c.args.place.now.me.0.known c.read_below.new.seat.me.0.known c.requires.midway (below_notes c.args.words.now.key.entries c.args.cells c.args.entry c.read_below.result c.args.place.now.me.0.known c.read_below.new.seat.me.0.known c.read_below.ensures.reads c.state_of-state.result c.state_of-state.ensures)

pub give_joined-requires-clause-none : goal.give_joined-requires-clause-none
give_joined-requires-clause-none c =
    below_none c.args.words.now.key.entries c.args.cells c.args.entry c.read_below.result c.args.place.now.me.0.known c.read_below.new.seat.me.0.known c.read_below.ensures.reads c.state_of-state.result c.state_of-state.ensures c.if-state.false

pub returns-then-state-clause-gives : goal.returns-then-state-clause-gives
returns-then-state-clause-gives c = gives_after c.args.entry c.args.info c.args.place.now.me.0.known c.last_below-last.new.place.me.0.known c.give_joined_above.new.place.me.0.known (notes_more c.args.place.now.me.0.known c.read_below.new.seat.me.0.known c.last_below-last.new.place.me.0.known (below_notes c.args.words.now.key.entries c.args.cells c.args.entry c.read_below.result c.args.place.now.me.0.known c.read_below.new.seat.me.0.known c.read_below.ensures.reads c.state_of-state.result c.state_of-state.ensures) c.last_below-last.ensures.notes) c.give_joined_above.ensures.gives

pub returns-else-state-clause-gives : goal.returns-else-state-clause-gives
returns-else-state-clause-gives c = gives_after c.args.entry c.args.info c.args.place.now.me.0.known c.read_below.new.seat.me.0.known c.give_joined.new.place.me.0.known (below_notes c.args.words.now.key.entries c.args.cells c.args.entry c.read_below.result c.args.place.now.me.0.known c.read_below.new.seat.me.0.known c.read_below.ensures.reads c.state_of-state.result c.state_of-state.ensures) c.give_joined.ensures.gives
