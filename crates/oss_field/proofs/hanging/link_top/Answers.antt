use Rattle.oss_field.proofs.LinkedLemmas.{may_first, top_linked, top_settled}
use Rattle.oss_field.proofs.hanging.link_top.Goals as goal

pub link_first_of-requires-clause-may : goal.link_first_of-requires-clause-may
link_first_of-requires-clause-may c = may_first c.args.words.now.key.code.value c.args._job.now c.args.entry c.args.info.now c.args.cell c.args.place.now.me.0.known c.requires.may

pub returns-clause-settled : goal.returns-clause-settled
returns-clause-settled c = top_settled c.args.cells c.args.entry c.args.words.now.key.entries c.args.held.now.items c.args.place.now.me.0.known c.link_first_of.new.seat.me.0.known c.link_first_of.ensures.known c.requires.settled

pub returns-clause-linked : goal.returns-clause-linked
returns-clause-linked c = top_linked c.args.cells c.args.entry c.args.info.now c.args.place.now.me.0.known c.link_first_of.new.seat.me.0.known c.link_first_of.ensures.known c.requires.may.empty
