use Rattle.oss_field.proofs.GivenLemmas.{here_given, last_inside}
use Rattle.oss_field.proofs.giving.give_entry.Goals as goal

pub give_there-requires-clause-may : goal.give_there-requires-clause-may
give_there-requires-clause-may c = here_given c.args.words.now.key.code.value c.args.job.now c.args.words.now.table_id c.args.words.now.key.entries c.args.place.now.me.0.known c.requires.on.slots c.requires.inside c.args.cell c.entry_there-there.result.0 c.entry_there-there.result.1 c.requires.may c.entry_there-there.ensures

pub give_there-requires-clause-inside : goal.give_there-requires-clause-inside
give_there-requires-clause-inside c = last_inside c.args.words.now.key.code.value c.args.job.now c.args.words.now.table_id c.args.words.now.key.entries c.args.place.now.me.0.known c.requires.on.slots c.requires.inside c.args.cell c.entry_there-there.result.0 c.entry_there-there.result.1 c.requires.may c.entry_there-there.ensures
