use Rattle.oss_field.proofs.LeftLemmas.{leaves_here}
use Rattle.oss_field.proofs.leaving.leave_value.Goals as goal

pub leave_there-requires-clause-may : goal.leave_there-requires-clause-may
leave_there-requires-clause-may c = leaves_here c.args.words.now.key.code.value c.args.job.now c.args.words.now.table_id c.args.words.now.key.entries c.args.place.now.me.0.known c.requires.on.slots c.requires.inside c.args.cell c.args.value c.entry-entry.result c.requires.may c.entry-entry.ensures.entry
