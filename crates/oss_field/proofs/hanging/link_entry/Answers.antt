use Rattle.oss_field.proofs.LinkedLemmas.{parent_named}
use Rattle.oss_field.proofs.hanging.link_entry.Goals as goal

pub link_below-requires-clause-may : goal.link_below-requires-clause-may
link_below-requires-clause-may c = parent_named c.args.words.now.key.code.value c.args.job.now c.args.entry c.args.info.now c.args.cell c.args.place.now.me.0.known c.args.after c.in-FirstOf.field-0 c.in-FirstOf.is c.requires.may
