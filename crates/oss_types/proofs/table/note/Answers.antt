use Rattle.std.proofs.Common.{rules}
use Rattle.oss_types.proofs.PlaceLemmas.{noted, stays}
use Rattle.oss_types.proofs.table.note.Goals as goal

pub returns-in_ok-insert-clause-noted : goal.returns-in_ok-insert-clause-noted
returns-in_ok-insert-clause-noted c = λ names told size. noted c.args.places.now c.insert.new.self c.args.name.now names c.args.place (search rules) c.in_ok-insert.ensures.updates size told

pub returns-else-not-contains_key-clause-noted : goal.returns-else-not-contains_key-clause-noted
returns-else-not-contains_key-clause-noted c = λ names told size. stays c.args.places.now names c.args.name.now (search rules) told
