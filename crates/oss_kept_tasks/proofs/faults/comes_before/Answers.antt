use Rattle.oss_kept_tasks.proofs.LeastLemmas.{after_not, before_is, same_not, seen_key}
use Rattle.oss_kept_tasks.proofs.faults.comes_before.Goals as goal

pub returns-in-Less : goal.returns-in-Less
returns-in-Less c = λ kind line other f. before_is c.args.key.now c.in-Some.seen.key.now other (seen_key c.args.body.now c.in-Some.seen.kind kind c.in-Some.seen.line line c.in-Some.seen.key.now other c.in-Some.ensures f) c.in-Less.ensures.order

pub returns-in-Equal : goal.returns-in-Equal
returns-in-Equal c = λ kind line other f. same_not c.args.key.now c.in-Some.seen.key.now other (seen_key c.args.body.now c.in-Some.seen.kind kind c.in-Some.seen.line line c.in-Some.seen.key.now other c.in-Some.ensures f) c.in-Equal.ensures.order

pub returns-in-Greater : goal.returns-in-Greater
returns-in-Greater c = λ kind line other f. after_not c.args.key.now c.in-Some.seen.key.now other (seen_key c.args.body.now c.in-Some.seen.kind kind c.in-Some.seen.line line c.in-Some.seen.key.now other c.in-Some.ensures f) c.in-Greater.ensures.order
